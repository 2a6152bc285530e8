-- What two runs of a garage with two stations show. In the first each kind of message comes to both stations, but a session only to the
-- one that asked for it. In the second a unit loses its address to a lower NAME, and its broadcast is cut.
use Rattle.std.specs.Prelude.{◌≡◌, ℕ, List, [], ◌∷◌, map, reverse, Some, None}
use Rattle.std.specs.List.{filter}
use Rattle.can_frame.specs.FrameValue.{FrameValue}
use Rattle.can_frame.specs.declared.address.TheConstants.{GLOBAL_ADDRESS}
use Rattle.can_frame.specs.declared.group_numbers.TheConstants.{DM1, DM2}
use Rattle.address_claim.specs.Frames.{claim_frame_value}
use Rattle.requests.specs.Layouts.{request_frame_value}
use Rattle.transport.specs.Messages.{control_frame, part_of_message}
use Rattle.transport.specs.declared.control.Control.TheVariants.{Cts, EndAck}
use Rattle.fault_memory.specs.Memory.{MemoryValue, new_memory}
use Rattle.dm_messages.specs.declared.kind.Kind.{Kind}
use Rattle.dm_messages.specs.declared.kind.Kind.TheVariants.{Dm1, Dm2, Dm6}
use Rattle.dm_messages.specs.declared.shown.Shown.{Shown}
use Rattle.dm_messages.specs.View.{payload_of, view}
use Rattle.bus_ledger.specs.Ledger.{is_from}
use Rattle.bus_model.specs.Example.{faulty_memory}
use Rattle.station_table.specs.declared.reaction.Ask.TheVariants as ask
use Rattle.journal.specs.State.{Settings, State, unit_at}
use Rattle.journal.specs.Journal.{GarageValue, injected_of, known_address_at, shown_at, state_of}
use Rattle.journal.specs.Promises.{IsLawful}
use Rattle.journal.specs.declared.order.Order.TheVariants.{Ask}
use Rattle.journal.specs.declared.event.Event.{Event}
use Rattle.journal.specs.declared.event.Event.TheVariants.{Join, Hear, Begin, Turned, Carry, Read, Ordered}

-- a station of NAME 1 that claims address 249, and one of NAME 2 that claims 250
abbrev pub two_station_settings : Settings
two_station_settings = record {
  stations = record { name = 1; address = 249; window = 64; grant = 16 } ∷ record { name = 2; address = 250; window = 64; grant = 16 } ∷ [];
  limit = 100;
}

-- two active codes, two previous ones and a pending one: a DM1 and a DM2 take two packets each, a DM6 one frame
abbrev pub memory_of_each : MemoryValue
memory_of_each = record faulty_memory { pending = record { spn = 500; fmi = 5; count = 1 } ∷ [] }

-- what was chosen, newest first: who joined, what a unit began of its own accord, what a station was told to send, who left
unfoldable pub choices : List Event → List Event
choices [] = []
choices (Hear k memory answered ∷ older) = choices older
choices (Turned k ∷ older) = choices older
choices (Carry k ∷ older) = choices older
choices (Read y r ∷ older) = choices older
choices (e ∷ older) = e ∷ choices older

-- of each message begun, the oldest first, the NAME of its unit, its kind and the address that it goes to
abbrev pub told_of_begun : State → List (ℕ × Kind × ℕ)
told_of_begun s = reverse (map (λ m. (m.name, m.kind, m.destination)) s.begun)

-- the frames carried of a seat, the oldest first
abbrev pub frames_from : ℕ → State → List FrameValue
frames_from k s = map (λ c. c.frame) (filter (is_from k) s.traffic.wire)

-- a garage with these two stations, into which no frame came from outside, and whose events all fit; what was chosen in it, and the
-- messages begun
pub record IsExample (g : GarageValue) (chosen : List Event) (begun : List (ℕ × Kind × ℕ)) : Type 0 where
  pub settings : g.settings ≡ two_station_settings
  pub lawful : IsLawful g
  pub closed : injected_of g.journal ≡ 0
  pub choices_are : reverse (choices g.journal) ≡ chosen
  pub begun_are : told_of_begun (state_of g) ≡ begun

-- both stations are to show these of a NAME's messages of that kind
pub record AreShownAtBoth (g : GarageValue) (name : ℕ) (k : Kind) (shown : List Shown) : Type 0 where
  pub at_first : shown_at g 0 name k ≡ shown
  pub at_second : shown_at g 1 name k ≡ shown

-- A unit of NAME 5 joins at address 0 and begins a DM1. The station with this number asks for its DM2, the first one for its DM6. The DM2
-- goes to the one that asked, which clears to send and ends the session; that one alone is to show it. Both are to show the others.
pub record ShowsEachKind (asking : ℕ) (g : GarageValue) : Type 0 where
  pub run : IsExample g
      (Join 2 5 0 ∷ Begin 2 memory_of_each ∷ Ordered asking (Ask 5 ask.Dm2) ∷ Ordered 0 (Ask 5 ask.Dm6) ∷ [])
      ((5, Dm1, GLOBAL_ADDRESS) ∷ (5, Dm2, 250) ∷ (5, Dm6, GLOBAL_ADDRESS) ∷ [])
  pub claimed : known_address_at g asking 5 ≡ Some 0
  pub session : frames_from asking (state_of g)
      ≡ claim_frame_value 2 (Some 250) ∷ request_frame_value (record { pgn = DM2; dest = 0; source = 250 }) ∷ control_frame (Cts 2 1 DM2) 250 0 ∷ control_frame (EndAck 10 2 DM2) 250 0 ∷ []
  pub ended : (unit_at (state_of g) 2).node.session ≡ None
  pub dm1 : AreShownAtBoth g 5 Dm1 (view Dm1 memory_of_each ∷ [])
  pub dm2 : shown_at g asking 5 Dm2 ≡ view Dm2 memory_of_each ∷ []
  pub dm2_at_first : shown_at g 0 5 Dm2 ≡ []
  pub dm6 : AreShownAtBoth g 5 Dm6 (view Dm6 memory_of_each ∷ [])

-- A unit of the higher NAME joins at address 0 and begins a DM1; then one of the lower joins there, and begins one too. Of the first the
-- claim, two of the DM1's three frames and a cannot claim are carried. It has no address then, so it begins nothing more. Of its DM1
-- both stations are to show nothing, and they are to show that of the other.
pub record TakesOver (lower higher : ℕ) (g : GarageValue) : Type 0 where
  pub run : IsExample g
      (Join 2 higher 0 ∷ Begin 2 memory_of_each ∷ Join 3 lower 0 ∷ Begin 3 new_memory ∷ [])
      ((higher, Dm1, GLOBAL_ADDRESS) ∷ (lower, Dm1, GLOBAL_ADDRESS) ∷ [])
  pub cut : frames_from 2 (state_of g)
      ≡ claim_frame_value higher (Some 0) ∷ part_of_message (payload_of Dm1 memory_of_each) DM1 0 GLOBAL_ADDRESS 0 ∷ part_of_message (payload_of Dm1 memory_of_each) DM1 0 GLOBAL_ADDRESS 1 ∷ claim_frame_value higher None ∷ []
  pub lost : (unit_at (state_of g) 2).node.claimer.held ≡ None
  pub held : (unit_at (state_of g) 3).node.claimer.held ≡ Some 0
  pub nothing : AreShownAtBoth g higher Dm1 []
  pub its_own : AreShownAtBoth g lower Dm1 (view Dm1 new_memory ∷ [])
