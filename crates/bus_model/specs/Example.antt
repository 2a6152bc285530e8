-- What four runs of the machine show: with one station an entry in each way, none for a message with a gap inside, and one after a
-- takeover; with two a session that one of them asked for, and who holds an address that both claimed.
use Rattle.std.specs.Prelude.{◌≡◌, List, [], ◌∷◌, None, Some, length}
use Rattle.trouble_code.specs.Code.{code}
use Rattle.fault_memory.specs.Memory.{MemoryValue, new_memory}
use Rattle.dm_messages.specs.declared.kind.Kind.TheVariants.{Dm1, Dm2}
use Rattle.dm_messages.specs.View.{view}
use Rattle.bus_model.specs.Heard.{StationSettings, address_heard, entries_heard}
use Rattle.bus_model.specs.Expected.{readings}
use Rattle.bus_model.specs.Machine.{IsAt, Station, World}

-- a station with NAME 1 that claims address 249
abbrev pub example_settings : StationSettings
example_settings = record { name = 1; address = 249 }

-- that one alone, and with one of NAME 2 that claims address 250
abbrev pub one_station : List StationSettings
one_station = example_settings ∷ []

abbrev pub two_stations : List StationSettings
two_stations = example_settings ∷ record { name = 2; address = 250 } ∷ []

-- both claim one address
abbrev pub two_at_one_address : List StationSettings
two_at_one_address = record { name = 1; address = 249 } ∷ record { name = 2; address = 249 } ∷ []

-- two active codes and two previous ones, so each of its views takes two packets
abbrev pub faulty_memory : MemoryValue
faulty_memory = record new_memory { active = code 100 1 1 ∷ code 200 2 1 ∷ []; previous = code 300 3 1 ∷ code 400 4 1 ∷ [] }

-- of NAME 5 a DM1 in one frame, then one by broadcast, and a DM2 by session
pub record ShowsEachWay (w : World) : Type 0 where
  pub station : Station
  pub only : IsAt w 0 station
  pub begun : length w.begun ≡ 3
  pub single_and_broadcast : entries_heard example_settings 5 Dm1 (readings station.path) ≡ view Dm1 faulty_memory ∷ view Dm1 new_memory ∷ []
  pub session : entries_heard example_settings 5 Dm2 (readings station.path) ≡ view Dm2 faulty_memory ∷ []

-- of NAME 5 no DM1, since a packet of its one message was missed; of NAME 4, which took the address of NAME 5, one
pub record ShowsAfterTakeover (w : World) : Type 0 where
  pub station : Station
  pub only : IsAt w 0 station
  pub begun : length w.begun ≡ 2
  pub gap_inside : entries_heard example_settings 5 Dm1 (readings station.path) ≡ []
  pub after_takeover : entries_heard example_settings 4 Dm1 (readings station.path) ≡ view Dm1 new_memory ∷ []

-- of NAME 5 a DM2 by session at the second station, which asked for it, and none at the first
pub record ShowsAtSecondAlone (w : World) : Type 0 where
  pub one : Station
  pub two : Station
  pub first : IsAt w 0 one
  pub second : IsAt w 1 two
  pub nothing : entries_heard one.settings 5 Dm2 (readings one.path) ≡ []
  pub session : entries_heard two.settings 5 Dm2 (readings two.path) ≡ view Dm2 faulty_memory ∷ []

-- of two stations that claimed 249 the one of the lower NAME holds it, and the other holds none
pub record ContestsAddress (w : World) : Type 0 where
  pub one : Station
  pub two : Station
  pub first : IsAt w 0 one
  pub second : IsAt w 1 two
  pub kept : address_heard one.settings (readings one.path) ≡ Some 249
  pub lost : address_heard two.settings (readings two.path) ≡ None
