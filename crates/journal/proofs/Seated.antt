-- When a unit's seat on the bus, with what the unit keeps, is a seat of the law's machine.
use Rattle.std.proofs.Common.{ℕ, ◌≡◌, ◌+◌, ◌<◌, ◌≤◌, ◌^◌, List, [], ◌∷◌, reverse, take, length, get_or, true, false, Option, Some, None}
use Rattle.bus_ledger.specs.BusValue.{SeatValue, seat_at}
use Rattle.bus_ledger.specs.declared.traffic.QueuedFrame.{QueuedFrame}
use Rattle.bus_ledger.specs.declared.traffic.CarriedFrame.{CarriedFrame}
use Rattle.bus_ledger.specs.declared.traffic.Tag.{Tag}
use Rattle.bus_model.specs.Messages.{Message, Session, way_of, is_session, payload_sent}
use Rattle.bus_model.specs.Traffic.{Item, Tag as PartOf}
use Rattle.bus_model.specs.Expected.{Reception, passed}
use Rattle.address_claim.specs.Claiming.{CanHold}
use Rattle.bus_model.specs.Machine.{Seat}
use Rattle.dm_messages.specs.View.{pgn_of_kind}
use Rattle.node_core.specs.declared.session.OpenSession.{OpenSession}
use Rattle.journal.specs.State.{Settings, State, StationSetting, UnitState, new_unit, path_at, setting_at}
use Rattle.journal.specs.Steps.{message_numbered, seat_number_of}
use Rattle.journal.specs.Worlds.{items_of, queue_of}

-- a tag names a message begun, and says whether it is a session
pub record IsPartTag (begun : List Message) (t : Tag) : Type 0 where
  pub message : Message
  pub found : message_numbered t.message begun ≡ Some message
  pub kind : t.session ≡ is_session (way_of message)
  pub number : t.message < length begun

abbrev pub IsKnown : List Message → Option Tag → Type 0
IsKnown begun None = Unit {0}
IsKnown begun (Some t) = IsPartTag begun t

abbrev pub AreKnown : List Message → List QueuedFrame → Type 0
AreKnown begun [] = Unit {0}
AreKnown begun (q ∷ qs) = IsKnown begun q.tag × AreKnown begun qs

-- the unit's open session is that of the machine
pub record IsSession (begun : List Message) (i n : ℕ) (held : Option ℕ) (o : OpenSession) (t : PartOf) : Type 0 where
  pub found : message_numbered i begun ≡ Some t.message
  pub number : i < length begun
  pub kind : t.message.kind ≡ o.kind
  pub name : t.message.name ≡ n
  pub payload : o.sending.payload ≡ payload_sent t.message
  pub destination : o.sending.dest ≡ t.message.destination
  pub pgn : o.sending.pgn ≡ pgn_of_kind o.kind
  pub source : held ≡ Some t.message.source
  pub part : t.part ≡ o.sending.queued
  pub way : way_of t.message ≡ Session t.message.destination

abbrev pub AreSession : List Message → ℕ → ℕ → Option ℕ → Option OpenSession → Option PartOf → Type 0
AreSession begun number name held None None = Unit {0}
AreSession begun number name held (Some o) (Some t) = IsSession begun number name held o t
AreSession begun number name held _ _ = ⊥

-- the NAME of a seat, the NAME and the address of its claimer, and those of the machine's seat are one
pub record AreOneUnit (n claimer : ℕ) (address : Option ℕ) (m : ℕ) (a : Option ℕ) : Type 0 where
  pub name : m ≡ n
  pub own : claimer ≡ n
  pub small : n < 2 ^ 64
  pub held : a ≡ address
  pub holdable : CanHold address

-- a seat on the bus, what its unit keeps, and the machine's seat, with these messages begun and these items carried
pub record IsSeat (begun : List Message) (items : List Item) (v : SeatValue) (u : UnitState) (x : Seat) : Type 0 where
  pub unit : AreOneUnit v.name u.node.claimer.name u.node.claimer.held x.name x.held
  pub live : x.live ≡ v.live
  pub queue : x.queue ≡ queue_of begun x.number v
  pub known : AreKnown begun v.queue
  pub heard : x.heard ≡ reverse (take v.heard items)
  pub within : v.heard ≤ length items
  pub session : AreSession begun u.session_message v.name u.node.claimer.held u.node.session x.session
  pub owner : (t : PartOf) → x.session ≡ Some t → t.message.seat ≡ x.number

abbrev pub no_seat : Seat
no_seat = record { number = 0; name = 0; live = false; held = None; queue = []; heard = []; session = None }

-- a carried frame's seat was given, and its tag names a message begun
pub record IsCarried (begun : List Message) (seats : ℕ) (c : CarriedFrame) : Type 0 where
  pub seat : seat_number_of c.seat < seats
  pub known : IsKnown begun c.tag

abbrev pub AreCarried : List Message → ℕ → List CarriedFrame → Type 0
AreCarried begun seats [] = Unit {0}
AreCarried begun seats (c ∷ cs) = IsCarried begun seats c × AreCarried begun seats cs

-- a station's seat on the bus, and what the station has of the wire, with these messages begun and these items carried
pub record IsPost (r : StationSetting) (begun : List Message) (items : List Item) (v : SeatValue) (path : List Reception) : Type 0 where
  pub name : v.name ≡ r.name
  pub live : v.live ≡ true
  pub known : AreKnown begun v.queue
  pub within : v.heard ≤ length items
  pub passed' : passed path ≡ reverse (take v.heard items)

-- the state, with these seats, is a world of the machine; units sit behind the stations
pub record Stands (r : Settings) (s : State) (seats : List Seat) : Type 0 where
  pub settings : length s.stations ≡ length r.stations
  pub windows : length s.traffic.windows ≡ length s.stations
  pub posts : (y : ℕ) → y < length s.stations → IsPost (setting_at r y) s.begun (items_of s) (seat_at s.traffic y) (path_at s y)
  pub carried : AreCarried s.begun (length s.traffic.seats) s.traffic.wire
  pub count : length s.traffic.seats ≡ length s.stations + length s.units
  pub places : length seats ≡ length s.units
  pub numbers : (i : ℕ) → i < length s.units → (get_or seats i no_seat).number ≡ length s.stations + i
  pub seated : (i : ℕ) → i < length s.units → IsSeat s.begun (items_of s) (seat_at s.traffic (length s.stations + i)) (get_or s.units i (new_unit 0 0)) (get_or seats i no_seat)
