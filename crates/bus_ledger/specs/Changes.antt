-- What each call changes.
use Rattle.std.specs.Prelude.{ℕ, ◌+◌, ◌-◌, ◌<◌, ◌≤◌, Bool, true, false, not, List, [], ◌∷◌, ◌++◌, drop, length, map, Option, slice_set}
use Rattle.std.specs.List.{filter}
use Rattle.std.specs.Prelude.{Some, None}
use Rattle.can_frame.specs.FrameValue.{FrameValue}
use Rattle.transport.specs.Runs.{NumberedFrame}
use Rattle.bus_ledger.specs.declared.bus.TheConstants.{MOST_UNREAD}
use Rattle.bus_ledger.specs.declared.traffic.StationSeat.{StationSeat}
use Rattle.bus_ledger.specs.declared.traffic.Tag.{Tag}
use Rattle.bus_ledger.specs.declared.traffic.QueuedFrame.{QueuedFrame}
use Rattle.bus_ledger.specs.declared.traffic.CarriedFrame.{CarriedFrame}
use Rattle.bus_ledger.specs.declared.traffic.Which.{Which}
use Rattle.bus_ledger.specs.declared.traffic.Which.TheVariants.{Session, All}
use Rattle.bus_ledger.specs.BusValue.{SeatValue, Traffic, seat_at}

abbrev pub queued_frame : FrameValue → Option Tag → QueuedFrame
queued_frame frame tag = record { frame = frame; tag = tag }

-- a seat just given: all that was carried so far counts as heard
abbrev pub newcomer : ℕ → ℕ → SeatValue
newcomer name heard = record { name = name; live = true; heard = heard; queue = []; queued = 0; carried = 0; withdrawn = 0 }

-- how many unread frames a station's window may hold
abbrev pub HasWindow : ℕ → Type 0
HasWindow window = (0 < window) × (window ≤ MOST_UNREAD)

abbrev pub seat_of_station : StationSeat → SeatValue
seat_of_station s = newcomer s.name 0

abbrev pub window_of_station : StationSeat → ℕ
window_of_station s = s.window

-- a bus with these stations alone
abbrev pub new_traffic : List StationSeat → Traffic
new_traffic stations = record { wire = []; seats = map seat_of_station stations; windows = map window_of_station stations }

abbrev pub with_seat : Traffic → ℕ → SeatValue → Traffic
with_seat t k seat = record t { seats = slice_set t.seats k seat }

-- the next number goes to this NAME
abbrev pub with_newcomer : ℕ → Traffic → Traffic
with_newcomer name t = record t { seats = t.seats ++ newcomer name (length t.wire) ∷ [] }

-- so many frames more count as heard
abbrev pub hearing : ℕ → SeatValue → SeatValue
hearing n s = record s { heard = s.heard + n }

-- the seat has heard so many frames more
abbrev pub heard_more : ℕ → ℕ → Traffic → Traffic
heard_more k n t = with_seat t k (hearing n (seat_at t k))

-- one more at the end of the queue
abbrev pub queueing : QueuedFrame → SeatValue → SeatValue
queueing q s = record s { queue = s.queue ++ q ∷ []; queued = s.queued + 1 }

abbrev pub queued : ℕ → QueuedFrame → Traffic → Traffic
queued k q t = with_seat t k (queueing q (seat_at t k))

-- a part of a message, with its tag
abbrev pub run_frame : ℕ → Bool → NumberedFrame → QueuedFrame
run_frame message session n = queued_frame n.frame (Some (record { message = message; part = n.part; session = session }))

-- the frames of a run, with their tags
abbrev pub run_frames : ℕ → Bool → List NumberedFrame → List QueuedFrame
run_frames message session run = map (run_frame message session) run

-- all of these at the end of the queue, in order
abbrev pub queueing_all : List QueuedFrame → SeatValue → SeatValue
queueing_all qs s = record s { queue = s.queue ++ qs; queued = s.queued + length qs }

abbrev pub queued_all : ℕ → List QueuedFrame → Traffic → Traffic
queued_all k qs t = with_seat t k (queueing_all qs (seat_at t k))

abbrev pub is_session_tag : Option Tag → Bool
is_session_tag (Some t) = t.session
is_session_tag None = false

-- whether a frame is tagged as part of a session
abbrev pub is_in_session : QueuedFrame → Bool
is_in_session q = is_session_tag q.tag

-- what stays in a queue
abbrev pub kept : Which → List QueuedFrame → List QueuedFrame
kept Session qs = filter (λ q. not (is_in_session q)) qs
kept All qs = []

-- what does not stay counts as withdrawn
abbrev pub withdrawing : Which → SeatValue → SeatValue
withdrawing which s = record s { queue = kept which s.queue; withdrawn = s.withdrawn + (length s.queue - length (kept which s.queue)) }

abbrev pub withdrawn : ℕ → Which → Traffic → Traffic
withdrawn k which t = with_seat t k (withdrawing which (seat_at t k))

-- a seat that goes withdraws its whole queue
abbrev pub leaving : SeatValue → SeatValue
leaving s = record s { live = false; queue = []; withdrawn = s.withdrawn + length s.queue }

abbrev pub left : ℕ → Traffic → Traffic
left k t = with_seat t k (leaving (seat_at t k))

-- the first of the queue is carried, and counts as heard by its own seat
abbrev pub sending : SeatValue → SeatValue
sending s = record s { queue = drop 1 s.queue; carried = s.carried + 1; heard = s.heard + 1 }

abbrev pub carried_frame : ℕ → QueuedFrame → CarriedFrame
carried_frame k q = record { seat = Some k; frame = q.frame; tag = q.tag }

-- a frame of this seat goes from the front of its queue to the end of the wire, its tag with it
abbrev pub carried_from : ℕ → QueuedFrame → Traffic → Traffic
carried_from k q t = record {
  wire = t.wire ++ carried_frame k q ∷ [];
  seats = slice_set t.seats k (sending (seat_at t k));
  windows = t.windows;
}

-- a frame from outside: no seat's, and no part of a message
abbrev pub stray_frame : FrameValue → CarriedFrame
stray_frame f = record { seat = None; frame = f; tag = None }

-- it stands at the end of the wire
abbrev pub injected : FrameValue → Traffic → Traffic
injected f t = record t { wire = t.wire ++ stray_frame f ∷ [] }
