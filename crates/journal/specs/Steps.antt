-- What each event changes. An event that nothing fits leaves the state as it is.
use Rattle.std.specs.Prelude.{ℕ, ◌-◌, ◌^◌, Bool, true, false, not, ◌==◌, List, [], ◌∷◌, ◌++◌, map, reverse, take, length, Option, Some, None, Result, Ok, Err, slice_get, slice_set, if◌then◌else◌}
use Rattle.std.specs.Option.{option_map}
use Rattle.can_frame.specs.FrameValue.{FrameValue}
use Rattle.can_frame.specs.declared.reading.Reading.{Reading}
use Rattle.can_frame.specs.declared.reading.Reading.TheVariants as reading
use Rattle.can_frame.specs.declared.address.TheConstants.{GLOBAL_ADDRESS}
use Rattle.address_claim.specs.Frames.{claim_frame_value}
use Rattle.fault_memory.specs.Memory.{MemoryValue}
use Rattle.dm_messages.specs.declared.kind.Kind.TheVariants.{Dm1}
use Rattle.bus_ledger.specs.BusValue.{Traffic, seat_at}
use Rattle.bus_ledger.specs.Changes.{queued, queued_frame, with_newcomer, heard_more, withdrawn, left, carried_from, carried_frame, injected}
use Rattle.bus_ledger.specs.Reception.{not_yet_read, reading_taken as taken}
use Rattle.bus_ledger.specs.declared.traffic.Tag.{Tag}
use Rattle.bus_ledger.specs.declared.traffic.QueuedFrame.{QueuedFrame}
use Rattle.bus_ledger.specs.declared.traffic.CarriedFrame.{CarriedFrame}
use Rattle.bus_ledger.specs.declared.traffic.Which.TheVariants as which
use Rattle.bus_model.specs.Messages.{Message}
use Rattle.bus_model.specs.Traffic.{Item, Tag as PartOf}
use Rattle.bus_model.specs.Expected.{Reception, Own, Received, Missed}
use Rattle.node_core.specs.declared.heard.Answer.{Answer as UnitAnswer}
use Rattle.node_core.specs.NodeValue.{NodeValue}
use Rattle.node_core.specs.Deed.{heard_of}
use Rattle.node_core.specs.Reaction.{reaction, node_after}
use Rattle.node_core.specs.Beginning.{begins}
use Rattle.node_core.specs.declared.heard.Heard.{Heard}
use Rattle.node_core.specs.declared.heard.Begun.{Begun}
use Rattle.node_core.specs.declared.heard.Started.{Started}
use Rattle.node_core.specs.declared.heard.Started.TheVariants as started
use Rattle.node_core.specs.declared.heard.Withdraw.{Withdraw}
use Rattle.node_core.specs.declared.heard.Withdraw.TheVariants as withdraw
use Rattle.node_core.specs.declared.out.Out.{Out}
use Rattle.node_core.specs.declared.out.Part.{Part}
use Rattle.node_core.specs.declared.out.Part.TheVariants as part
use Rattle.station_table.specs.Steps.{after_reading}
use Rattle.station_table.specs.Reactions.{station_reaction}
use Rattle.station_table.specs.StationValue.{StationValue}
use Rattle.station_table.specs.Orders.{ask_answer, ask_all_answer, command_answer}
use Rattle.station_table.specs.declared.error.StationError.{StationError}
use Rattle.journal.specs.declared.order.Order.{Order}
use Rattle.journal.specs.declared.order.Order.TheVariants.{Ask, AskAll, Command}
use Rattle.station_table.specs.declared.reaction.Reaction.{Reaction}
use Rattle.journal.specs.State.{State, StationState, new_unit, path_at, station_at, table_at, unit_at}
use Rattle.journal.specs.declared.event.Event.{Event}
use Rattle.journal.specs.declared.event.Event.TheVariants.{Join, Hear, Begin, Turned, Carry, Read, Ordered, Leave, Inject}

-- ---- queueing

-- the frames at the end of a seat's queue, in order
abbrev pub put_all : ℕ → List QueuedFrame → Traffic → Traffic
put_all k [] t = t
put_all k (q ∷ qs) t = put_all k qs (queued k q t)

-- which message and part a frame is: of the message with that number which begins, to all or in a session, or of the
-- unit's session_number session
abbrev pub tag_of : ℕ → Bool → ℕ → Option Part → Option Tag
tag_of number session session_number None = None
tag_of number session session_number (Some (part.Begun j)) = Some (record { message = number; part = j; session = session })
tag_of number session session_number (Some (part.Session j)) = Some (record { message = session_number; part = j; session = true })

abbrev pub tagged : ℕ → Bool → ℕ → Out → QueuedFrame
tagged number session session_number out = queued_frame out.frame (tag_of number session session_number out.part)

-- a frame that is no part of a message
abbrev pub untagged : FrameValue → QueuedFrame
untagged f = queued_frame f None

-- ---- units

-- a message goes to one address
abbrev pub begins_session : Option Begun → Bool
begins_session None = false
begins_session (Some b) = not (b.dest == GLOBAL_ADDRESS)

-- the number of the message of the last session, once this one has begun
abbrev pub session_message_after : ℕ → ℕ → Option Begun → ℕ
session_message_after before number begun = if begins_session begun then number else before

abbrev pub message_begun : ℕ → ℕ → ℕ → MemoryValue → Begun → Message
message_begun number seat name memory b =
    record { number = number; seat = seat; name = name; kind = b.kind; memory = memory; source = b.source; destination = b.dest }

abbrev pub begun_after : List Message → ℕ → ℕ → MemoryValue → Option Begun → List Message
begun_after begun seat name memory None = begun
begun_after begun seat name memory (Some b) = message_begun (length begun) seat name memory b ∷ begun

abbrev pub withdrawn_by : ℕ → Withdraw → Traffic → Traffic
withdrawn_by k withdraw.Keep t = t
withdrawn_by k withdraw.Session t = withdrawn k which.Session t
withdrawn_by k withdraw.All t = withdrawn k which.All t

-- what a unit did on hearing its next frame: it counts as heard; then withdrawal, then queueing
abbrev pub after_hearing : ℕ → MemoryValue → Heard → NodeValue → State → State
after_hearing k memory h node s =
    let session_number = session_message_after (unit_at s k).session_message (length s.begun) h.begun in
    record s {
      traffic = put_all k (map (tagged (length s.begun) (begins_session h.begun) session_number) h.put) (withdrawn_by k h.withdraw (heard_more k 1 s.traffic));
      units = slice_set s.units (k - length s.stations) (record { node = node; session_message = session_number });
      begun = begun_after s.begun k (seat_at s.traffic k).name memory h.begun;
    }

-- the next frame that a seat has not heard
abbrev pub next_for : State → ℕ → Option FrameValue
next_for s k = option_map (λ c. c.frame) (slice_get s.traffic.wire (seat_at s.traffic k).heard)

unfoldable pub after_hear_of : Option FrameValue → ℕ → MemoryValue → UnitAnswer → State → State
after_hear_of None k memory answered s = s
after_hear_of (Some f) k memory answered s =
    after_hearing k memory (heard_of answered (reaction (unit_at s k).node memory answered f)) (node_after (unit_at s k).node memory answered f) s

-- a message begun of one's own accord
abbrev pub after_starting : ℕ → MemoryValue → Started → State → State
after_starting k memory started.Held s = s
after_starting k memory (started.Begun b put) s = record s {
  traffic = put_all k (map (tagged (length s.begun) false (unit_at s k).session_message) put) s.traffic;
  begun = message_begun (length s.begun) k (seat_at s.traffic k).name memory b ∷ s.begun;
}

unfoldable pub after_begin_of : Option ℕ → ℕ → MemoryValue → State → State
after_begin_of None k memory s = s
after_begin_of (Some source) k memory s = after_starting k memory (begins (unit_at s k).node.session Dm1 memory source) s

-- ---- the stations

abbrev pub message_numbered : ℕ → List Message → Option Message
message_numbered n [] = None
message_numbered n (m ∷ ms) = if m.number == n then Some m else message_numbered n ms

abbrev pub part_of : List Message → Option Tag → Option PartOf
part_of begun None = None
part_of begun (Some t) = option_map (λ m. record { message = m; part = t.part }) (message_numbered t.message begun)

-- the number of a frame's seat; a frame from outside has none, and bears one that no seat is given
abbrev pub seat_number_of : Option ℕ → ℕ
seat_number_of None = 2 ^ 32
seat_number_of (Some k) = k

-- a carried frame with the number and the NAME of its seat and the message that it is a part of
abbrev pub item_of : State → CarriedFrame → Item
item_of s c = record { seat = seat_number_of c.seat; name = (seat_at s.traffic (seat_number_of c.seat)).name; frame = c.frame; tag = part_of s.begun c.tag }

abbrev pub with_received : List Reception → Option Item → List Reception
with_received path None = path
with_received path (Some e) = Received e ∷ path

-- what a station has of the wire after a reading
abbrev pub path_after : ℕ → Reading → State → List Reception
path_after y (reading.Frame f) s = with_received (path_at s y) (option_map (item_of s) (slice_get (not_yet_read s.traffic y) 0))
path_after y (reading.Gap n) s = Missed (map (item_of s) (reverse (take n (not_yet_read s.traffic y)))) ∷ path_at s y
path_after y reading.Empty s = path_at s y

-- what a station withdraws and queues
abbrev pub reacted : ℕ → Reaction → Traffic → Traffic
reacted y r t = put_all y (map untagged r.put) (if r.withdraw then withdrawn y which.All t else t)

-- the station on this seat is so; where no station has the seat, nothing changes
abbrev pub with_station : ℕ → StationState → List StationState → List StationState
with_station y v stations = slice_set stations y v

-- ---- the events

-- the next seat goes to the NAME, whose claim is queued
unfoldable pub after_join : ℕ → ℕ → State → State
after_join name address s = record s {
  traffic = queued (length s.traffic.seats) (untagged (claim_frame_value name (Some address))) (with_newcomer name s.traffic);
  units = s.units ++ new_unit name address ∷ [];
}

unfoldable pub after_carry_of : Option QueuedFrame → ℕ → State → State
after_carry_of None k s = s
after_carry_of (Some q) k s = record s {
  traffic = carried_from k q s.traffic;
  stations = with_station k (record (station_at s k) { path = Own (item_of s (carried_frame k q)) ∷ path_at s k }) s.stations;
}

unfoldable pub after_read : ℕ → Reading → State → State
after_read y r s = record s {
  traffic = reacted y (station_reaction (table_at s y) r) (taken y r s.traffic);
  stations = with_station y (record { table = after_reading (table_at s y) r; path = path_after y r s }) s.stations;
}

unfoldable pub after_leave : ℕ → State → State
after_leave k s = record s { traffic = left k s.traffic }

-- what a station answers to an order, memory aside: what it queues, or why it refuses
abbrev pub order_answer : StationValue → Order → Result Reaction StationError
order_answer s (Ask name ask) = ask_answer s name ask
order_answer s (AskAll ask) = ask_all_answer s ask
order_answer s (Command name address) = command_answer s name address

unfoldable pub after_order_of : ℕ → Result Reaction StationError → State → State
after_order_of y (Err e) s = s
after_order_of y (Ok r) s = record s { traffic = reacted y r s.traffic }

-- a frame from outside
unfoldable pub after_inject : FrameValue → State → State
after_inject f s = record s { traffic = injected f s.traffic }

abbrev pub after : Event → State → State
after (Join seat name address) s = after_join name address s
after (Hear k memory answered) s = after_hear_of (next_for s k) k memory answered s
after (Begin k memory) s = after_begin_of (unit_at s k).node.claimer.held k memory s
after (Turned k) s = s
after (Carry k) s = after_carry_of (slice_get (seat_at s.traffic k).queue 0) k s
after (Read y r) s = after_read y r s
after (Ordered y order) s = after_order_of y (order_answer (table_at s y) order) s
after (Leave k) s = after_leave k s
after (Inject frame) s = after_inject frame s
