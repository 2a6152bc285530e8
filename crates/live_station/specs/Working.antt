-- What one call changes of a station that takes part in a bus.
use Rattle.std.specs.Prelude.{ℕ, ◌≡◌, ◌≢◌, ◌⊎◌, ◌+◌, ◌≤◌, ◌<◌, ◌++◌, Bool, true, false, not, ◌&&◌, nat_le, nat_lt, is_some, List, [], ◌∷◌, drop, length, slice_get, IfNone, IfSome, Option, Some, None, if◌then◌else◌}
use Rattle.std.specs.List.{All}
use Rattle.can_frame.specs.Fields.{source_of}
use Rattle.can_frame.specs.FrameValue.{FrameValue}
use Rattle.can_frame.specs.declared.address.TheConstants.{GLOBAL_ADDRESS}
use Rattle.can_frame.specs.declared.group_numbers.TheConstants.{COMMANDED_ADDRESS}
use Rattle.can_frame.specs.declared.reading.Reading.TheVariants.{Gap}
use Rattle.address_claim.specs.Frames.{claim_frame_value, claim_source}
use Rattle.bus_model.specs.declared.change.Change.TheVariants as change
use Rattle.entry_lists.specs.KeptValue.{kept_under}
use Rattle.entry_lists.specs.KnownRows.{address_in, row_of}
use Rattle.live_unit.specs.Echoes.{EchoValue, HearsOwn, with_written}
use Rattle.live_unit.specs.Queue.{HasFreeLanes, QueueValue, after_withdrawing, empty_queue, putting, waits}
use Rattle.live_unit.specs.Steps.{Writes}
use Rattle.live_unit.specs.Times.{clock_after_hearing, clock_at_start, clock_written, lane_due}
use Rattle.live_unit.specs.Waits.{later}
use Rattle.live_unit.specs.declared.clock.UnitClock.{UnitClock}
use Rattle.live_unit.specs.declared.clock.UnitSettings.{UnitSettings}
use Rattle.live_unit.specs.declared.queue.Lane.{Lane}
use Rattle.live_unit.specs.declared.queue.TheConstants.{MOST_PUT}
use Rattle.live_unit.specs.declared.queue.Lane.TheVariants.{Claims, Messages}
use Rattle.node_core.specs.Deed.{plain}
use Rattle.node_core.specs.declared.heard.Withdraw.TheVariants as withdraw
use Rattle.node_core.specs.declared.out.Out.{Out}
use Rattle.parameter_group.specs.Group.{Group, Request, ConnectionManagement, DataTransfer, group_of}
use Rattle.requests.specs.Layouts.{ack_frame_value, commanded_bytes, request_frame_value}
use Rattle.requests.specs.declared.acknowledgment.Ack.{Ack}
use Rattle.reassembly.specs.Tables.{at}
use Rattle.station_table.specs.Changing.{group_changes}
use Rattle.station_table.specs.Reactions.{group_reaction, own_claim, request_for_claims, station_reaction}
use Rattle.station_table.specs.Sessions.{session_of}
use Rattle.station_table.specs.StationValue.{StationValue}
use Rattle.station_table.specs.Steps.{after_gap, after_group, new_station}
use Rattle.station_table.specs.declared.reaction.Reaction.{Reaction}
use Rattle.station_table.specs.declared.session.Session.{Session}
use Rattle.transport.specs.Messages.{control_frame, part_of_message}
use Rattle.transport.specs.declared.control.Control.{Control}
use Rattle.live_station.specs.Ear.{is_out_of_turn, is_own}
use Rattle.live_station.specs.Losses.{control_again, is_asked_enough, watch_due, watches_asked, watches_passed, watches_told}
use Rattle.live_station.specs.OpenOrders.{group_wanted, order_ended, order_heard, order_missed, part_number, unit_named, waiting_on}
use Rattle.live_station.specs.Signs.{is_asked_at, sign_for}
use Rattle.live_station.specs.Turns.{order_due, with_part_written, with_request_written}
use Rattle.live_station.specs.declared.loss.Watch.{Watch}
use Rattle.live_station.specs.declared.open.OpenOrder.{OpenOrder}
use Rattle.live_station.specs.declared.open.Part.{Part}
use Rattle.live_station.specs.declared.open.Progress.{Progress}
use Rattle.live_station.specs.declared.open.Progress.TheVariants.{Goes, Ends}
use Rattle.live_station.specs.declared.open.Sight.{Sight}
use Rattle.live_station.specs.declared.open.Stage.{Stage}
use Rattle.live_station.specs.declared.open.Stage.TheVariants as stage
use Rattle.live_station.specs.declared.open.TheConstants.{ANSWER_WAIT}
use Rattle.live_station.specs.declared.order.Order.{Order}
use Rattle.live_station.specs.declared.order.Order.TheVariants as order
use Rattle.live_station.specs.declared.sign.Sign.{Sign}
use Rattle.live_station.specs.declared.sign.Sign.TheVariants as sign
use Rattle.live_station.specs.declared.pulled.Pulled.{Pulled}
use Rattle.live_station.specs.declared.times.StationTimes.{StationTimes}
use Rattle.live_station.specs.declared.pulled.Told.{Told}
use Rattle.live_station.specs.declared.pulled.Pulled.TheVariants as pulled
use Rattle.live_station.specs.declared.turn.Deed.{Deed}
use Rattle.live_station.specs.declared.turn.Deed.TheVariants as deed
use Rattle.live_station.specs.declared.turn.Outlook.{Outlook}
use Rattle.live_station.specs.declared.turn.Turn.{Turn}
use Rattle.live_station.specs.declared.turn.Turn.TheVariants as turn
use Rattle.live_station.specs.declared.verdict.Finding.{Finding}
use Rattle.live_station.specs.declared.verdict.Finding.TheVariants.{Silent}
use Rattle.live_station.specs.declared.verdict.Verdict.{Verdict}

-- the station: what it knows (`station_table`), what waits to be written, its times, and what it wrote; whether claims are to be asked for,
-- until when those that were asked for are waited for, and from when on a clear goes; the sessions that are watched; and the open order
pub record WorkingValue : Type 0 where
  pub station : StationValue
  pub queue : QueueValue
  pub clock : UnitClock
  pub settings : UnitSettings
  pub echo : EchoValue
  pub asks_claims : Bool
  pub claims_by : ℕ
  pub clear_from : ℕ
  pub losses : List Watch
  pub order : Option OpenOrder

-- a station that begins: its claim waits, and the claims of all are to be asked for
abbrev pub begun_station : ℕ → ℕ → ℕ → StationTimes → WorkingValue
begun_station name want grant times = record {
  station = new_station name want grant;
  queue = putting false (plain (own_claim (new_station name want grant).claimer) ∷ []) (empty_queue want);
  clock = clock_at_start;
  settings = record { gap = times.gap; settle = times.settle; always = false };
  echo = record { written = []; comes_back = false };
  asks_claims = true;
  claims_by = 0;
  clear_from = 0;
  losses = [];
  order = None;
}

-- from when on frames may go beside what waits: it holds an address, and no claim of it waits
abbrev pub settled_since : WorkingValue → Option ℕ
settled_since s = if is_some s.station.claimer.held && not (waits s.queue.claims) then Some s.clock.settled_from else None

-- ---- what it hears

-- a request, and a frame of a session, may be answered beside what waits; whatever else is answered withdraws all
abbrev pub may_be_answered : Group → Bool
may_be_answered (Request pgn destination source) = true
may_be_answered (ConnectionManagement source destination control) = true
may_be_answered (DataTransfer source destination bytes) = true
may_be_answered _ = false

-- the first frame is put, if there is one
abbrev pub with_first : List FrameValue → QueueValue → QueueValue
with_first [] q = q
with_first (f ∷ more) q = putting false (plain f ∷ []) q

-- a frame that a station owes: a claim, an acknowledgment, or a control message of a session
abbrev pub IsOwedFrame : FrameValue → Type 0
IsOwedFrame f =
    ((name : ℕ) × (held : Option ℕ) × (f ≡ claim_frame_value name held))
    ⊎ (((ack : Ack) × (f ≡ ack_frame_value ack)) ⊎ ((control : Control) × (own : ℕ) × (to : ℕ) × (f ≡ control_frame control own to)))

-- and from this address
pub record IsOwedFrom (source : ℕ) (f : FrameValue) : Type 0 where
  pub source_is : source_of f.id ≡ source
  pub owed : IsOwedFrame f

abbrev pub IsFirstFrom : ℕ → List FrameValue → Type 0
IsFirstFrom source [] = Unit {0}
IsFirstFrom source (f ∷ more) = IsOwedFrom source f

-- all that waits is owed
abbrev pub IsOwedOut : Out → Type 0
IsOwedOut o = IsOwedFrame o.frame

pub record OwesAll (q : QueueValue) : Type 0 where
  pub claims : All IsOwedOut q.claims.outs
  pub singles : All IsOwedOut q.singles.outs
  pub session : All IsOwedOut q.session.outs
  pub messages : All IsOwedOut q.messages.outs

-- what the station withdraws is withdrawn, then what it puts is put: of a gap its claim; the request for claims behind that waits for its
-- time elsewhere
abbrev pub after_reaction : Reaction → ℕ → QueueValue → QueueValue
after_reaction x source q = with_first x.put (if x.withdraw then after_withdrawing withdraw.All source q else q)

-- the address of a NAME, and of the unit that an order is for
abbrev pub address_of_name : StationValue → Option ℕ → Option ℕ
address_of_name s None = None
address_of_name s (Some name) = address_in (row_of s.owners name (kept_under s.rows name))

abbrev pub sight_of : StationValue → Order → Bool → Bool → Sight
sight_of s o contested stranger = record {
  held = s.claimer.held;
  address = address_of_name s (unit_named o);
  contested = contested;
  stranger = stranger;
}

-- what becomes of the open order, if one is open
abbrev pub hearing_on : StationValue → Sign → Bool → Bool → ℕ → Option OpenOrder → Option Progress
hearing_on s sign contested stranger now None = None
hearing_on s sign contested stranger now (Some o) = Some (order_heard sign (sight_of s o.order contested stranger) now o)

abbrev pub missing_on : ℕ → Option OpenOrder → Option Progress
missing_on now None = None
missing_on now (Some o) = Some (order_missed now o)

-- the order that is open then, and the verdict of one that ended
abbrev pub still_open : Option Progress → Option OpenOrder
still_open (Some (Goes o)) = Some o
still_open _ = None

abbrev pub verdict_of : Option Progress → Option Verdict
verdict_of (Some (Ends v)) = Some v
verdict_of _ = None

-- what becomes of the open order by somebody else's frame from the station's address; that puts off clears
abbrev pub progress_by_stranger : ℕ → WorkingValue → Option Progress
progress_by_stranger now s = hearing_on s.station sign.Nothing false true now s.order

abbrev pub after_stranger : ℕ → WorkingValue → WorkingValue
after_stranger now s = record s { clear_from = later now ANSWER_WAIT; order = still_open (progress_by_stranger now s) }

-- a frame of its own was heard, or somebody else's from its address
pub record HearsOwnFrame (f : FrameValue) (now : ℕ) (t : Told) (s s' : WorkingValue) : Type 0 where
  pub echo : HearsOwn f t.stranger s.echo s'.echo
  pub rest : s' ≡ (if t.stranger then after_stranger now (record s { echo = s'.echo }) else record s { echo = s'.echo })
  pub change : t.change ≡ change.Nothing
  pub verdict : t.verdict ≡ (if t.stranger then verdict_of (progress_by_stranger now s) else None)

-- what becomes of the open order by a frame that the station is told of
abbrev pub progress_by : Group → ℕ → WorkingValue → Option Progress
progress_by g now s =
    hearing_on (after_group s.station g) (sign_for s.order g (group_changes s.station g)) (group_reaction s.station g).withdraw false now s.order

-- the station after it, and what it says of it
abbrev pub after_told : Group → ℕ → WorkingValue → WorkingValue
after_told g now s = record s {
  station = after_group s.station g;
  queue = after_reaction (group_reaction s.station g) (claim_source (after_group s.station g).claimer.held) s.queue;
  clock = clock_after_hearing false s.station.claimer.held (after_group s.station g).claimer.held s.station.claimer.name now s.clock;
  losses = watches_told g (after_group s.station g) now s.losses;
  order = still_open (progress_by g now s);
}

abbrev pub told_of_it : Group → ℕ → WorkingValue → Told
told_of_it g now s = record { change = group_changes s.station g; verdict = verdict_of (progress_by g now s); stranger = false }

-- a packet that is not the next one of its session: the station is not told of it; its sender goes on, as its watch and the open order know
abbrev pub progress_passed : Group → ℕ → WorkingValue → Option Progress
progress_passed g now s = hearing_on s.station (sign_for s.order g change.Nothing) false false now s.order

abbrev pub after_passing : Group → ℕ → WorkingValue → WorkingValue
after_passing g now s = record s { losses = watches_passed g now s.losses; order = still_open (progress_passed g now s) }

abbrev pub told_in_passing : Group → ℕ → WorkingValue → Told
told_in_passing g now s = record { change = change.Nothing; verdict = verdict_of (progress_passed g now s); stranger = false }

abbrev pub passes_over : WorkingValue → FrameValue → Bool
passes_over s f = is_out_of_turn s.station.claimer.held (at s.station.sessions (source_of f.id)) (group_of f)

-- a frame was heard: one of its own, a packet out of turn, or any other
pub record HearsOnBus (f : FrameValue) (now : ℕ) (t : Told) (s s' : WorkingValue) : Type 0 where
  pub own : is_own s.station.claimer f ≡ true → HearsOwnFrame f now t s s'
  pub passed : is_own s.station.claimer f ≡ false → passes_over s f ≡ true
      → (s' ≡ after_passing (group_of f) now s) × (t ≡ told_in_passing (group_of f) now s)
  pub other : is_own s.station.claimer f ≡ false → passes_over s f ≡ false
      → (s' ≡ after_told (group_of f) now s) × (t ≡ told_of_it (group_of f) now s)

-- frames were missed: what is known of owners is forgotten, the claim is put in the place of what waits, and claims are to be asked for
abbrev pub after_missing : ℕ → ℕ → WorkingValue → WorkingValue
after_missing count now s = record s {
  station = after_gap s.station count;
  queue = after_reaction (station_reaction s.station (Gap count)) (claim_source s.station.claimer.held) s.queue;
  clock = clock_after_hearing false s.station.claimer.held s.station.claimer.held s.station.claimer.name now s.clock;
  asks_claims = true;
  losses = [];
  order = still_open (missing_on now s.order);
}

pub record MissesFrames (count now : ℕ) (t : Told) (s s' : WorkingValue) : Type 0 where
  pub is : s' ≡ after_missing count now s
  pub told : t ≡ record { change = change.Missed count; verdict = verdict_of (missing_on now s.order); stranger = false }

-- a frame is not heard for want of room
abbrev pub LacksRoomToHear : FrameValue → WorkingValue → Type 0
LacksRoomToHear f s =
    (is_own s.station.claimer f ≡ false) × ((MOST_PUT ≤ s.queue.put) ⊎ ((may_be_answered (group_of f) ≡ true) × (¬ HasFreeLanes s.queue)))

-- ---- what it does when

-- it holds an address, and may ask for claims again
abbrev pub is_to_ask_claims : ℕ → WorkingValue → Bool
is_to_ask_claims now s = s.asks_claims && nat_le s.claims_by now && is_some s.station.claimer.held

abbrev pub known_from : WorkingValue → Option ℕ
known_from s = if s.asks_claims then None else Some s.claims_by

abbrev pub outlook_of : WorkingValue → Order → Outlook
outlook_of s o = record {
  held = s.station.claimer.held;
  address = address_of_name s.station (unit_named o);
  known_from = known_from s;
  clear_from = s.clear_from;
  packet_from = s.clock.packet_from;
}

-- what the open order does
abbrev pub deed_turn : OpenOrder → Deed → Turn
deed_turn o deed.Nothing = turn.Rests
deed_turn o d = turn.Does o d

abbrev pub order_turn : ℕ → WorkingValue → Option OpenOrder → Turn
order_turn now s None = turn.Rests
order_turn now s (Some o) = deed_turn o (order_due o (outlook_of s o.order) now)

-- where no packet is to be asked for: claims are asked for first
abbrev pub free_turn_behind : Option Watch → ℕ → WorkingValue → Turn
free_turn_behind (Some w) now s = turn.AsksAgain w
free_turn_behind None now s = if is_to_ask_claims now s then turn.AsksClaims else order_turn now s s.order

-- where nothing waits that goes, and no claim, and the station has settled: packets that are missing are asked for first
abbrev pub free_turn : ℕ → WorkingValue → Turn
free_turn now s = free_turn_behind (watch_due s.station now s.losses) now s

abbrev pub is_settled : ℕ → WorkingValue → Bool
is_settled now s = not (waits s.queue.claims) && nat_le s.clock.settled_from now

abbrev pub turn_behind : Option Lane → ℕ → WorkingValue → Turn
turn_behind (Some lane) now s = turn.Writes lane
turn_behind None now s = if is_settled now s then free_turn now s else turn.Rests

-- what it does at a time
abbrev pub turn_at : ℕ → WorkingValue → Turn
turn_at now s = turn_behind (lane_due s.clock now s.queue) now s

-- no frame waits
abbrev pub has_nothing_waiting : QueueValue → Bool
has_nothing_waiting q = not (waits q.claims) && (not (waits q.singles) && (not (waits q.session) && not (waits q.messages)))

-- nor is an order open, nor are claims to be asked for, nor is a session watched
abbrev pub is_at_rest : WorkingValue → Bool
is_at_rest s = not (is_some s.order) && (not s.asks_claims && (not (nat_lt 0 (length s.losses)) && has_nothing_waiting s.queue))

-- a claim that is the first of its address puts off clears
abbrev pub clear_from_claim : Lane → UnitClock → ℕ → ℕ → ℕ
clear_from_claim Claims c now from = if c.claimed then from else later now ANSWER_WAIT
clear_from_claim _ c now from = from

-- a frame that waits goes
pub record SendsWaiting (now : ℕ) (lane : Lane) (p : Pulled) (s s' : WorkingValue) : Type 0 where
  pub frame : FrameValue
  pub pulled : p ≡ pulled.Frame frame false
  pub writes : Writes s.settings now frame s.queue s.clock s'.queue s'.clock
  pub rest : s' ≡ record s {
    queue = s'.queue;
    clock = s'.clock;
    echo = with_written frame s.echo;
    clear_from = clear_from_claim lane s.clock now s.clear_from;
  }

-- the claims of all are asked for
abbrev pub asked_for_claims : ℕ → WorkingValue → WorkingValue
asked_for_claims now s = record s {
  echo = with_written (request_for_claims s.station.claimer) s.echo;
  asks_claims = false;
  claims_by = later now ANSWER_WAIT;
}

-- packets that are missing of a session are asked for, and an order that waits for them waits on; or the session is given up
abbrev pub waiting_from : Stage → ℕ → ℕ → OpenOrder → OpenOrder
waiting_from (stage.Asked a) source now o = if is_asked_at a source && a.session then waiting_on a now o else o
waiting_from _ source now o = o

abbrev pub order_waits_on : ℕ → ℕ → Option OpenOrder → Option OpenOrder
order_waits_on source now None = None
order_waits_on source now (Some o) = Some (waiting_from o.stage source now o)

abbrev pub frame_again : WorkingValue → Session → Watch → FrameValue
frame_again s j w = control_frame (control_again j w) (claim_source s.station.claimer.held) w.source

abbrev pub asked_again : ℕ → Session → Watch → WorkingValue → WorkingValue
asked_again now j w s = record s {
  echo = with_written (frame_again s j w) s.echo;
  losses = watches_asked j now w s.losses;
  order = if is_asked_enough j w then s.order else order_waits_on w.source now s.order;
}

abbrev pub AsksAgain : Option Session → Watch → ℕ → Pulled → WorkingValue → WorkingValue → Type 0
AsksAgain None w now p s s' = (p ≡ pulled.Nothing) × (s' ≡ s)
AsksAgain (Some j) w now p s s' = (p ≡ pulled.Frame (frame_again s j w) false) × (s' ≡ asked_again now j w s)

-- the request of an order, from the address that is held
abbrev pub order_request : WorkingValue → Order → ℕ → FrameValue
order_request s o to = request_frame_value (record { pgn = group_wanted o; dest = to; source = claim_source s.station.claimer.held })

abbrev pub with_request_sent : ℕ → OpenOrder → ℕ → WorkingValue → WorkingValue
with_request_sent now o to s = record s {
  echo = with_written (order_request s o.order to) s.echo;
  order = Some (with_request_written (claim_source s.station.claimer.held) to now o);
}

-- a frame of a command: the part of a broadcast of nine bytes
abbrev pub part_of_command : WorkingValue → ℕ → ℕ → Part → FrameValue
part_of_command s name address part =
    part_of_message (commanded_bytes (record { name = name; address = address })) COMMANDED_ADDRESS (claim_source s.station.claimer.held) GLOBAL_ADDRESS
    (part_number part)

abbrev pub with_part_sent : ℕ → OpenOrder → Part → FrameValue → WorkingValue → WorkingValue
with_part_sent now o part f s = record s {
  clock = clock_written s.settings Messages now s.clock;
  echo = with_written f s.echo;
  order = Some (with_part_written (claim_source s.station.claimer.held) part now o);
}

-- an order comes to its end; a clear that nobody answered puts off clears
abbrev pub clear_from_end : Order → Finding → ℕ → ℕ → ℕ
clear_from_end (order.Clear name what) Silent now from = later now ANSWER_WAIT
clear_from_end _ _ now from = from

abbrev pub pulled_verdict : Option Verdict → Pulled
pulled_verdict None = pulled.Nothing
pulled_verdict (Some v) = pulled.Verdict v

abbrev pub with_progress : Progress → ℕ → WorkingValue → WorkingValue
with_progress x from s = record s { clear_from = from; order = still_open (Some x) }

-- what an open order does comes about
abbrev pub DoesDeed : Deed → ℕ → OpenOrder → Pulled → WorkingValue → WorkingValue → Type 0
DoesDeed deed.Nothing now o p s s' = (p ≡ pulled.Nothing) × (s' ≡ s)
DoesDeed (deed.Request to) now o p s s' = (p ≡ pulled.Frame (order_request s o.order to) true) × (s' ≡ with_request_sent now o to s)
DoesDeed (deed.Command name address part) now o p s s' =
    (p ≡ pulled.Frame (part_of_command s name address part) true)
    × (s' ≡ with_part_sent now o part (part_of_command s name address part) s)
DoesDeed (deed.Ends finding) now o p s s' =
    (p ≡ pulled_verdict (verdict_of (Some (order_ended finding now o))))
    × (s' ≡ with_progress (order_ended finding now o) (clear_from_end o.order finding now s.clear_from) s)

-- what the station does comes about
abbrev pub DoesTurn : Turn → ℕ → Pulled → WorkingValue → WorkingValue → Type 0
DoesTurn turn.Rests now p s s' = (p ≡ pulled.Nothing) × (s' ≡ s)
DoesTurn (turn.Writes lane) now p s s' = SendsWaiting now lane p s s'
DoesTurn (turn.AsksAgain w) now p s s' = AsksAgain (session_of s.station w.source) w now p s s'
DoesTurn turn.AsksClaims now p s s' = (p ≡ pulled.Frame (request_for_claims s.station.claimer) false) × (s' ≡ asked_for_claims now s)
DoesTurn (turn.Does o d) now p s s' = DoesDeed d now o p s s'

-- a frame that no order wrote is one that is owed, or asks for the claims of all
abbrev pub IsUnordered : Pulled → StationValue → Type 0
IsUnordered (pulled.Frame f false) s = IsOwedFrame f ⊎ (f ≡ request_for_claims s.claimer)
IsUnordered _ s = Unit {0}

-- a frame goes from the address that is held, or from 254 where none is
abbrev pub IsSentFromOwn : Pulled → StationValue → Type 0
IsSentFromOwn (pulled.Frame f of_order) s = source_of f.id ≡ claim_source s.claimer.held
IsSentFromOwn _ s = Unit {0}
