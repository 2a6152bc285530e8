-- What a unit sends of the groups that it answers beside its node, and what their session hears.
use Rattle.std.specs.Prelude.{ℕ, ◌≡◌, ◌≤◌, ◌<◌, ◌⊎◌, ◌+◌, ◌-◌, ◌==◌, ◌&&◌, ◌||◌, Bool, true, not, max, min, nat_le, nat_lt, List, length, Option, Some, None, is_some, slice_get, if◌then◌else◌}
use Rattle.can_frame.specs.FrameValue.{FrameValue}
use Rattle.can_frame.specs.declared.address.TheConstants.{GLOBAL_ADDRESS}
use Rattle.address_claim.specs.Claiming.{is_held}
use Rattle.parameter_group.specs.Group.{Group, AddressClaimed, ConnectionManagement}
use Rattle.transport.specs.Messages.{control_frame}
use Rattle.transport.specs.declared.control.Control.{Control}
use Rattle.transport.specs.declared.control.Control.TheVariants.{Abort, Cts, EndAck}
use Rattle.vehicle.specs.Frames.{answer_frame, last_of_answer}
use Rattle.live_unit.specs.Waits.{later}
use Rattle.live_unit.specs.declared.aborting.TheConstants.{ASKED_TOO_OFTEN, CLEARED_WHILE_SENDING}
use Rattle.live_unit.specs.declared.clock.TheConstants.{ANSWER_WITHIN, HELD_FOR}
use Rattle.live_lines.specs.declared.answering.Again.{Again}
use Rattle.live_lines.specs.declared.answering.Answering.{Answering}
use Rattle.live_lines.specs.declared.own_broadcast.OwnBroadcast.{OwnBroadcast}
use Rattle.live_lines.specs.declared.own_session.OwnSession.{OwnSession}
use Rattle.live_lines.specs.declared.own_session.TheConstants.{LEFT_ALONE, MOST_AGAIN}

-- ---- what goes again and again

-- asked for by the time, it is so next a period later, or that long from now where that is over
abbrev pub again_behind : ℕ → Again → Again
again_behind now g = record g { from = if nat_lt now (later g.from g.period) then later g.from g.period else later now g.period }

abbrev pub woken_by : ℕ → Option Again → Answering → Answering
woken_by now None a = a
woken_by now (Some g) a = if nat_le g.from now then record a { is_asked = true; again = Some (again_behind now g) } else a

-- a group whose time has come is asked for
abbrev pub woken : ℕ → Answering → Answering
woken now a = woken_by now a.again a

-- ---- what was asked for

-- frame j of the answer at a place, from an address to another or to all
pub record IsFrameAt (all : List Answering) (place source destination j : ℕ) (f : FrameValue) : Type 0 where
  pub answering : Answering
  pub at : slice_get all place ≡ Some answering
  pub within : j ≤ last_of_answer answering.line.bytes.items
  pub frame : f ≡ answer_frame answering.line source destination j

-- an answer that was asked for of all goes: one frame at once; packets where no other message of several goes to all
abbrev pub goes_now : Bool → Answering → Bool
goes_now may_begin a = a.is_asked && (may_begin || nat_le (length a.line.bytes.items) 8)

-- the first frame of such an answer
pub record BeginsAnswer (may_begin : Bool) (all : List Answering) (source : ℕ) (f : FrameValue) : Type 0 where
  pub place : ℕ
  pub first : IsFrameAt all place source GLOBAL_ADDRESS 0 f
  pub asked : goes_now may_begin first.answering ≡ true

-- the next packet of an answer that goes to all
pub record SendsPacket (b : OwnBroadcast) (all : List Answering) (source now : ℕ) (f : FrameValue) : Type 0 where
  pub waited : b.from ≤ now
  pub packet : IsFrameAt all b.place source GLOBAL_ADDRESS b.next f

-- behind a frame of an answer to all: the next packet, from that time on; none behind the last
abbrev pub broadcast_behind : ℕ → ℕ → ℕ → ℕ → Option OwnBroadcast
broadcast_behind place j last from = if nat_lt j last then Some (record { place = place; next = j + 1; from = from }) else None

-- ---- a session

-- one that was just opened
abbrev pub own_session_opened : ℕ → ℕ → ℕ → OwnSession
own_session_opened place pgn dest = record {
  place = place;
  pgn = pgn;
  dest = dest;
  next = 0;
  until = 0;
  cleared = 0;
  alone_from = 0;
  reason = LEFT_ALONE;
  again = 0;
  times = 0;
}

-- the next frame of the session: the request to send, or a packet that it was cleared to send
abbrev pub SendsNext : OwnSession → List Answering → ℕ → FrameValue → Type 0
SendsNext s all source f = (s.next ≤ s.until) × IsFrameAt all s.place source s.dest s.next f

-- it was left alone (SAE J1939-21, T3 and T4), or is to end: the abort with the reason for that
abbrev pub PartsFor : OwnSession → ℕ → ℕ → FrameValue → Type 0
PartsFor s now source f = (s.until < s.next) × (s.alone_from ≤ now) × (f ≡ control_frame (Abort s.reason s.pgn) source s.dest)

-- behind a frame of it
abbrev pub session_behind : OwnSession → ℕ → OwnSession
session_behind s now = record s { next = s.next + 1; alone_from = later now ANSWER_WITHIN }

-- the last of so many packets behind one
abbrev pub through : ℕ → ℕ → ℕ → ℕ
through before granted last = before + min granted (last - before)

-- a packet was cleared before, and does not wait to go
abbrev pub went : OwnSession → ℕ → Bool
went s number = nat_le 1 number && nat_le number s.cleared && not (nat_le s.next number && nat_le number s.until)

-- how often the packet, or an earlier one, was asked for again
abbrev pub times_asked : OwnSession → ℕ → ℕ
times_asked s next = if nat_le next s.again then s.times else 0

-- it is to end at once, for this reason
abbrev pub session_ending : OwnSession → ℕ → ℕ → OwnSession
session_ending s now reason = record s { next = s.until + 1; alone_from = now; reason = reason }

-- packets are asked for again, from this one on: they go again; at the third time for one it ends with that reason
abbrev pub session_again : OwnSession → ℕ → ℕ → ℕ → ℕ → OwnSession
session_again s last granted next now =
    if nat_le MOST_AGAIN (times_asked s next) then session_ending s now ASKED_TOO_OFTEN
    else record s {
      next = next;
      until = through (next - 1) granted last;
      cleared = max s.cleared (through (next - 1) granted last);
      again = next;
      times = times_asked s next + 1;
    }

-- a packet was cleared, and waits to go
abbrev pub waits_to_go : OwnSession → ℕ → Bool
waits_to_go s number = nat_le 1 number && nat_le number s.cleared && nat_le s.next number && nat_le number s.until

-- a clear to send, where it is not to end: of none holds it open; of packets that went has them go again; of those that wait ends it; else it is honoured where
-- it names the first packet that was not cleared yet
abbrev pub session_cleared : OwnSession → ℕ → ℕ → ℕ → ℕ → OwnSession
session_cleared s last granted next now =
    if not (s.reason == LEFT_ALONE) then s
    else if granted == 0 then record s { alone_from = later now HELD_FOR }
    else if went s next then session_again s last granted next now
    else if waits_to_go s next then session_ending s now CLEARED_WHILE_SENDING
    else if next == s.cleared + 1 then record s {
      next = if s.until == s.cleared then s.next else next;
      until = through s.cleared granted last;
      cleared = through s.cleared granted last;
    }
    else s

-- what its receiver says of its group: a clear to send; an end, once all was cleared; an abort
abbrev pub session_told : OwnSession → ℕ → Control → ℕ → Option OwnSession
session_told s last (Cts granted next pgn) now = if pgn == s.pgn then Some (session_cleared s last granted next now) else Some s
session_told s last (EndAck size packets pgn) now = if pgn == s.pgn && (s.cleared == last) then None else Some s
session_told s last (Abort reason pgn) now = if pgn == s.pgn then None else Some s
session_told s last _ now = Some s

-- a frame was heard by the unit that holds this address: a claim of the receiver's address ends it; what the receiver says to the unit counts
abbrev pub session_after_hearing : OwnSession → ℕ → Option ℕ → Group → ℕ → Option OwnSession
session_after_hearing s last held (AddressClaimed source name) now = if source == s.dest then None else Some s
session_after_hearing s last held (ConnectionManagement source destination control) now =
    if is_held held destination && (source == s.dest) then session_told s last control now else Some s
session_after_hearing s last held _ now = Some s

-- ---- all of it

-- what goes of a session
abbrev pub OfSession : Option OwnSession → List Answering → ℕ → ℕ → FrameValue → Type 0
OfSession None all source now f = ⊥
OfSession (Some s) all source now f = SendsNext s all source f ⊎ PartsFor s now source f

-- and of what goes to all in packets
abbrev pub OfBroadcast : Option OwnBroadcast → List Answering → ℕ → ℕ → FrameValue → Type 0
OfBroadcast None all source now f = ⊥
OfBroadcast (Some b) all source now f = SendsPacket b all source now f

-- what a unit owes of the groups that it answers
abbrev pub IsOwed : Option OwnSession → Option OwnBroadcast → Bool → List Answering → ℕ → ℕ → FrameValue → Type 0
IsOwed session broadcast may_begin all source now f =
    OfSession session all source now f ⊎ OfBroadcast broadcast all source now f
    ⊎ BeginsAnswer (may_begin && not (is_some broadcast)) all source f
