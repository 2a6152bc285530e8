-- The newest message of a shared group that a program sends: what of it goes when, what its receiver says of it, and what comes of it (SAE
-- J1939-21, transport protocol, with its times T3 and T4; the reasons 3 and 5 of an abort, and how often a packet goes again, from memory).
use Rattle.std.specs.Prelude.{ℕ, ◌+◌, ◌-◌, ◌%◌, ◌^◌, ◌==◌, ◌&&◌, ◌||◌, Bool, true, false, not, max, min, nat_le, nat_lt, List, [], length, Option, Some, None, if◌then◌else◌}
use Rattle.can_frame.specs.Fields.{pdu1_number, pdu2_number, pdu_format_of_pgn}
use Rattle.can_frame.specs.FrameValue.{FrameValue, frame}
use Rattle.can_frame.specs.declared.address.TheConstants.{GLOBAL_ADDRESS, NULL_ADDRESS}
use Rattle.address_claim.specs.Claiming.{is_held}
use Rattle.transport.specs.Messages.{control_frame, part_of_message}
use Rattle.transport.specs.Pieces.{packet_count}
use Rattle.transport.specs.declared.control.Control.TheVariants.{Abort}
use Rattle.shared_groups.specs.declared.outgoing.Sent.{Sent}
use Rattle.shared_groups.specs.declared.outgoing.Sent.TheVariants as sent
use Rattle.shared_groups.specs.declared.outgoing.Due.{Due}
use Rattle.shared_groups.specs.declared.outgoing.Due.TheVariants as due
use Rattle.shared_groups.specs.declared.outgoing.TheConstants.{ANSWERED_WITHIN, ASKED_TOO_OFTEN, HELD_WITHIN, MOST_REPEATS, SINGLE_PRIORITY, TIMED_OUT}

-- its bytes and group; where it goes; the NAME that held that address as it began; which part goes next (0 is its one frame or its announcement, j
-- its packet j) and which is the last that may; up to which number packets went; which packet was asked for again, and how often it or an earlier
-- one was; when a part of it went last, none where its receiver was heard since; whether that holds it open; what came of it
pub record OutgoingValue : Type 0 where
  pub payload : List ℕ
  pub pgn : ℕ
  pub to : ℕ
  pub owner : Option ℕ
  pub next : ℕ
  pub last : ℕ
  pub gone : ℕ
  pub asked : ℕ
  pub times : ℕ
  pub since : Option ℕ
  pub holds : Bool
  pub sent : Sent

-- more bytes than one frame has
abbrev pub is_several : List ℕ → Bool
is_several payload = nat_lt 8 (length payload)

-- its packets: none where one frame has it
abbrev pub packets_to_send : List ℕ → ℕ
packets_to_send payload = if is_several payload then packet_count (length payload) else 0

-- it asks one address whether it may be sent
abbrev pub goes_by_session : OutgoingValue → Bool
goes_by_session o = is_several o.payload && not (o.to == GLOBAL_ADDRESS)

-- ---- what begins

-- to all each part may go; to one address none but the first, until more is granted
abbrev pub outgoing_begun : ℕ → ℕ → Option ℕ → List ℕ → Sent → OutgoingValue
outgoing_begun pgn to owner payload sent = record {
  payload = payload;
  pgn = pgn;
  to = to;
  owner = owner;
  next = 0;
  last = if to == GLOBAL_ADDRESS then packets_to_send payload else 0;
  gone = 0;
  asked = 0;
  times = 0;
  since = None;
  holds = false;
  sent = sent;
}

-- nothing was sent
abbrev pub nothing_sent : OutgoingValue
nothing_sent = outgoing_begun 0 GLOBAL_ADDRESS None [] sent.Nothing

-- a group that an identifier carries
abbrev pub is_carried : ℕ → Bool
is_carried pgn = nat_lt pgn (2 ^ 18) && (nat_le 240 (pdu_format_of_pgn pgn) || (pgn % 256 == 0))

-- such a group that goes to all (PDU2)
abbrev pub is_to_each : ℕ → Bool
is_to_each pgn = nat_le 240 (pdu_format_of_pgn pgn)

-- a message of this group and size can go there: to all, or to an address that another one can hold, which no frame of a PDU2 group names
abbrev pub can_go_to : Option ℕ → ℕ → ℕ → ℕ → Bool
can_go_to held pgn size to =
    (to == GLOBAL_ADDRESS) || (not (to == NULL_ADDRESS) && not (is_held held to) && (nat_lt 8 size || not (is_to_each pgn)))

-- ---- how it stands

abbrev pub is_not_over : Sent → Bool
is_not_over sent.Open = true
is_not_over _ = false

abbrev pub is_under_way : OutgoingValue → Bool
is_under_way o = is_not_over o.sent

-- the packets to this address are its own
abbrev pub has_packets_to : ℕ → OutgoingValue → Bool
has_packets_to destination o = is_several o.payload && (o.to == destination)

-- it is under way to all, in packets
abbrev pub is_broadcasting : OutgoingValue → Bool
is_broadcasting o = is_under_way o && has_packets_to GLOBAL_ADDRESS o

-- its packets were asked for again too often
abbrev pub is_asked_too_often : OutgoingValue → Bool
is_asked_too_often o = nat_lt MOST_REPEATS o.times

-- ---- what goes

-- the identifier of a message in one frame, of priority 6
abbrev pub single_id : ℕ → ℕ → ℕ → ℕ
single_id pgn to own = if is_to_each pgn then pdu2_number SINGLE_PRIORITY pgn own else pdu1_number SINGLE_PRIORITY pgn to own

abbrev pub frame_of_next_part : ℕ → OutgoingValue → FrameValue
frame_of_next_part own o =
    if is_several o.payload then part_of_message o.payload o.pgn own o.to o.next else frame (single_id o.pgn o.to own) o.payload

-- so long ago that was, if it is known
abbrev pub is_past : ℕ → ℕ → Option ℕ → Bool
is_past wait now None = true
is_past wait now (Some since) = nat_le (since + wait) now

-- packets of a broadcast keep a gap
abbrev pub due_part : ℕ → ℕ → OutgoingValue → Due
due_part gap now o = if (o.to == GLOBAL_ADDRESS) && not (is_past gap now o.since) then due.Nothing else due.Part

-- how long its receiver is waited for
abbrev pub patience : Bool → ℕ
patience holds = if holds then HELD_WITHIN else ANSWERED_WITHIN

-- one that is waited for has that time from when it was heard, or a part went
abbrev pub due_waiting : ℕ → Bool → Option ℕ → Due
due_waiting now holds None = due.Waits
due_waiting now holds (Some since) = if nat_le (since + patience holds) now then due.Silence else due.Nothing

abbrev pub outgoing_due : ℕ → ℕ → OutgoingValue → Due
outgoing_due gap now o =
    if not (is_under_way o) then due.Nothing
    else if is_asked_too_often o then due.TooOften
    else if nat_le o.next o.last then due_part gap now o
    else due_waiting now o.holds o.since

abbrev pub frame_of_due : ℕ → OutgoingValue → Due → Option FrameValue
frame_of_due own o due.Nothing = None
frame_of_due own o due.Waits = None
frame_of_due own o due.Part = Some (frame_of_next_part own o)
frame_of_due own o due.Silence = Some (control_frame (Abort TIMED_OUT o.pgn) own o.to)
frame_of_due own o due.TooOften = Some (control_frame (Abort ASKED_TOO_OFTEN o.pgn) own o.to)

-- but for a session it is written with its last part
abbrev pub sent_by_part : OutgoingValue → Sent
sent_by_part o = if goes_by_session o || nat_lt o.next o.last then sent.Open else sent.Written

abbrev pub with_part_gone : ℕ → OutgoingValue → OutgoingValue
with_part_gone now o = record o { next = o.next + 1; gone = max o.gone o.next; since = Some now; sent = sent_by_part o }

abbrev pub outgoing_after : ℕ → OutgoingValue → Due → OutgoingValue
outgoing_after now o due.Nothing = o
outgoing_after now o due.Waits = record o { since = Some now }
outgoing_after now o due.Part = with_part_gone now o
outgoing_after now o due.Silence = record o { sent = sent.Silent }
outgoing_after now o due.TooOften = record o { sent = sent.AskedTooOften }

-- ---- what its receiver says

-- the address that it goes to speaks of it, once its request to send went
abbrev pub is_spoken_of : ℕ → ℕ → OutgoingValue → Bool
is_spoken_of source pgn o =
    is_under_way o && goes_by_session o && nat_lt 0 o.next && not (is_asked_too_often o) && (o.to == source) && (o.pgn == pgn)

-- nothing more may go yet
abbrev pub held_open : OutgoingValue → OutgoingValue
held_open o = record o { last = o.next - 1; since = None; holds = true }

-- so many packets may go, from this one on
abbrev pub with_packets_granted : ℕ → ℕ → OutgoingValue → OutgoingValue
with_packets_granted granted next o = record o { next = next; last = min (next + granted - 1) (packets_to_send o.payload); since = None; holds = false }

-- how often a packet, or one behind it, was asked for again
abbrev pub repeats_of : ℕ → OutgoingValue → ℕ
repeats_of number o = if nat_le number o.asked then o.times else 0

-- a clear to send: of 0 packets it holds the session open; of packets that went these go again; else it is for the first that did not go
abbrev pub with_clear_to_send : ℕ → ℕ → OutgoingValue → OutgoingValue
with_clear_to_send granted next o =
    if granted == 0 then held_open o
    else if nat_lt 0 next && nat_le next o.gone
    then record (with_packets_granted granted next o) { asked = max o.asked next; times = repeats_of next o + 1 }
    else if (next == o.gone + 1) && nat_lt o.gone (packets_to_send o.payload) then with_packets_granted granted next o
    else o

-- an end of message acknowledgment counts once every packet went
abbrev pub with_end_acknowledged : ℕ → OutgoingValue → OutgoingValue
with_end_acknowledged size o =
    if (o.gone == packets_to_send o.payload) && (size == length o.payload) then record o { sent = sent.Acknowledged } else o

abbrev pub with_abort : ℕ → OutgoingValue → OutgoingValue
with_abort reason o = record o { sent = sent.Aborted reason }

abbrev pub when_spoken_of : ℕ → ℕ → (OutgoingValue → OutgoingValue) → OutgoingValue → OutgoingValue
when_spoken_of source pgn after o = if is_spoken_of source pgn o then after o else o

-- ---- what ends it before its time

abbrev pub outgoing_cut : OutgoingValue → OutgoingValue
outgoing_cut o = if is_under_way o then record o { sent = sent.CutOff } else o
