-- Groups that a program shares with a station: what of the bus is the program's, what comes of it joined, what is answered, and what a message
-- that it sends hears.
use Rattle.std.specs.Prelude.{◌≡◌, ◌⊎◌, ℕ, Bool, true, false, not, ◌&&◌, ◌||◌, ◌==◌, ◌+◌, ◌-◌, ◌%◌, min, nat_eq, nat_le, nat_lt, is_some, List, [], ◌∷◌, ◌++◌, length, replicate, slice_index, slice_set, Option, Some, None, if◌then◌else◌}
use Rattle.std.specs.List.{list_any}
use Rattle.can_frame.specs.Fields.{destination_of, pgn_of, source_of}
use Rattle.can_frame.specs.FrameValue.{FrameValue}
use Rattle.can_frame.specs.declared.address.TheConstants.{GLOBAL_ADDRESS, NULL_ADDRESS}
use Rattle.can_frame.specs.declared.group_numbers.TheConstants.{ACKNOWLEDGMENT, ADDRESS_CLAIMED, COMMANDED_ADDRESS, CONNECTION_MANAGEMENT, DATA_TRANSFER, DM1, DM2, DM3, DM6, DM11, REQUEST}
use Rattle.address_claim.specs.Claiming.{is_held}
use Rattle.parameter_group.specs.Group.{Group}
use Rattle.parameter_group.specs.Group as group
use Rattle.reassembly.specs.Partials.{PartialValue, after_packet, answer_to, begun, is_whole, with_packet}
use Rattle.reassembly.specs.Tables.{at, empty_table}
use Rattle.requests.specs.Layouts.{request_frame_value}
use Rattle.transport.specs.Messages.{control_frame}
use Rattle.transport.specs.Pieces.{joined, packet_count}
use Rattle.transport.specs.declared.control.Control.{Control}
use Rattle.transport.specs.declared.control.Control.TheVariants.{Rts, Cts, EndAck, Bam, Abort}
use Rattle.transport.specs.declared.control.TheConstants.Control.{RESOURCES_NEEDED}
use Rattle.transport.specs.declared.took.Took.{Took}
use Rattle.transport.specs.declared.took.Took.TheVariants.{More, Whole, Broken}
use Rattle.shared_groups.specs.Outgoing.{OutgoingValue, has_packets_to, nothing_sent, outgoing_cut, when_spoken_of, with_abort, with_clear_to_send, with_end_acknowledged}
use Rattle.shared_groups.specs.declared.joining.Tag.{Tag}
use Rattle.shared_groups.specs.declared.waiting.Waiting.{Waiting}
use Rattle.shared_groups.specs.declared.waiting.Waiting.TheVariants as waiting
use Rattle.shared_groups.specs.declared.waiting.TheConstants.{MOST_WAITING}

-- a message that is half joined
abbrev pub SharedJoining : Type 0
SharedJoining = PartialValue Tag

-- a message that is whole: who sent it, the NAME that held that address from its first to its last frame, if one did, its group and bytes
pub record MessageValue : Type 0 where
  pub source : ℕ
  pub owner : Option ℕ
  pub pgn : ℕ
  pub bytes : List ℕ

-- the groups that are shared; how many packets are granted at once at most; the gap between packets of a broadcast; the station's address; the last
-- claim's NAME of each address; what is half joined to all and to the station; whether the newest request to send of an address was for a shared
-- group; what waits to be written; the newest message that is whole, and the newest that is sent
pub record SharedValue : Type 0 where
  pub groups : List ℕ
  pub grant : ℕ
  pub gap : ℕ
  pub held : Option ℕ
  pub owners : List (Option ℕ)
  pub broadcasts : List (Option SharedJoining)
  pub sessions : List (Option SharedJoining)
  pub shuts : List ℕ
  pub waiting : List Waiting
  pub message : Option MessageValue
  pub outgoing : OutgoingValue

-- no address's packets are the program's
unfoldable pub no_shuts : List ℕ
no_shuts = replicate 256 0

-- nothing is shared
abbrev pub none_shared : Option ℕ → ℕ → ℕ → SharedValue
none_shared held grant gap = record {
  groups = [];
  grant = grant;
  gap = gap;
  held = held;
  owners = empty_table;
  broadcasts = empty_table;
  sessions = empty_table;
  shuts = no_shuts;
  waiting = [];
  message = None;
  outgoing = nothing_sent;
}

-- ---- which groups

-- a group may be shared: none of the protocol, none of diagnostics
abbrev pub is_sharable : ℕ → Bool
is_sharable pgn =
    not (pgn == ACKNOWLEDGMENT || pgn == REQUEST || pgn == DATA_TRANSFER || pgn == CONNECTION_MANAGEMENT || pgn == ADDRESS_CLAIMED || pgn == COMMANDED_ADDRESS)
    && not (pgn == DM1 || pgn == DM2 || pgn == DM3 || pgn == DM6 || pgn == DM11)

abbrev pub is_shared : List ℕ → ℕ → Bool
is_shared groups pgn = list_any (λ g. nat_eq pgn g) groups

abbrev pub is_none_shared : List ℕ → Bool
is_none_shared [] = true
is_none_shared (g ∷ more) = false

abbrev pub sharing_also : ℕ → SharedValue → SharedValue
sharing_also pgn x = if is_shared x.groups pgn then x else record x { groups = x.groups ++ pgn ∷ [] }

-- ---- what is not for the station

-- the newest request to send of an address to the station was for a shared group
abbrev pub is_shut : SharedValue → ℕ → Bool
is_shut x source = slice_index x.shuts source == 1

-- what the program itself says of a shared group
abbrev pub is_own_withheld : SharedValue → ℕ → ℕ → Bool
is_own_withheld x source pgn = is_shared x.groups pgn && is_held x.held source

-- and a request to send of one to the station
abbrev pub is_control_withheld : SharedValue → ℕ → ℕ → Control → Bool
is_control_withheld x source destination (Rts size packets most pgn) = is_shared x.groups pgn && (is_held x.held source || is_held x.held destination)
is_control_withheld x source destination (Cts granted next pgn) = is_own_withheld x source pgn
is_control_withheld x source destination (EndAck size packets pgn) = is_own_withheld x source pgn
is_control_withheld x source destination (Bam size packets pgn) = is_own_withheld x source pgn
is_control_withheld x source destination (Abort reason pgn) = is_own_withheld x source pgn

-- a packet is the program's: of such a session to the station, or its own, to where its newest message goes
abbrev pub is_packet_withheld : SharedValue → ℕ → ℕ → Bool
is_packet_withheld x source destination =
    (is_held x.held destination && is_shut x source) || (is_held x.held source && has_packets_to destination x.outgoing)

-- a frame is not for the station: a request to it, or a request to send to it, of a shared group; a packet to it of such a session; and what it says
-- itself about shared groups, which the program wrote
abbrev pub is_for_program : SharedValue → FrameValue → Group → Bool
is_for_program x f (group.Request pgn destination source) = is_shared x.groups pgn && (is_held x.held destination || is_held x.held source)
is_for_program x f (group.ConnectionManagement source destination c) = is_control_withheld x source destination c
is_for_program x f (group.DataTransfer source destination bytes) = is_packet_withheld x source destination
is_for_program x f group.Other = is_own_withheld x (source_of f.id) (pgn_of f.id)
is_for_program x f _ = false

-- ---- what waits

abbrev pub with_waiting : Waiting → SharedValue → SharedValue
with_waiting w x = record x { waiting = x.waiting ++ w ∷ [] }

abbrev pub is_full : SharedValue → Bool
is_full x = nat_le MOST_WAITING (length x.waiting)

-- its frame from an address
abbrev pub frame_waiting : ℕ → Waiting → FrameValue
frame_waiting own (waiting.Grant granted next pgn to) = control_frame (Cts granted next pgn) own to
frame_waiting own (waiting.End size packets pgn to) = control_frame (EndAck size packets pgn) own to
frame_waiting own (waiting.Abort reason pgn to) = control_frame (Abort reason pgn) own to
frame_waiting own (waiting.Request pgn to) = request_frame_value (record { pgn = pgn; dest = to; source = own })

-- ---- what ends messages before their time

-- the station is at this address still
abbrev pub stays_at : Option ℕ → Option ℕ → Bool
stays_at None after = not (is_some after)
stays_at (Some before) after = is_held after before

-- it took another: its sessions are over, what waits is not written, and what is sent goes no further
abbrev pub moved_to : Option ℕ → SharedValue → SharedValue
moved_to held x = record x { held = held; sessions = empty_table; shuts = no_shuts; waiting = []; outgoing = outgoing_cut x.outgoing }

abbrev pub followed : Option ℕ → SharedValue → SharedValue
followed held x = if stays_at x.held held then x else moved_to held x

-- frames were missed: what is sent goes on
abbrev pub shared_after_missing : SharedValue → SharedValue
shared_after_missing x = record x { owners = empty_table; broadcasts = empty_table; sessions = empty_table; waiting = [] }

-- a message is not this NAME's
abbrev pub is_not_under_by : Option ℕ → ℕ → Bool
is_not_under_by None name = true
is_not_under_by (Some owner) name = not (owner == name)

abbrev pub is_not_under : Tag → ℕ → Bool
is_not_under t name = is_not_under_by t.owner name

-- a claim of the address keeps it under its owner alone
abbrev pub joining_kept : ℕ → Option SharedJoining → Option SharedJoining
joining_kept name None = None
joining_kept name (Some j) = if is_not_under j.tag name then None else Some j

-- what is sent goes no further where its address is claimed by another
abbrev pub outgoing_claimed : ℕ → ℕ → OutgoingValue → OutgoingValue
outgoing_claimed source name o = if (o.to == source) && is_not_under_by o.owner name then outgoing_cut o else o

abbrev pub sharing_claim : ℕ → ℕ → SharedValue → SharedValue
sharing_claim source name x = record x {
  owners = slice_set x.owners source (Some name);
  broadcasts = slice_set x.broadcasts source (joining_kept name (at x.broadcasts source));
  sessions = slice_set x.sessions source (joining_kept name (at x.sessions source));
  outgoing = outgoing_claimed source name x.outgoing;
}

-- an abort ends a session of its group
abbrev pub without_group : ℕ → Option SharedJoining → Option SharedJoining
without_group pgn None = None
without_group pgn (Some j) = if j.tag.pgn == pgn then None else Some j

-- ---- what begins messages

-- a message of a shared group begins, under the owner of its source
abbrev pub shared_begun : SharedValue → ℕ → ℕ → ℕ → ℕ → SharedJoining
shared_begun x source size pgn most = begun (record { owner = at x.owners source; pgn = pgn; most = most }) size

abbrev pub with_broadcast : ℕ → ℕ → ℕ → SharedValue → SharedValue
with_broadcast source size pgn x =
    record x { broadcasts = slice_set x.broadcasts source (if is_shared x.groups pgn then Some (shared_begun x source size pgn 0) else None) }

-- the least of the grant and of what the sender takes at once; 0 is no limit
abbrev pub granted_at_most : ℕ → ℕ → ℕ
granted_at_most grant most = min grant (if most == 0 then 255 else most)

-- one that asks whether it may be sent: of a shared group it is granted, from an address that can be held; any other ends what was half joined
abbrev pub with_request_to_send : ℕ → ℕ → ℕ → ℕ → ℕ → SharedValue → SharedValue
with_request_to_send source size packets most pgn x =
    if not (is_shared x.groups pgn) || nat_le NULL_ADDRESS source
    then record x { sessions = slice_set x.sessions source None; shuts = slice_set x.shuts source (if is_shared x.groups pgn then 1 else 0) }
    else with_waiting (waiting.Grant (min (granted_at_most x.grant most) packets) 1 pgn source) (record x {
      sessions = slice_set x.sessions source (Some (shared_begun x source size pgn most));
      shuts = slice_set x.shuts source 1;
    })

-- the receiver of what is sent says something of it
abbrev pub with_word_of : ℕ → ℕ → ℕ → (OutgoingValue → OutgoingValue) → SharedValue → SharedValue
with_word_of source destination pgn after x =
    if is_held x.held destination then record x { outgoing = when_spoken_of source pgn after x.outgoing } else x

abbrev pub with_control : ℕ → ℕ → Control → SharedValue → SharedValue
with_control source destination (Bam size packets pgn) x = if destination == GLOBAL_ADDRESS then with_broadcast source size pgn x else x
with_control source destination (Rts size packets most pgn) x =
    if is_held x.held destination then with_request_to_send source size packets most pgn x else x
with_control source destination (Abort reason pgn) x =
    if is_held x.held destination
    then record x { sessions = slice_set x.sessions source (without_group pgn (at x.sessions source)); outgoing = when_spoken_of source pgn (with_abort reason) x.outgoing }
    else x
with_control source destination (Cts granted next pgn) x = with_word_of source destination pgn (with_clear_to_send granted next) x
with_control source destination (EndAck size packets pgn) x = with_word_of source destination pgn (with_end_acknowledged size) x

-- ---- what joins them

-- a message that is whole: its bytes are its pieces in order, and its NAME that which held its source throughout
abbrev pub message_ended : ℕ → Option SharedJoining → Option MessageValue
message_ended source None = None
message_ended source (Some j) =
    if is_whole j then Some (record { source = source; owner = j.tag.owner; pgn = j.tag.pgn; bytes = joined j.size j.pieces }) else None

abbrev pub newer_message : Option MessageValue → Option MessageValue → Option MessageValue
newer_message None before = before
newer_message (Some m) before = Some m

-- what a packet of a broadcast joins
abbrev pub sharing_broadcast_packet : ℕ → List ℕ → SharedValue → SharedValue
sharing_broadcast_packet source bytes x = record x {
  broadcasts = slice_set x.broadcasts source (after_packet bytes (at x.broadcasts source));
  message = newer_message (message_ended source (with_packet bytes (at x.broadcasts source))) x.message;
}

-- after the last packet that was granted the next ones are
abbrev pub grant_next : ℕ → ℕ → SharedJoining → Option Waiting
grant_next at_once to j =
    if nat_lt (length j.pieces) (packet_count j.size) && (length j.pieces % at_once == 0)
    then Some (waiting.Grant (min at_once (packet_count j.size - length j.pieces)) (length j.pieces + 1) j.tag.pgn to)
    else None

abbrev pub grant_behind : ℕ → ℕ → Option SharedJoining → Option Waiting
grant_behind grant to None = None
grant_behind grant to (Some j) = grant_next (granted_at_most grant j.tag.most) to j

-- what is answered to a packet: an abort where it is not the next one, the end where it is the last
abbrev pub reply_by : ℕ → ℕ → SharedJoining → Took → Option SharedJoining → Option Waiting
reply_by grant to j Broken after = Some (waiting.Abort RESOURCES_NEEDED j.tag.pgn to)
reply_by grant to j Whole after = Some (waiting.End j.size (packet_count j.size) j.tag.pgn to)
reply_by grant to j More after = grant_behind grant to after

abbrev pub session_reply : ℕ → ℕ → Option SharedJoining → Option Took → Option SharedJoining → Option Waiting
session_reply grant to (Some j) (Some took) after = reply_by grant to j took after
session_reply grant to _ _ after = None

abbrev pub replied : Option Waiting → SharedValue → SharedValue
replied None x = x
replied (Some w) x = with_waiting w x

-- what a packet of a session joins
abbrev pub sharing_session_packet : ℕ → List ℕ → SharedValue → SharedValue
sharing_session_packet source bytes x =
    replied (session_reply x.grant source (at x.sessions source) (answer_to bytes (at x.sessions source)) (after_packet bytes (at x.sessions source))) (record x {
      sessions = slice_set x.sessions source (after_packet bytes (at x.sessions source));
      message = newer_message (message_ended source (with_packet bytes (at x.sessions source))) x.message;
    })

abbrev pub with_packet_to : ℕ → ℕ → List ℕ → SharedValue → SharedValue
with_packet_to source destination bytes x =
    if destination == GLOBAL_ADDRESS then sharing_broadcast_packet source bytes x
    else (if is_held x.held destination then sharing_session_packet source bytes x else x)

-- whether a message is whole with it
abbrev pub packet_brings : ℕ → ℕ → List ℕ → SharedValue → Bool
packet_brings source destination bytes x =
    if destination == GLOBAL_ADDRESS then is_some (message_ended source (with_packet bytes (at x.broadcasts source)))
    else (if is_held x.held destination then is_some (message_ended source (with_packet bytes (at x.sessions source))) else false)

-- a message in one frame is to all, or to the station
abbrev pub goes_to_program : SharedValue → Option ℕ → Bool
goes_to_program x None = true
goes_to_program x (Some destination) = destination == GLOBAL_ADDRESS || is_held x.held destination

abbrev pub is_single : FrameValue → SharedValue → Bool
is_single f x = is_shared x.groups (pgn_of f.id) && goes_to_program x (destination_of f.id)

abbrev pub with_single : FrameValue → SharedValue → SharedValue
with_single f x =
    if is_single f x
    then record x { message = Some (record { source = source_of f.id; owner = at x.owners (source_of f.id); pgn = pgn_of f.id; bytes = f.bytes }) }
    else x

-- ---- a frame

-- what one of another address does
abbrev pub after_other : FrameValue → Group → SharedValue → SharedValue
after_other f (group.ConnectionManagement source destination c) x = with_control source destination c x
after_other f (group.DataTransfer source destination bytes) x = with_packet_to source destination bytes x
after_other f group.Other x = with_single f x
after_other f _ x = x

-- a claim counts from wherever, anything else from another address than the station's
abbrev pub after_frame : FrameValue → Group → SharedValue → SharedValue
after_frame f (group.AddressClaimed source name) x = sharing_claim source name x
after_frame f g x = if is_held x.held (source_of f.id) then x else after_other f g x

-- whether a message is whole with it
abbrev pub other_brings : FrameValue → Group → SharedValue → Bool
other_brings f (group.DataTransfer source destination bytes) x = packet_brings source destination bytes x
other_brings f group.Other x = is_single f x
other_brings f _ x = false

abbrev pub brings_message : FrameValue → Group → SharedValue → Bool
brings_message f (group.AddressClaimed source name) x = false
brings_message f g x = if is_held x.held (source_of f.id) then false else other_brings f g x

-- what is half joined from an address is dropped
abbrev pub after_losing : ℕ → SharedValue → SharedValue
after_losing source x = record x { broadcasts = slice_set x.broadcasts source None; sessions = slice_set x.sessions source None }

-- a frame that was not withheld was heard, or, where memory was refused, what was half joined from its source was dropped
abbrev pub HearsBeside : FrameValue → Group → Bool → SharedValue → SharedValue → Type 0
HearsBeside f g whole x x' =
    ((x' ≡ after_frame f g x) × (whole ≡ brings_message f g x)) ⊎ ((x' ≡ after_losing (source_of f.id) x) × (whole ≡ false))
