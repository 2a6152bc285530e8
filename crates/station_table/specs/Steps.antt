-- What each reading does to the station's tables.
use Rattle.std.specs.Prelude.{ℕ, ◌+◌, min, List, [], Option, Some, None, ◌||◌, ◌==◌, if◌then◌else◌, slice_set, replicate}
use Rattle.can_frame.specs.declared.reading.Reading.{Reading}
use Rattle.can_frame.specs.declared.reading.Reading.TheVariants.{Frame, Gap, Empty}
use Rattle.can_frame.specs.declared.address.TheConstants.{GLOBAL_ADDRESS}
use Rattle.dm_messages.specs.declared.kind.Kind.{Kind}
use Rattle.dm_messages.specs.declared.shown.Shown.{Shown}
use Rattle.dm_messages.specs.View.{decoding}
use Rattle.transport.specs.declared.control.TheConstants.Control.{NO_LIMIT}
use Rattle.transport.specs.declared.control.Control.TheVariants.{Rts, Bam, Abort}
use Rattle.parameter_group.specs.Group.{Group, AddressClaimed, CannotClaim, Acknowledgment, Diagnostic, ConnectionManagement, DataTransfer, group_of}
use Rattle.address_claim.specs.Claiming.{is_held, new_claimer, claim_step, after_claim}
use Rattle.address_claim.specs.declared.claimer.ClaimStep.{ClaimStep}
use Rattle.address_claim.specs.declared.claimer.ClaimStep.TheVariants.{Nothing}
use Rattle.reassembly.specs.Partials.{with_packet, after_packet}
use Rattle.reassembly.specs.Tables.{at, empty_table}
use Rattle.bus_model.specs.Heard.{Joining, Origin, Entry, kind_of, started, finished, entry_under, without_kind, counted, kept_by_owner as joining_under}
use Rattle.entry_lists.specs.declared.row.AckSeen.{AckSeen}
use Rattle.station_table.specs.declared.ended.ReadMessage.{ReadMessage}
use Rattle.entry_lists.specs.KeptValue.{with_claimed, with_ack, with_row, changed_under}
use Rattle.station_table.specs.StationValue.{StationValue}

-- no sender told how many packets it takes at once
unfoldable pub no_limits : List ℕ
no_limits = replicate 256 NO_LIMIT

-- whose a diagnostic message is that starts, from an address with an owner
abbrev pub origin_of : Option Kind → Option ℕ → Option Origin
origin_of None own = None
origin_of (Some k) None = None
origin_of (Some k) (Some n) = Some (record { owner = n; kind = k })

-- the least of the grant and of what the sender takes at once; 0 is no limit
abbrev pub packets_at_once : ℕ → ℕ → ℕ
packets_at_once grant most = if most == 0 then grant else min grant most

-- a message that ended is read: where it shows nothing it counts as unread, else it is for the lists
abbrev pub with_reading : StationValue → Option Shown → StationValue
with_reading s None = record s { unread = counted (s.unread + 1) }
with_reading s (Some shown) = s

-- a message that ended, if one did
abbrev pub with_ended : StationValue → Option Entry → StationValue
with_ended s None = s
with_ended s (Some e) = with_reading s (decoding e.bytes)

-- what a message that ended shows, if one did
abbrev pub ended_shown : Option Entry → Option ReadMessage
ended_shown None = None
ended_shown (Some e) = Some (record { origin = record { owner = e.name; kind = e.kind }; shown = decoding e.bytes })

-- and what it shows is read
abbrev pub with_read : StationValue → Option ReadMessage → StationValue
with_read s None = s
with_read s (Some e) = with_reading s e.shown

-- an acknowledgment from an address with an owner
abbrev pub with_answer : StationValue → Option ℕ → AckSeen → StationValue
with_answer s None ack = s
with_answer s (Some name) ack = record s { rows = changed_under (with_ack ack) s.rows name }

-- a step of the station's own claims drops every session
abbrev pub sessions_after : ClaimStep → List (Option Joining) → List (Option Joining)
sessions_after Nothing sessions = sessions
sessions_after _ sessions = empty_table

-- a claim of an address
abbrev pub with_claim : StationValue → ℕ → ℕ → StationValue
with_claim s source name = record s {
  claimer = after_claim source name s.claimer;
  owners = slice_set s.owners source (Some name);
  rows = changed_under (with_claimed (Some source)) (with_row s.rows name) name;
  broadcasts = slice_set s.broadcasts source (joining_under name (at s.broadcasts source));
  sessions = sessions_after (claim_step source name s.claimer) (slice_set s.sessions source (joining_under name (at s.sessions source)));
}

-- a packet of a broadcast
abbrev pub with_broadcast_packet : StationValue → ℕ → List ℕ → StationValue
with_broadcast_packet s source bytes =
    let ended = with_ended s (finished (with_packet bytes (at s.broadcasts source))) in
    record ended { broadcasts = slice_set s.broadcasts source (after_packet bytes (at s.broadcasts source)) }

-- a packet of a session
abbrev pub with_session_packet : StationValue → ℕ → List ℕ → StationValue
with_session_packet s source bytes =
    let ended = with_ended s (finished (with_packet bytes (at s.sessions source))) in
    record ended { sessions = slice_set s.sessions source (after_packet bytes (at s.sessions source)) }

-- a session is announced: what starts takes the place of an older one, with what its sender takes at once
abbrev pub with_session : StationValue → ℕ → ℕ → Option Joining → StationValue
with_session s source most None = s
with_session s source most (Some j) = record s { sessions = slice_set s.sessions source (Some j); most = slice_set s.most source most }

-- a station that has read nothing
abbrev pub new_station : ℕ → ℕ → ℕ → StationValue
new_station name address grant = record {
  claimer = new_claimer name address;
  grant = grant;
  owners = empty_table;
  rows = [];
  broadcasts = empty_table;
  sessions = empty_table;
  most = no_limits;
  missed = 0;
  unread = 0;
}

-- what one frame says, put to the tables
abbrev pub after_group : StationValue → Group → StationValue
after_group s (AddressClaimed source name) = with_claim s source name
after_group s (CannotClaim name) = record s { rows = changed_under (with_claimed None) (with_row s.rows name) name }
after_group s (Acknowledgment control requester pgn destination source) =
    if is_held s.claimer.held requester || is_held s.claimer.held destination
    then with_answer s (at s.owners source) (record { control = control; pgn = pgn })
    else s
after_group s (Diagnostic kind source bytes) = with_ended s (entry_under (at s.owners source) kind bytes)
after_group s (ConnectionManagement source destination (Bam size packets pgn)) =
    if destination == GLOBAL_ADDRESS
    then record s { broadcasts = slice_set s.broadcasts source (started (kind_of pgn) size (at s.owners source)) }
    else s
after_group s (ConnectionManagement source destination (Rts size packets most pgn)) =
    if is_held s.claimer.held destination
    then with_session s source most (started (kind_of pgn) size (at s.owners source))
    else s
after_group s (ConnectionManagement source destination (Abort reason pgn)) =
    if is_held s.claimer.held destination
    then record s { sessions = slice_set s.sessions source (without_kind (kind_of pgn) (at s.sessions source)) }
    else s
after_group s (DataTransfer source destination bytes) =
    if destination == GLOBAL_ADDRESS then with_broadcast_packet s source bytes
    else (if is_held s.claimer.held destination then with_session_packet s source bytes else s)
after_group s _ = s

-- frames were missed: owners and all that is half joined are forgotten
abbrev pub after_gap : StationValue → ℕ → StationValue
after_gap s count = record s {
  owners = empty_table;
  broadcasts = empty_table;
  sessions = empty_table;
  missed = counted (s.missed + count);
}

-- the tables after one more reading
abbrev pub after_reading : StationValue → Reading → StationValue
after_reading s Empty = s
after_reading s (Gap count) = after_gap s count
after_reading s (Frame f) = after_group s (group_of f)
