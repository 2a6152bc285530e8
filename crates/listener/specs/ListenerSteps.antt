-- What each reading does to a listener's tables, what it changes, and which entry it lists.
use Rattle.std.specs.Prelude.{ℕ, ◌+◌, Bool, false, List, [], Option, Some, None, ◌==◌, if◌then◌else◌, slice_set}
use Rattle.address_claim.specs.Claiming.{is_held}
use Rattle.can_frame.specs.declared.address.TheConstants.{GLOBAL_ADDRESS}
use Rattle.can_frame.specs.declared.reading.Reading.{Reading}
use Rattle.can_frame.specs.declared.reading.Reading.TheVariants.{Frame, Gap, Empty}
use Rattle.dm_messages.specs.Tolerant.{message_read}
use Rattle.dm_messages.specs.View.{decoding}
use Rattle.dm_messages.specs.declared.error.ReadError.{ReadError}
use Rattle.dm_messages.specs.declared.shown.Shown.{Shown}
use Rattle.dm_messages.specs.declared.tolerant.MessageRead.{MessageRead}
use Rattle.dm_messages.specs.declared.tolerant.MessageRead.TheVariants.{Whole, InPart}
use Rattle.parameter_group.specs.Group.{Group, AddressClaimed, CannotClaim, Acknowledgment, Diagnostic, ConnectionManagement, DataTransfer, group_of}
use Rattle.transport.specs.declared.control.Control.TheVariants.{Rts, Bam, Abort}
use Rattle.reassembly.specs.Pairs.{no_pairs, pair_at, with_pair}
use Rattle.reassembly.specs.Partials.{after_packet, with_packet}
use Rattle.reassembly.specs.Tables.{at, empty_table}
use Rattle.bus_model.specs.Changed.{displaced_by, is_again}
use Rattle.bus_model.specs.Heard.{ack_in_row, counted, kind_of}
use Rattle.bus_model.specs.Overheard.{HalfSent, MessageSent, Sending, newly_sent, sent_whole}
use Rattle.bus_model.specs.OverheardChanged.{announcement_change, claim_overheard, gave_up, sent_change, why_unread}
use Rattle.bus_model.specs.declared.overheard.Overheard.{Overheard}
use Rattle.bus_model.specs.declared.overheard.Overheard.TheVariants.{Nothing, Acknowledged, Listed, ListedInPart, Unreadable, Missed}
use Rattle.entry_lists.specs.KeptValue.{with_ack, with_claimed, with_row, changed_under, kept_under}
use Rattle.entry_lists.specs.KnownRows.{address_in, row_known, row_of}
use Rattle.entry_lists.specs.declared.row.AckSeen.{AckSeen}
use Rattle.listener.specs.ListenerValue.{ListenerValue, who_in}
use Rattle.listener.specs.declared.ended.ReadSending.{ReadSending}

-- a listener that has read nothing
abbrev pub new_listener : ListenerValue
new_listener = record { owners = empty_table; rows = []; pairs = no_pairs; gaps = 0; missed = 0; unread = 0 }

-- what is read of a message that ended: where it shows nothing it counts as unread
abbrev pub after_showing : ListenerValue → Option Shown → ListenerValue
after_showing l None = record l { unread = counted (l.unread + 1) }
after_showing l (Some shown) = l

abbrev pub after_message : ListenerValue → Option MessageSent → ListenerValue
after_message l None = l
after_message l (Some m) = after_showing l (decoding m.bytes)

-- an acknowledgment from an address with an owner
abbrev pub after_acknowledging : ListenerValue → Option ℕ → AckSeen → ListenerValue
after_acknowledging l None ack = l
after_acknowledging l (Some name) ack = record l { rows = changed_under (with_ack ack) l.rows name }

-- a claim of an address: what goes on from there is of its owner, so another one's ends all of it
abbrev pub after_claiming : ListenerValue → ℕ → ℕ → ListenerValue
after_claiming l source name = record l {
  owners = slice_set l.owners source (Some name);
  rows = changed_under (with_claimed (Some source)) (with_row l.rows name) name;
  pairs = if is_held (at l.owners source) name then l.pairs else slice_set l.pairs source empty_table;
}

-- a message is announced from a source to a destination
abbrev pub after_announcing : ListenerValue → ℕ → ℕ → ℕ → ℕ → ListenerValue
after_announcing l source destination size pgn =
    record l { pairs = with_pair l.pairs source destination (newly_sent (kind_of pgn) size (who_in l source)) }

-- a session ends; a message to all does not
abbrev pub without_session_between : ℕ → ℕ → List (List (Option HalfSent)) → List (List (Option HalfSent))
without_session_between source destination pairs = if destination == GLOBAL_ADDRESS then pairs else with_pair pairs source destination None

-- the message that a packet ends, if it ends one
abbrev pub whole_with : ListenerValue → ℕ → ℕ → List ℕ → Option MessageSent
whole_with l source destination bytes = sent_whole destination (with_packet bytes (pair_at l.pairs source destination))

-- a packet
abbrev pub after_packet_between : ListenerValue → ℕ → ℕ → List ℕ → ListenerValue
after_packet_between l source destination bytes =
    let ended = after_message l (whole_with l source destination bytes) in
    record ended { pairs = with_pair l.pairs source destination (after_packet bytes (pair_at l.pairs source destination)) }

-- a message in one frame
abbrev pub in_one_frame : ListenerValue → Group → Option MessageSent
in_one_frame l (Diagnostic kind source bytes) = Some (record { who = who_in l source; kind = kind; to = GLOBAL_ADDRESS; bytes = bytes })
in_one_frame l _ = None

-- what one frame says, put to the tables
abbrev pub group_taken : ListenerValue → Group → ListenerValue
group_taken l (AddressClaimed source name) = after_claiming l source name
group_taken l (CannotClaim name) = record l { rows = changed_under (with_claimed None) (with_row l.rows name) name }
group_taken l (Acknowledgment control requester pgn destination source) = after_acknowledging l (at l.owners source) (record { control = control; pgn = pgn })
group_taken l (Diagnostic kind source bytes) = after_message l (in_one_frame l (Diagnostic kind source bytes))
group_taken l (ConnectionManagement source destination (Bam size packets pgn)) =
    if destination == GLOBAL_ADDRESS then after_announcing l source destination size pgn else l
group_taken l (ConnectionManagement source destination (Rts size packets most pgn)) =
    if destination == GLOBAL_ADDRESS then l else after_announcing l source destination size pgn
group_taken l (ConnectionManagement source destination (Abort reason pgn)) =
    record l { pairs = without_session_between destination source (without_session_between source destination l.pairs) }
group_taken l (DataTransfer source destination bytes) = after_packet_between l source destination bytes
group_taken l _ = l

-- the tables after one more reading; a gap makes it forget owners and all that is half sent
abbrev pub after_listening : ListenerValue → Reading → ListenerValue
after_listening l Empty = l
after_listening l (Gap count) = record l { owners = empty_table; pairs = no_pairs; gaps = counted (l.gaps + 1); missed = counted (l.missed + count) }
after_listening l (Frame f) = group_taken l (group_of f)

-- ---- what changes

-- the address that a NAME has
abbrev pub address_in_tables : ListenerValue → ℕ → Option ℕ
address_in_tables l name = address_in (row_of l.owners name (kept_under l.rows name))

-- whether the owner of an address, if it has one, has that address still
abbrev pub has_in_tables : ListenerValue → Option ℕ → ℕ → Bool
has_in_tables l None address = false
has_in_tables l (Some name) address = is_held (address_in_tables l name) address

abbrev pub ack_told : ListenerValue → Option ℕ → ℕ → ℕ → ℕ → ℕ → ℕ → Overheard
ack_told l None control requester pgn destination source = Nothing
ack_told l (Some name) control requester pgn destination source =
    Acknowledged name control pgn source requester destination (is_again control pgn (ack_in_row (row_known l.owners name (kept_under l.rows name))))

-- what one frame changes
abbrev pub group_told : ListenerValue → Group → Overheard
group_told l (AddressClaimed source name) =
    claim_overheard name source (is_held (address_in_tables l name) source) (displaced_by name (at l.owners source) (has_in_tables l (at l.owners source) source))
group_told l (CannotClaim name) = gave_up name (row_known l.owners name (kept_under l.rows name))
group_told l (Acknowledgment control requester pgn destination source) = ack_told l (at l.owners source) control requester pgn destination source
group_told l (Diagnostic kind source bytes) = sent_change source (in_one_frame l (Diagnostic kind source bytes))
group_told l (ConnectionManagement source destination (Bam size packets pgn)) =
    if destination == GLOBAL_ADDRESS then announcement_change (kind_of pgn) source (at l.owners source) else Nothing
group_told l (DataTransfer source destination bytes) = sent_change source (whole_with l source destination bytes)
group_told l _ = Nothing

-- what a reading changes
abbrev pub reading_told : ListenerValue → Reading → Overheard
reading_told l Empty = Nothing
reading_told l (Gap count) = Missed count
reading_told l (Frame f) = group_told l (group_of f)

-- ---- what is listed

-- what is read of a message that ended, if one did, or why nothing is
abbrev pub showing : Option MessageSent → Option ReadSending
showing None = None
showing (Some m) = Some (record { sending = record { who = m.who; kind = m.kind }; read = message_read m.bytes; why = why_unread m.bytes })

-- what is not read whole counts as unread
abbrev pub after_read_of : ListenerValue → Option MessageRead → ListenerValue
after_read_of l (Some (Whole shown)) = l
after_read_of l _ = record l { unread = counted (l.unread + 1) }

abbrev pub after_ended : ListenerValue → Option ReadSending → ListenerValue
after_ended l None = l
after_ended l (Some e) = after_read_of l e.read

abbrev pub read_told : ℕ → ℕ → Sending → ReadError → Option MessageRead → Overheard
read_told source to s why (Some (Whole shown)) = Listed s.who s.kind source to
read_told source to s why (Some (InPart part)) = ListedInPart s.who s.kind source to
read_told source to s why None = Unreadable s.who s.kind source to why

abbrev pub ended_told : ℕ → ℕ → Option ReadSending → Overheard
ended_told source to None = Nothing
ended_told source to (Some e) = read_told source to e.sending e.why e.read
