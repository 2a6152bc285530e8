-- What a reading changes, by the station's tables.
use Rattle.std.specs.Prelude.{ℕ, Bool, false, ◌||◌, ◌==◌, List, Option, Some, None, is_some, if◌then◌else◌}
use Rattle.address_claim.specs.Claiming.{is_held}
use Rattle.bus_model.specs.Changed.{announced_change, answer_change, claim_change, displaced_by, ended_change, giving_up, is_again, single_change}
use Rattle.bus_model.specs.Heard.{Entry, ack_in_row, finished, kind_of}
use Rattle.bus_model.specs.declared.change.Change.{Change}
use Rattle.bus_model.specs.declared.change.Change.TheVariants.{Nothing, Listed, Unreadable, Missed}
use Rattle.can_frame.specs.declared.address.TheConstants.{GLOBAL_ADDRESS}
use Rattle.can_frame.specs.declared.reading.Reading.{Reading}
use Rattle.can_frame.specs.declared.reading.Reading.TheVariants.{Frame, Gap, Empty}
use Rattle.parameter_group.specs.Group.{Group, AddressClaimed, CannotClaim, Acknowledgment, Diagnostic, ConnectionManagement, DataTransfer, group_of}
use Rattle.reassembly.specs.Partials.{with_packet}
use Rattle.reassembly.specs.Tables.{at}
use Rattle.transport.specs.declared.control.Control.TheVariants.{Bam}
use Rattle.station_table.specs.declared.ended.ReadMessage.{ReadMessage}
use Rattle.entry_lists.specs.KeptValue.{kept_under}
use Rattle.entry_lists.specs.KnownRows.{address_in, row_known, row_of}
use Rattle.station_table.specs.StationValue.{StationValue}

-- the address that a NAME has
abbrev pub address_by : StationValue → ℕ → Option ℕ
address_by s name = address_in (row_of s.owners name (kept_under s.rows name))

-- whether the owner of an address, if it has one, has that address still
abbrev pub keeps_address : StationValue → Option ℕ → ℕ → Bool
keeps_address s None address = false
keeps_address s (Some name) address = is_held (address_by s name) address

-- the message that a packet ends, if it ends one
abbrev pub ended_by_packet : StationValue → ℕ → ℕ → List ℕ → Option Entry
ended_by_packet s source destination bytes =
    if destination == GLOBAL_ADDRESS then finished (with_packet bytes (at s.broadcasts source))
    else (if is_held s.claimer.held destination then finished (with_packet bytes (at s.sessions source)) else None)

-- what is kept of a message from an address that ended, if one did
abbrev pub read_change : ℕ → Option ReadMessage → Change
read_change source None = Nothing
read_change source (Some e) = if is_some e.shown then Listed e.origin.owner e.origin.kind source else Unreadable e.origin.owner e.origin.kind source

-- whether the owner of an address, if it has one, has answered the same
abbrev pub answers_again : StationValue → Option ℕ → ℕ → ℕ → Bool
answers_again s None control pgn = false
answers_again s (Some name) control pgn = is_again control pgn (ack_in_row (row_known s.owners name (kept_under s.rows name)))

-- what one frame changes
abbrev pub group_changes : StationValue → Group → Change
group_changes s (AddressClaimed source name) =
    claim_change name source (is_held (address_by s name) source) (displaced_by name (at s.owners source) (keeps_address s (at s.owners source) source))
group_changes s (CannotClaim name) = giving_up name (row_known s.owners name (kept_under s.rows name))
group_changes s (Acknowledgment control requester pgn destination source) =
    answer_change (is_held s.claimer.held requester || is_held s.claimer.held destination) (at s.owners source) control pgn (answers_again s (at s.owners source) control pgn)
group_changes s (Diagnostic kind source bytes) = single_change kind source (at s.owners source) bytes
group_changes s (ConnectionManagement source destination (Bam size packets pgn)) =
    if destination == GLOBAL_ADDRESS then announced_change (kind_of pgn) source (at s.owners source) else Nothing
group_changes s (DataTransfer source destination bytes) = ended_change source (ended_by_packet s source destination bytes)
group_changes s _ = Nothing

-- what a reading changes
abbrev pub reading_changes : StationValue → Reading → Change
reading_changes s Empty = Nothing
reading_changes s (Gap count) = Missed count
reading_changes s (Frame f) = group_changes s (group_of f)
