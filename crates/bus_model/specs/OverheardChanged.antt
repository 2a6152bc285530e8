-- What one reading changes of what a listener shows, by the readings before it, newest first.
use Rattle.std.specs.Prelude.{ℕ, Bool, false, ◌==◌, List, Option, Some, None, if◌then◌else◌, is_some}
use Rattle.address_claim.specs.Claiming.{is_held}
use Rattle.can_frame.specs.declared.address.TheConstants.{GLOBAL_ADDRESS}
use Rattle.can_frame.specs.declared.reading.Reading.{Reading}
use Rattle.can_frame.specs.declared.reading.Reading.TheVariants.{Frame, Gap, Empty}
use Rattle.dm_messages.specs.Refusals.{refusal}
use Rattle.dm_messages.specs.Tolerant.{message_read}
use Rattle.dm_messages.specs.declared.error.ReadError.{ReadError}
use Rattle.dm_messages.specs.declared.error.ReadError.TheVariants.{BadLength}
use Rattle.dm_messages.specs.declared.kind.Kind.{Kind}
use Rattle.dm_messages.specs.declared.tolerant.MessageRead.{MessageRead}
use Rattle.dm_messages.specs.declared.tolerant.MessageRead.TheVariants.{Whole, InPart}
use Rattle.parameter_group.specs.Group.{Group, AddressClaimed, CannotClaim, Acknowledgment, Diagnostic, ConnectionManagement, DataTransfer, group_of}
use Rattle.transport.specs.declared.control.Control.TheVariants.{Bam}
use Rattle.bus_model.specs.Changed.{displaced_by, is_again}
use Rattle.bus_model.specs.Heard.{RowHeard, ack_in_row, kind_of, owner_heard}
use Rattle.bus_model.specs.Overheard.{MessageSent, address_overheard, row_overheard, sent_by}
use Rattle.bus_model.specs.declared.change.Displaced.{Displaced}
use Rattle.bus_model.specs.declared.overheard.Overheard.{Overheard}
use Rattle.bus_model.specs.declared.overheard.Overheard.TheVariants.{Nothing, Claimed, GaveUp, Acknowledged, Listed, ListedInPart, Unreadable, Unowned, Missed}

-- a claim of the address that the NAME has changes nothing
abbrev pub claim_overheard : ℕ → ℕ → Bool → Option Displaced → Overheard
claim_overheard n a has displaced = if has then Nothing else Claimed n a displaced

-- a cannot claim changes something where the NAME had an address, or was not known
abbrev pub gave_up : ℕ → Option RowHeard → Overheard
gave_up n None = GaveUp n
gave_up n (Some row) = if is_some row.address then GaveUp n else Nothing

-- whether the owner of an address, if it has one, has that address still
abbrev pub has_still : Option ℕ → ℕ → List Reading → Bool
has_still None a older = false
has_still (Some m) a older = is_held (address_overheard m older) a

-- an acknowledgment from an address with an owner
abbrev pub ack_overheard : Option ℕ → ℕ → ℕ → ℕ → ℕ → ℕ → List Reading → Overheard
ack_overheard None control requester pgn d s older = Nothing
ack_overheard (Some n) control requester pgn d s older = Acknowledged n control pgn s requester d (is_again control pgn (ack_in_row (row_overheard n older)))

-- why a payload is refused (one that can be read is not: the word says nothing of it)
abbrev pub or_bad_length : Option ReadError → ReadError
or_bad_length None = BadLength
or_bad_length (Some why) = why

abbrev pub why_unread : List ℕ → ReadError
why_unread bytes = or_bad_length (refusal bytes)

-- a message from the address is listed, or listed as far as it can be read, or cannot be read
abbrev pub change_of_read : ℕ → MessageSent → Option MessageRead → Overheard
change_of_read a m (Some (Whole shown)) = Listed m.who m.kind a m.to
change_of_read a m (Some (InPart part)) = ListedInPart m.who m.kind a m.to
change_of_read a m None = Unreadable m.who m.kind a m.to (why_unread m.bytes)

-- so is one that ended, if one did
abbrev pub sent_change : ℕ → Option MessageSent → Overheard
sent_change a None = Nothing
sent_change a (Some m) = change_of_read a m (message_read m.bytes)

-- a broadcast is announced
abbrev pub announcement_change : Option Kind → ℕ → Option ℕ → Overheard
announcement_change None a own = Nothing
announcement_change (Some k) a None = Unowned k a
announcement_change (Some k) a (Some n) = Nothing

abbrev pub group_overheard : Group → List Reading → Overheard
group_overheard (AddressClaimed s n) older =
    claim_overheard n s (is_held (address_overheard n older) s) (displaced_by n (owner_heard s older) (has_still (owner_heard s older) s older))
group_overheard (CannotClaim n) older = gave_up n (row_overheard n older)
group_overheard (Acknowledgment control requester pgn d s) older = ack_overheard (owner_heard s older) control requester pgn d s older
group_overheard (Diagnostic k s bytes) older = sent_change s (sent_by (Diagnostic k s bytes) older)
group_overheard (ConnectionManagement s d (Bam size packets pgn)) older =
    if d == GLOBAL_ADDRESS then announcement_change (kind_of pgn) s (owner_heard s older) else Nothing
group_overheard (DataTransfer s d bytes) older = sent_change s (sent_by (DataTransfer s d bytes) older)
group_overheard _ older = Nothing

-- what a reading changes
abbrev pub change_overheard : Reading → List Reading → Overheard
change_overheard (Gap n) older = Missed n
change_overheard Empty older = Nothing
change_overheard (Frame f) older = group_overheard (group_of f) older
