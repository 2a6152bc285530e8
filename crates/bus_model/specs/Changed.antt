-- What one reading changes of what a station shows, by the readings before it, newest first; and what follows from such a change.
use Rattle.std.specs.Prelude.{◌≡◌, ℕ, ◌+◌, Bool, true, false, ◌&&◌, ◌||◌, ◌==◌, List, ◌∷◌, Option, Some, None, if◌then◌else◌, is_some}
use Rattle.address_claim.specs.Claiming.{is_held}
use Rattle.can_frame.specs.declared.reading.Reading.{Reading}
use Rattle.can_frame.specs.declared.reading.Reading.TheVariants.{Frame, Gap, Empty}
use Rattle.can_frame.specs.declared.address.TheConstants.{GLOBAL_ADDRESS}
use Rattle.dm_messages.specs.View.{decoding, same_kind}
use Rattle.dm_messages.specs.declared.kind.Kind.{Kind}
use Rattle.dm_messages.specs.declared.shown.Shown.{Shown}
use Rattle.parameter_group.specs.Group.{Group, AddressClaimed, CannotClaim, Acknowledgment, Diagnostic, ConnectionManagement, DataTransfer, group_of}
use Rattle.transport.specs.declared.control.Control.TheVariants.{Bam}
use Rattle.bus_model.specs.Heard.{StationSettings, AckHeard, Entry, RowHeard, ack_in_row, address_heard, address_known, addressless, counted, ended_by, kind_of, owner_heard, row_heard, row_with_ack, with_name}
use Rattle.bus_model.specs.declared.change.Change.{Change}
use Rattle.bus_model.specs.declared.change.Change.TheVariants.{Nothing, Claimed, GaveUp, Acknowledged, Listed, Unreadable, Unowned, Missed}
use Rattle.bus_model.specs.declared.change.Displaced.{Displaced}

-- another NAME claimed the address last, and loses it where it has it still
abbrev pub displaced_by : ℕ → Option ℕ → Bool → Option Displaced
displaced_by n None has = None
displaced_by n (Some m) has = if m == n then None else Some (record { name = m; lost = has })

-- whether the owner of an address, if it has one, has that address still
abbrev pub still_has : StationSettings → Option ℕ → ℕ → List Reading → Bool
still_has r None a older = false
still_has r (Some m) a older = is_held (address_known r m older) a

-- a claim of the address that the NAME has changes nothing
abbrev pub claim_change : ℕ → ℕ → Bool → Option Displaced → Change
claim_change n a has displaced = if has then Nothing else Claimed n a displaced

-- a cannot claim changes something where the NAME had an address, or was not known
abbrev pub giving_up : ℕ → Option RowHeard → Change
giving_up n None = GaveUp n
giving_up n (Some row) = if is_some row.address then GaveUp n else Nothing

-- whether an acknowledgment is the same as the last one, if there was one
abbrev pub is_again : ℕ → ℕ → Option AckHeard → Bool
is_again control pgn None = false
is_again control pgn (Some last) = (last.control == control) && (last.pgn == pgn)

-- whether the owner of an address, if it has one, has answered the same
abbrev pub has_answered : StationSettings → Option ℕ → ℕ → ℕ → List Reading → Bool
has_answered r None control pgn older = false
has_answered r (Some n) control pgn older = is_again control pgn (ack_in_row (row_heard r n older))

-- an acknowledgment from an address with an owner is kept where it is to the station
abbrev pub answer_change : Bool → Option ℕ → ℕ → ℕ → Bool → Change
answer_change to_station None control pgn again = Nothing
answer_change to_station (Some n) control pgn again = if to_station then Acknowledged n control pgn again else Nothing

-- a message from the address that ended, if one did, is listed, or cannot be read
abbrev pub ended_change : ℕ → Option Entry → Change
ended_change a None = Nothing
ended_change a (Some e) = if is_some (decoding e.bytes) then Listed e.name e.kind a else Unreadable e.name e.kind a

-- a diagnostic message in one frame
abbrev pub single_change : Kind → ℕ → Option ℕ → List ℕ → Change
single_change k a None bytes = Unowned k a
single_change k a (Some n) bytes = ended_change a (Some (record { name = n; kind = k; bytes = bytes }))

-- a broadcast is announced
abbrev pub announced_change : Option Kind → ℕ → Option ℕ → Change
announced_change None a own = Nothing
announced_change (Some k) a None = Unowned k a
announced_change (Some k) a (Some n) = Nothing

abbrev pub group_change : StationSettings → Group → List Reading → Change
group_change r (AddressClaimed s n) older =
    claim_change n s (is_held (address_known r n older) s) (displaced_by n (owner_heard s older) (still_has r (owner_heard s older) s older))
group_change r (CannotClaim n) older = giving_up n (row_heard r n older)
group_change r (Acknowledgment control requester pgn d s) older =
    answer_change (is_held (address_heard r older) requester || is_held (address_heard r older) d) (owner_heard s older) control pgn
    (has_answered r (owner_heard s older) control pgn older)
group_change r (Diagnostic k s bytes) older = single_change k s (owner_heard s older) bytes
group_change r (ConnectionManagement s d (Bam size packets pgn)) older =
    if d == GLOBAL_ADDRESS then announced_change (kind_of pgn) s (owner_heard s older) else Nothing
group_change r (DataTransfer s d bytes) older = ended_change s (ended_by r (DataTransfer s d bytes) older)
group_change r _ older = Nothing

-- what a reading changes
abbrev pub change_heard : StationSettings → Reading → List Reading → Change
change_heard r (Gap n) older = Missed n
change_heard r Empty older = Nothing
change_heard r (Frame f) older = group_change r (group_of f) older

-- ---- what follows

-- whether a NAME lost its address to another one
abbrev pub is_lost : Option Displaced → ℕ → Bool
is_lost None n = false
is_lost (Some d) n = (d.name == n) && d.lost

-- a NAME's row
abbrev pub row_changed : Change → ℕ → Option RowHeard → Option RowHeard
row_changed (Claimed m a displaced) n row =
    if m == n then Some (record { address = Some a; ack = ack_in_row row })
    else (if is_lost displaced n then addressless row else row)
row_changed (GaveUp m) n row = if m == n then Some (record { address = None; ack = ack_in_row row }) else row
row_changed (Acknowledged m control pgn again) n row = if m == n then row_with_ack control pgn row else row
row_changed (Missed count) n row = addressless row
row_changed _ n row = row

-- the NAMEs that have a row
abbrev pub names_changed : Change → List ℕ → List ℕ
names_changed (Claimed m a displaced) names = with_name m names
names_changed (GaveUp m) names = with_name m names
names_changed _ names = names

-- whether the list of a NAME and kind has one more entry
abbrev pub is_listed : Change → ℕ → Kind → Bool
is_listed (Listed m l a) n k = (m == n) && same_kind l k
is_listed _ n k = false

-- the entries, newest first: one more, or the same
abbrev pub AreListed : Bool → List Shown → List Shown → Type 0
AreListed false before after = after ≡ before
AreListed true before after = (v : Shown) × (after ≡ v ∷ before)

-- how many frames were missed, and how many messages could not be read
abbrev pub missed_changed : Change → ℕ → ℕ
missed_changed (Missed count) missed = counted (missed + count)
missed_changed _ missed = missed

abbrev pub unread_changed : Change → ℕ → ℕ
unread_changed (Unreadable n k a) unread = counted (unread + 1)
unread_changed _ unread = unread
