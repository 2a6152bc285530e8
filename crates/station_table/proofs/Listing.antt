-- The entry that a reading lists by the tables is the one that was heard; the change says it; and what becomes of the lists.
use Rattle.std.proofs.Common.{◌≡◌, ℕ, ◌<◌, Bool, true, false, ◌==◌, ◌&&◌, ◌||◌, List, [], ◌∷◌, ◌++◌, Option, Some, None, if◌then◌else◌, is_some, reverse, refl, sym, ap, ◌∙◌, subst}
use Rattle.std.specs.Prelude.{Result, Ok, Err, OnOk}
use Rattle.std.proofs.lemmas.Grind.{reverse_onto}
use Rattle.address_claim.specs.Claiming.{is_held}
use Rattle.bus_model.specs.Changed.{announced_change, answer_change, ended_change, giving_up, single_change}
use Rattle.bus_model.specs.Heard.{Entry, RowHeard, StationSettings, ended_by, entries_heard, entry_under, kind_of, put, put_read}
use Rattle.bus_model.specs.declared.change.Change.{Change}
use Rattle.bus_model.specs.declared.change.Change.TheVariants.{Listed, Unreadable}
use Rattle.can_frame.specs.FrameValue.{FrameValue}
use Rattle.can_frame.specs.declared.reading.Reading.{Reading}
use Rattle.can_frame.specs.declared.reading.Reading.TheVariants.{Frame, Gap, Empty}
use Rattle.dm_messages.specs.View.{decoding, same_kind}
use Rattle.dm_messages.specs.declared.kind.Kind.{Kind}
use Rattle.dm_messages.specs.declared.shown.Shown.{Shown}
use Rattle.entry_lists.specs.Entries.{HasPut, with_listed}
use Rattle.entry_lists.specs.declared.entry.NewEntry.{NewEntry}
use Rattle.parameter_group.specs.Group.{Group, AddressClaimed, CannotClaim, Request, Acknowledgment, Diagnostic, ConnectionManagement, DataTransfer, Other, group_of}
use Rattle.reassembly.specs.Tables.{at}
use Rattle.transport.specs.declared.control.Control.TheVariants.{Rts, Cts, EndAck, Bam, Abort}
use Rattle.station_table.specs.Changing.{address_by, answers_again, ended_by_packet, group_changes, reading_changes}
use Rattle.entry_lists.specs.KeptValue.{kept_under}
use Rattle.station_table.specs.Listing.{SaysEntry, entry_heard, entry_if_read, entry_of_ended, entry_of_read, group_entry, group_entry_heard, lists_heard, reading_entry}
use Rattle.station_table.specs.StandsFor.{StandsFor}
use Rattle.entry_lists.specs.KnownRows.{row_known}
use Rattle.station_table.specs.StationValue.{StationValue}
use Rattle.station_table.specs.Steps.{ended_shown}
use Rattle.station_table.proofs.Changing.{packet_same}
use Rattle.parameter_group.specs.Laws.{sender, sender_below}

-- ---- the tables and what was heard

group_same : (r : StationSettings) (grant : ℕ) (s : StationValue) (h : List Reading) (g : Group) → sender g < 256 → StandsFor r grant s h → group_entry s g ≡ group_entry_heard r g h
group_same r grant s h (Diagnostic k a bytes) lt st = ap (λ (o : Option ℕ). entry_of_ended a (entry_under o k bytes)) (st.owners a lt)
group_same r grant s h (DataTransfer a d bytes) lt st = ap (entry_of_ended a) (packet_same r grant s h a d bytes lt st)
group_same r grant s h (AddressClaimed a n) lt st = refl
group_same r grant s h (CannotClaim n) lt st = refl
group_same r grant s h (Acknowledgment c q p d a) lt st = refl
group_same r grant s h (ConnectionManagement a d c) lt st = refl
group_same r grant s h (Request p d a) lt st = refl
group_same r grant s h Other lt st = refl

pub entry_same : (r : StationSettings) (grant : ℕ) (s : StationValue) (h : List Reading) (x : Reading) → StandsFor r grant s h → reading_entry s x ≡ entry_heard r x h
entry_same r grant s h Empty st = refl
entry_same r grant s h (Gap n) st = refl
entry_same r grant s h (Frame f) st = group_same r grant s h (group_of f) (sender_below f) st

-- what is read of a message that ended
pub read_entry : (source : ℕ) (o : Option Entry) → entry_of_read source (ended_shown o) ≡ entry_of_ended source o
read_entry source None = refl
read_entry source (Some e) = refl

-- ---- the change says it

says_ended : (source : ℕ) (o : Option Entry) → SaysEntry (ended_change source o) (entry_of_ended source o)
says_ended source None = refl
says_ended source (Some e) = go (decoding e.bytes)
  where
    go : (v : Option Shown) → SaysEntry (if is_some v then Listed e.name e.kind source else Unreadable e.name e.kind source) (entry_if_read source e.name e.kind v)
    go None = refl
    go (Some v) = (record { name = e.name; kind = e.kind; source = source; shown = v }, refl, refl, refl, refl)

says_if : (b : Bool) (x y : Change) → SaysEntry x None → SaysEntry y None → SaysEntry (if b then x else y) None
says_if true x y p q = p
says_if false x y p q = q

says_giving_up : (n : ℕ) (o : Option RowHeard) → SaysEntry (giving_up n o) None
says_giving_up n None = refl
says_giving_up n (Some row) = says_if (is_some row.address) _ _ refl refl

says_answer : (b : Bool) (own : Option ℕ) (control pgn : ℕ) (again : Bool) → SaysEntry (answer_change b own control pgn again) None
says_answer b None control pgn again = refl
says_answer b (Some n) control pgn again = says_if b _ _ refl refl

says_announced : (k : Option Kind) (source : ℕ) (own : Option ℕ) → SaysEntry (announced_change k source own) None
says_announced None source own = refl
says_announced (Some k) source None = refl
says_announced (Some k) source (Some n) = refl

says_single : (k : Kind) (source : ℕ) (own : Option ℕ) (bytes : List ℕ) → SaysEntry (single_change k source own bytes) (entry_of_ended source (entry_under own k bytes))
says_single k source None bytes = refl
says_single k source (Some n) bytes = says_ended source (Some (record { name = n; kind = k; bytes = bytes }))

says_group : (s : StationValue) (g : Group) → SaysEntry (group_changes s g) (group_entry s g)
says_group s (AddressClaimed a n) = says_if (is_held (address_by s n) a) _ _ refl refl
says_group s (CannotClaim n) = says_giving_up n (row_known s.owners n (kept_under s.rows n))
says_group s (Acknowledgment c q p d a) = says_answer (is_held s.claimer.held q || is_held s.claimer.held d) (at s.owners a) c p (answers_again s (at s.owners a) c p)
says_group s (Diagnostic k a bytes) = says_single k a (at s.owners a) bytes
says_group s (DataTransfer a d bytes) = says_ended a (ended_by_packet s a d bytes)
says_group s (ConnectionManagement a d (Bam size packets pgn)) = says_if (d == 255) _ _ (says_announced (kind_of pgn) a (at s.owners a)) refl
says_group s (ConnectionManagement a d (Rts size packets most pgn)) = refl
says_group s (ConnectionManagement a d (Cts granted next pgn)) = refl
says_group s (ConnectionManagement a d (EndAck size packets pgn)) = refl
says_group s (ConnectionManagement a d (Abort reason pgn)) = refl
says_group s (Request p d a) = refl
says_group s Other = refl

says_reading : (s : StationValue) (x : Reading) → SaysEntry (reading_changes s x) (reading_entry s x)
says_reading s Empty = refl
says_reading s (Gap n) = refl
says_reading s (Frame f) = says_group s (group_of f)

-- ---- what becomes of the lists

-- an entry behind those that were heard, newest first
turned : (heard : List Shown) (v : Shown) (b : Bool) → (if b then reverse heard ++ v ∷ [] else reverse heard) ≡ reverse (if b then v ∷ heard else heard)
turned heard v true = sym (reverse_onto heard v [])
turned heard v false = refl

if_same : {X : Type 0} (b : Bool) (x : X) → x ≡ (if b then x else x)
if_same true x = refl
if_same false x = refl

ended_after : (r : StationSettings) (h : List Reading) (source n : ℕ) (k : Kind) (o : Option Entry)
    → with_listed (entry_of_ended source o) (lists_heard r h) n k ≡ reverse (put n k o (entries_heard r n k h))
ended_after r h source n k None = refl
ended_after r h source n k (Some e) = go (decoding e.bytes)
  where
    go : (v : Option Shown) → with_listed (entry_if_read source e.name e.kind v) (lists_heard r h) n k
        ≡ reverse (if e.name == n && same_kind e.kind k then put_read v (entries_heard r n k h) else entries_heard r n k h)
    go None = ap (λ (l : List Shown). reverse l) (if_same (e.name == n && same_kind e.kind k) (entries_heard r n k h))
    go (Some v) = turned (entries_heard r n k h) v (e.name == n && same_kind e.kind k)

group_after : (r : StationSettings) (h : List Reading) (n : ℕ) (k : Kind) (g : Group)
    → with_listed (group_entry_heard r g h) (lists_heard r h) n k ≡ reverse (put n k (ended_by r g h) (entries_heard r n k h))
group_after r h n k (Diagnostic l a bytes) = ended_after r h a n k (ended_by r (Diagnostic l a bytes) h)
group_after r h n k (DataTransfer a d bytes) = ended_after r h a n k (ended_by r (DataTransfer a d bytes) h)
group_after r h n k (AddressClaimed a m) = refl
group_after r h n k (CannotClaim m) = refl
group_after r h n k (Acknowledgment c q p d a) = refl
group_after r h n k (ConnectionManagement a d c) = refl
group_after r h n k (Request p d a) = refl
group_after r h n k Other = refl

pub lists_after : (r : StationSettings) (x : Reading) (h : List Reading) (n : ℕ) (k : Kind) → with_listed (entry_heard r x h) (lists_heard r h) n k ≡ lists_heard r (x ∷ h) n k
lists_after r Empty h n k = refl
lists_after r (Gap m) h n k = refl
lists_after r (Frame f) h n k = group_after r h n k (group_of f)

-- ---- at a call's answer

pub listed_by_reading : {L : Type 0} (takes : L → NewEntry → L → Type 0) (before after : L) (r : StationSettings) (grant : ℕ) (s : StationValue) (h : List Reading) (x : Reading)
    → HasPut takes before (reading_entry s x) after → StandsFor r grant s h → HasPut takes before (entry_heard r x h) after
listed_by_reading takes before after r grant s h x put st = subst (λ (e : Option NewEntry). HasPut takes before e after) (entry_same r grant s h x st) put

pub listed_by_group : {L : Type 0} (takes : L → NewEntry → L → Type 0) (before after : L) (r : StationSettings) (grant : ℕ) (s : StationValue) (h : List Reading) (f : FrameValue) (g : Group)
    → group_of f ≡ g → HasPut takes before (group_entry s g) after → StandsFor r grant s h → HasPut takes before (entry_heard r (Frame f) h) after
listed_by_group takes before after r grant s h f g is put st =
    subst (λ (e : Option NewEntry). HasPut takes before e after) (ap (group_entry s) (sym is) ∙ entry_same r grant s h (Frame f) st) put

-- the same at a call that may be refused
pub listed_on_ok : {T E L : Type 0} (result : Result T E) (takes : L → NewEntry → L → Type 0) (before after : L) (s : StationValue) (x : Reading)
    → OnOk result (HasPut takes before (reading_entry s x) after)
    → OnOk result ((r : StationSettings) (grant : ℕ) (h : List Reading) → StandsFor r grant s h → HasPut takes before (entry_heard r x h) after)
listed_on_ok (Ok y) takes before after s x put = λ r grant h st. listed_by_reading takes before after r grant s h x put st
listed_on_ok (Err y) takes before after s x put = tt

pub says_by_reading : (s : StationValue) (x : Reading) (c : Change) → c ≡ reading_changes s x → SaysEntry c (reading_entry s x)
says_by_reading s x c e = subst (λ (d : Change). SaysEntry d (reading_entry s x)) (sym e) (says_reading s x)

pub says_by_group : (s : StationValue) (g : Group) (c : Change) → c ≡ group_changes s g → SaysEntry c (group_entry s g)
says_by_group s g c e = subst (λ (d : Change). SaysEntry d (group_entry s g)) (sym e) (says_group s g)

-- what a frame lists, told by its group
pub entry_same_said : {L : Type 0} (takes : L → NewEntry → L → Type 0) (before after : L) (s : StationValue) (g said : Group) → said ≡ g
    → HasPut takes before (group_entry s said) after → HasPut takes before (group_entry s g) after
entry_same_said takes before after s g said e put = subst (λ (x : Group). HasPut takes before (group_entry s x) after) e put
