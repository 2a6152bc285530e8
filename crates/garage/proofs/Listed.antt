-- The lists of a station have what was heard of its readings, and with a reading taken that too.
use Rattle.std.proofs.Common.{ℕ, ◌≡◌, ◌≢◌, ◌==◌, ◌&&◌, false, List, [], ◌∷◌, ◌++◌, Option, Some, None, if◌then◌else◌, eq-eqb, refl, sym, ap, ◌∙◌}
use Rattle.std.proofs.lemmas.Bool.{ne_eqb}
use Rattle.bus_model.specs.Heard.{StationSettings}
use Rattle.can_frame.specs.declared.reading.Reading.{Reading}
use Rattle.dm_messages.specs.View.{same_kind}
use Rattle.dm_messages.specs.declared.kind.Kind.{Kind}
use Rattle.dm_messages.specs.declared.shown.Shown.{Shown}
use Rattle.entry_lists.specs.Entries.{HasAll, HasPut, KindsValue, entries_under, with_listed}
use Rattle.entry_lists.specs.declared.entry.NewEntry.{NewEntry}
use Rattle.journal.specs.declared.event.Event.TheVariants.{Read}
use Rattle.station_table.specs.Listing.{entry_heard, lists_heard}
use Rattle.station_table.proofs.Listing.{lists_after}
use Rattle.garage.proofs.Events.{readings_with}

put_all : (before after : List (ℕ × KindsValue)) (o : Option NewEntry) → HasPut HasAll before o after → (n : ℕ) (k : Kind) → entries_under after n k ≡ with_listed o (entries_under before) n k
put_all before after None same n k = ap (λ (rows : List (ℕ × KindsValue)). entries_under rows n k) same
put_all before after (Some e) h n k = h.lists n k

same_listed : (o : Option NewEntry) (f g : ℕ → Kind → List Shown) (n : ℕ) (k : Kind) → f n k ≡ g n k → with_listed o f n k ≡ with_listed o g n k
same_listed None f g n k e = e
same_listed (Some x) f g n k e = ap (λ (l : List Shown). if x.name == n && same_kind x.kind k then l ++ x.shown ∷ [] else l) e

-- what a station put into lists that had what was heard
pub listed_now : (r : StationSettings) (x : Reading) (h : List Reading) (before after : List (ℕ × KindsValue)) → HasPut HasAll before (entry_heard r x h) after
    → ((n : ℕ) (k : Kind) → entries_under before n k ≡ lists_heard r h n k) → (n : ℕ) (k : Kind) → entries_under after n k ≡ lists_heard r (x ∷ h) n k
listed_now r x h before after put had n k =
    put_all before after (entry_heard r x h) put n k ∙ (same_listed (entry_heard r x h) (entries_under before) (lists_heard r h) n k (had n k) ∙ lists_after r x h n k)

-- the readings of a station after its reading, and of another one
pub own_reading : (y : ℕ) (r : Reading) (rs : List Reading) → readings_with (Read y r) y rs ≡ r ∷ rs
own_reading y r rs = rw (eq-eqb y y refl) refl

pub other_reading : (y j : ℕ) (r : Reading) (rs : List Reading) → j ≢ y → readings_with (Read y r) j rs ≡ rs
other_reading y j r rs n =
    let apart : (y == j) ≡ false = ne_eqb y j (λ e. n (sym e)) in
    rw apart refl
