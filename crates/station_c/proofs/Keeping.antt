-- The newest entries of what was heard are kept through a reading.
use Rattle.std.proofs.Common.{◌≡◌, ℕ, List, ◌∷◌, Option, Some, None, Result, Ok, Err, IfOk, OnOk, sym, subst}
use Rattle.bus_model.specs.Changed.{change_heard}
use Rattle.bus_model.specs.Heard.{StationSettings}
use Rattle.can_frame.specs.declared.reading.Reading.{Reading}
use Rattle.dm_messages.specs.declared.kind.Kind.{Kind}
use Rattle.dm_messages.specs.declared.shown.Shown.{Shown}
use Rattle.entry_lists.specs.Entries.{HasPut, with_listed}
use Rattle.entry_lists.specs.Newest.{AreNewest, HasNewest, KeepsNewest, NewestLists, newest_under}
use Rattle.entry_lists.specs.declared.entry.NewEntry.{NewEntry}
use Rattle.station_table.specs.Listing.{entry_heard, lists_heard}
use Rattle.station_table.specs.StandsFor.{StandsFor}
use Rattle.station_table.specs.StationValue.{StationValue}
use Rattle.station_table.specs.declared.outcome.Outcome.{Outcome}
use Rattle.station_table.proofs.Listing.{lists_after}
use Rattle.station_c.specs.ListedStations.{ListedStationValue}

-- of lists with the entry, if there is one, the newest are kept
newest_with : (before after : NewestLists) (e : Option NewEntry) (all : ℕ → Kind → List Shown)
    → HasPut HasNewest before e after → KeepsNewest before all → KeepsNewest after (with_listed e all)
newest_with before after None all put kept = subst (λ (l : NewestLists). KeepsNewest l all) (sym put) kept
newest_with before after (Some e) all put kept = put.lists all kept

pub keeps_after : (before after : NewestLists) (r : StationSettings) (x : Reading) (h : List Reading)
    → HasPut HasNewest before (entry_heard r x h) after
    → KeepsNewest before (lists_heard r h) → KeepsNewest after (lists_heard r (x ∷ h))
keeps_after before after r x h put kept n k =
    subst (λ (list : List Shown). AreNewest after.keep list (newest_under after n k)) (lists_after r x h n k)
    (newest_with before after (entry_heard r x h) (lists_heard r h) put kept n k)

-- ---- at a call's answer, of a station with its lists that is seen as one value

pub stands_listed : {T E : Type 0} (result : Result T E) (old : ListedStationValue) (s : StationValue) (x : Reading) (after : StationValue) → s ≡ old.station
    → OnOk result ((r : StationSettings) (grant : ℕ) (h : List Reading) → StandsFor r grant s h → StandsFor r grant after (x ∷ h))
    → OnOk result ((r : StationSettings) (grant : ℕ) (h : List Reading) → StandsFor r grant old.station h → StandsFor r grant after (x ∷ h))
stands_listed result old s x after e took =
    subst (λ (t : StationValue). OnOk result ((r : StationSettings) (grant : ℕ) (h : List Reading) → StandsFor r grant t h → StandsFor r grant after (x ∷ h))) e took

pub lists_listed : {T E : Type 0} (result : Result T E) (old : ListedStationValue) (s : StationValue) (lists after : NewestLists) (x : Reading) → s ≡ old.station → lists ≡ old.lists
    → OnOk result ((r : StationSettings) (grant : ℕ) (h : List Reading) → StandsFor r grant s h → HasPut HasNewest lists (entry_heard r x h) after)
    → OnOk result ((r : StationSettings) (grant : ℕ) (h : List Reading) → StandsFor r grant old.station h
    → KeepsNewest old.lists (lists_heard r h) → KeepsNewest after (lists_heard r (x ∷ h)))
lists_listed (Ok y) old s lists after x e f put = λ r grant h st kept.
    keeps_after old.lists after r x h
    (subst (λ (l : NewestLists). HasPut HasNewest l (entry_heard r x h) after) f
    (put r grant h (subst (λ (t : StationValue). StandsFor r grant t h) (sym e) st))) kept
lists_listed (Err y) old s lists after x e f put = tt

pub change_listed : {E : Type 0} (result : Result Outcome E) (old : ListedStationValue) (s : StationValue) (x : Reading) → s ≡ old.station
    → IfOk result (λ o. (r : StationSettings) (grant : ℕ) (h : List Reading) → StandsFor r grant s h → o.change ≡ change_heard r x h)
    → IfOk result (λ o. (r : StationSettings) (grant : ℕ) (h : List Reading) → StandsFor r grant old.station h → o.change ≡ change_heard r x h)
change_listed result old s x e told =
    subst (λ (t : StationValue). IfOk result (λ o. (r : StationSettings) (grant : ℕ) (h : List Reading) → StandsFor r grant t h → o.change ≡ change_heard r x h)) e told
