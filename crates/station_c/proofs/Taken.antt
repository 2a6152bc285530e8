-- A station that was lifted with its lists took a reading, and was put back.
use Rattle.std.proofs.Common.{◌≡◌, ℕ, List, ◌∷◌, Result, Ok, Err, IfOk, IfErr, sym, ◌∙◌, subst}
use Rattle.bus_model.specs.Changed.{change_heard}
use Rattle.bus_model.specs.Heard.{StationSettings}
use Rattle.can_frame.specs.declared.reading.Reading.{Reading}
use Rattle.entry_lists.specs.Newest.{KeepsNewest}
use Rattle.station_table.specs.Listing.{lists_heard}
use Rattle.station_table.specs.StandsFor.{StandsFor}
use Rattle.station_table.specs.declared.error.StationError.{StationError}
use Rattle.station_table.specs.declared.outcome.Outcome.{Outcome}
use Rattle.station_c.specs.ListedStations.{ListedStationValue}
use Rattle.station_c.specs.Records.{TellsChange, TellsReaction}
use Rattle.station_c.specs.Statuses.{status_of_station}
use Rattle.station_c.specs.declared.changes.ChangeRecord.{ChangeRecord}
use Rattle.station_c.specs.declared.records.ReplyRecord.{ReplyRecord}
use Rattle.station_c.specs.declared.status.Status.{Status}
use Rattle.station_c.specs.declared.status.Status.TheVariants.{Done}
use Rattle.station_c.proofs.Answered.{refusal_is_not_done}

pub put_back : (old lifted after new : ListedStationValue) (x : Reading) → lifted ≡ old → new ≡ after
    → ((r : StationSettings) (grant : ℕ) (h : List Reading) → StandsFor r grant lifted.station h → StandsFor r grant after.station (x ∷ h))
    → ((r : StationSettings) (grant : ℕ) (h : List Reading) → StandsFor r grant lifted.station h → KeepsNewest lifted.lists (lists_heard r h)
    → KeepsNewest after.lists (lists_heard r (x ∷ h)))
    → (r : StationSettings) (grant : ℕ) (h : List Reading) → StandsFor r grant old.station h → KeepsNewest old.lists (lists_heard r h)
    → StandsFor r grant new.station (x ∷ h) × KeepsNewest new.lists (lists_heard r (x ∷ h))
put_back old lifted after new x e f stands lists r grant h st kept =
    let before = subst (λ (p : ListedStationValue). StandsFor r grant p.station h) (sym e) st in
    let listed = subst (λ (p : ListedStationValue). KeepsNewest p.lists (lists_heard r h)) (sym e) kept in
    subst (λ (p : ListedStationValue). StandsFor r grant p.station (x ∷ h) × KeepsNewest p.lists (lists_heard r (x ∷ h))) (sym f)
    (stands r grant h before, lists r grant h before listed)

-- and what it told of the change is what was heard to change
pub told_back : (outcome : Result Outcome StationError) (status : Status) (reply : ReplyRecord) (told : ChangeRecord) (Q R : Type 0) (old lifted : ListedStationValue) (x : Reading)
    → lifted ≡ old → IfErr outcome (λ e. (status ≡ status_of_station e) × Q × R)
    → IfOk outcome (λ o. (status ≡ Done) × TellsReaction reply o.reaction × TellsChange told o.change)
    → IfOk outcome (λ o. (r : StationSettings) (grant : ℕ) (h : List Reading) → StandsFor r grant lifted.station h → o.change ≡ change_heard r x h)
    → status ≡ Done → (r : StationSettings) (grant : ℕ) (h : List Reading) → StandsFor r grant old.station h → TellsChange told (change_heard r x h)
told_back (Ok o) status reply told Q R old lifted x e refused tells changes done r grant h st =
    let before = subst (λ (p : ListedStationValue). StandsFor r grant p.station h) (sym e) st in
    subst (λ c. TellsChange told c) (changes r grant h before) tells.2
told_back (Err e) status reply told Q R old lifted x same refused tells changes done r grant h st = absurd (refusal_is_not_done e (sym refused.0 ∙ done))
