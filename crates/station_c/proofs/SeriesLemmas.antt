-- Frames that were taken one after the other, and one more.
use Rattle.std.proofs.Common.{◌≡◌, ◌+◌, ◌<◌, ◌≤◌, ◌^◌, ◌==◌, ℕ, Bool, Option, IsSomeAnd, slice_get, drop, set, List, ◌∷◌, Result, Ok, Err, IfOk, IfErr, OnOk, true, false, refl, sym, ap, ◌∙◌, subst, take, length, get_or, arith}
use Rattle.std.proofs.lemmas.List.{drop-drop, drop-set-lt, take_more, take_more_set}
use Rattle.std.proofs.lemmas.Option.{slice_get-get_or}
use Rattle.bus_model.specs.Changed.{change_heard}
use Rattle.bus_model.specs.Heard.{StationSettings}
use Rattle.can_frame.specs.declared.reading.Reading.{Reading}
use Rattle.can_frame.specs.declared.reading.Reading.TheVariants.{Frame}
use Rattle.entry_lists.specs.Newest.{KeepsNewest}
use Rattle.station_table.specs.Listing.{lists_heard}
use Rattle.station_table.specs.Reactions.{silent, station_reaction}
use Rattle.station_table.specs.StandsFor.{StandsFor}
use Rattle.station_table.specs.declared.error.StationError.{StationError}
use Rattle.station_table.specs.declared.outcome.Outcome.{Outcome}
use Rattle.station_table.specs.declared.reaction.Reaction.{Reaction}
use Rattle.station_c.specs.ListedStations.{ListedStationValue}
use Rattle.station_c.specs.Records.{TellsChange, TellsReaction, change_told, flag, frame_recorded}
use Rattle.station_c.specs.Series.{TakesFrames, TakesMore, TakesReading, reaction_told}
use Rattle.station_c.specs.Statuses.{status_of_station}
use Rattle.station_c.specs.declared.changes.ChangeRecord.{ChangeRecord}
use Rattle.station_c.specs.declared.records.FrameRecord.{FrameRecord}
use Rattle.station_c.specs.declared.records.ReplyRecord.{ReplyRecord}
use Rattle.station_c.specs.declared.status.Status.{Status}
use Rattle.station_c.specs.declared.status.Status.TheVariants.{Done}
use Rattle.station_c.proofs.Answered.{refusal_is_not_done}

flag_back : (b : Bool) → (flag b == 1) ≡ b
flag_back true = refl
flag_back false = refl

-- a reply that tells of a reaction says that one
pub told_reaction : (reply : ReplyRecord) (reaction : Reaction) → TellsReaction reply reaction → reaction_told reply ≡ reaction
told_reaction reply reaction tells =
    let e : (reply.withdraw == 1) ≡ reaction.withdraw = ap (λ (n : ℕ). n == 1) tells.0 ∙ flag_back reaction.withdraw in λ i. record { withdraw = e i; put = tells.1 i }

-- a station that was handed a reading, and did what its call promises, took it
pub took : (before after : ListedStationValue) (x : Reading) (outcome : Result Outcome StationError) (status : Status) (reply : ReplyRecord) (told : ChangeRecord) (Q R : Type 0)
    → OnOk outcome ((r : StationSettings) (grant : ℕ) (h : List Reading) → StandsFor r grant before.station h → StandsFor r grant after.station (x ∷ h))
    → OnOk outcome ((r : StationSettings) (grant : ℕ) (h : List Reading) → StandsFor r grant before.station h → KeepsNewest before.lists (lists_heard r h)
    → KeepsNewest after.lists (lists_heard r (x ∷ h)))
    → OnOk outcome (after.lists.keep ≡ before.lists.keep)
    → IfOk outcome (λ o. o.reaction ≡ station_reaction before.station x)
    → IfOk outcome (λ o. (r : StationSettings) (grant : ℕ) (h : List Reading) → StandsFor r grant before.station h → o.change ≡ change_heard r x h)
    → IfErr outcome (λ e. (status ≡ status_of_station e) × Q × R)
    → IfOk outcome (λ o. (status ≡ Done) × TellsReaction reply o.reaction × TellsChange told o.change)
    → status ≡ Done → TakesReading before x told (reaction_told reply) after
took before after x (Ok o) status reply told Q R stands lists keeps answer change refused tells done = record {
  stands = stands;
  lists = lists;
  keeps = keeps;
  replied = told_reaction reply o.reaction tells.1 ∙ answer;
  changed = λ r grant h st. tells.2 ∙ (λ i. change_told (change r grant h st i));
}
took before after x (Err e) status reply told Q R stands lists keeps answer change refused tells done = absurd (refusal_is_not_done e (sym refused.0 ∙ done))

-- one that was lifted took it, and was put back
pub took_lifted : (old lifted after new : ListedStationValue) (x : Reading) (told : ChangeRecord) (reply : Reaction) → lifted ≡ old → new ≡ after
    → TakesReading lifted x told reply after → TakesReading old x told reply new
took_lifted old lifted after new x told reply e f one =
    subst (λ (v : ListedStationValue). TakesReading v x told reply new) e (subst (λ (v : ListedStationValue). TakesReading lifted x told reply v) (sym f) one)

-- the frames before a place were taken, and then the one at that place
pub one_more : (before between after : ListedStationValue) (fs : List FrameRecord) (cs : List ChangeRecord) (i : ℕ) (d : FrameRecord) (c : ChangeRecord) (reply : Reaction)
    → i < length fs → i < length cs
    → TakesFrames before (take i fs) (take i cs) silent between → (get_or fs i d).id < 2 ^ 29 → (get_or fs i d).len ≤ 8
    → TakesReading between (Frame (frame_recorded (get_or fs i d))) c reply after
    → TakesFrames before (take (i + 1) fs) (take (i + 1) (set cs i c)) reply after
one_more before between after fs cs i d c reply low high some small short one =
    rw (take_more_set cs i c high, take_more fs i d low) (TakesMore before between after (take i fs) (take i cs) (get_or fs i d) c reply some small short one)

-- what holds of the element that was read holds of the one at that place
pub at_place : (fs : List FrameRecord) (i : ℕ) (d : FrameRecord) (P : FrameRecord → Type 0) → i < length fs → P (get_or fs i d) → IsSomeAnd (slice_get fs i) P
at_place fs i d P low holds = subst (λ (o : Option FrameRecord). IsSomeAnd o P) (sym (slice_get-get_or fs i d low)) holds

-- what is written at a place leaves what stands behind it
pub untouched : {X : Type 0} → (cs old : List X) (i : ℕ) (c : X) → drop i cs ≡ drop i old → drop (i + 1) (set cs i c) ≡ drop (i + 1) old
untouched cs old i c e = drop-set-lt (i + 1) cs i c (omega arith) ∙ (sym (drop-drop 1 i cs) ∙ (ap (drop 1) e ∙ drop-drop 1 i old))
