-- What follows from the definitions of a station's calls.
use Rattle.std.proofs.Common.{◌≡◌, ℕ, ◌⊎◌, inl, inr, Bool, true, false, not, ◌&&◌, ◌||◌, ◌==◌, nat_eq, nat_lt, is_some, List, [], ◌∷◌, Option, Some, None, if◌then◌else◌, refl, sym, ap, ◌∙◌, subst}
use Rattle.std.proofs.lemmas.Bool.{eqb-true}
use Rattle.address_claim.specs.Claiming.{is_held}
use Rattle.bus_model.specs.Heard.{StationSettings, claimer_heard}
use Rattle.bus_model.specs.declared.change.Change.{Change}
use Rattle.can_frame.specs.FrameValue.{FrameValue}
use Rattle.can_frame.specs.declared.reading.Reading.{Reading}
use Rattle.can_frame.specs.declared.reading.Reading.TheVariants.{Frame}
use Rattle.dm_messages.specs.declared.kind.Kind.{Kind}
use Rattle.entry_lists.specs.Entries.{with_listed}
use Rattle.parameter_group.specs.Group.{Group, Acknowledgment}
use Rattle.station_table.proofs.Listing.{lists_after}
use Rattle.station_table.specs.Changing.{group_changes}
use Rattle.station_table.specs.Listing.{entry_heard, lists_heard}
use Rattle.station_table.specs.Reactions.{group_reaction}
use Rattle.station_table.specs.StationValue.{StationValue}
use Rattle.station_table.specs.Steps.{after_group}
use Rattle.live_station.specs.Ear.{entry_of_told, frames_told, is_untold_after}
use Rattle.live_station.specs.OpenOrders.{clearing_group, doubt_of, group_wanted, order_heard}
use Rattle.live_station.specs.Positive.{AcknowledgesClear, IsPositive}
use Rattle.live_station.specs.Signs.{sign_by, sign_for, sign_staged}
use Rattle.live_station.specs.Working.{WorkingValue, address_of_name, hearing_on, progress_by, sight_of}
use Rattle.live_station.specs.declared.open.Asked.{Asked}
use Rattle.live_station.specs.declared.open.OpenOrder.{OpenOrder}
use Rattle.live_station.specs.declared.open.Sight.{Sight}
use Rattle.live_station.specs.declared.open.Stage.{Stage}
use Rattle.live_station.specs.declared.open.Stage.TheVariants as stage
use Rattle.live_station.specs.declared.order.Clearing.{Clearing}
use Rattle.live_station.specs.declared.order.Order.{Order}
use Rattle.live_station.specs.declared.order.Order.TheVariants.{Clear}
use Rattle.live_station.specs.declared.sign.Sign.{Sign}
use Rattle.live_station.specs.declared.sign.Sign.TheVariants as sign
use Rattle.live_station.proofs.Acknowledging.{IsAcknowledgment, acknowledged_by}
use Rattle.live_station.proofs.Positives.{IsAcknowledgedBy, heard_acknowledged}

-- ---- lists

pub lists_after_told : (r : StationSettings) (f : FrameValue) (h : List Reading) (n : ℕ) (k : Kind)
    → with_listed (entry_of_told r f h) (lists_heard r (frames_told r h)) n k ≡ lists_heard r (frames_told r (Frame f ∷ h)) n k
lists_after_told r f h n k = go (is_untold_after r (frames_told r h) f)
  where
    go : (b : Bool)
        → with_listed (if b then None else entry_heard r (Frame f) (frames_told r h)) (lists_heard r (frames_told r h)) n k
        ≡ lists_heard r (if b then frames_told r h else Frame f ∷ frames_told r h) n k
    go true = refl
    go false = lists_after r (Frame f) (frames_told r h) n k

-- ---- what nothing puts in doubt

held_as : (held : Option ℕ) (a : ℕ) → is_held held a ≡ true → held ≡ Some a
held_as None a e = absurd cc
held_as (Some own) a e = ap (λ (x : ℕ). Some x) (eqb-true own a e)

-- of two tests that put it in doubt neither holds
first_not : {A : Type 0} (b : Bool) (x : A) (y : Option A) → (if b then Some x else y) ≡ None → (b ≡ false) × (y ≡ None)
first_not true x y e = absurd cc
first_not false x y e = (refl, e)

not_false : (b : Bool) → not b ≡ false → b ≡ true
not_false true e = refl
not_false false e = absurd cc

or_false : (b c : Bool) → (b || c) ≡ false → (b ≡ false) × (c ≡ false)
or_false true c e = absurd cc
or_false false c e = (refl, e)

pub nothing_doubted : (name : ℕ) (what : Clearing) (a : Asked) (v : Sight) → doubt_of (Clear name what) a v ≡ None
    → (v.held ≡ Some a.own) × (v.address ≡ Some a.to) × (v.contested ≡ false) × (v.stranger ≡ false)
nothing_doubted name what a v e =
    let one : (not (is_held v.address a.to) ≡ false) × (_ ≡ None) = first_not (not (is_held v.address a.to)) _ _ e in
    let two : ((v.contested || not (is_held v.held a.own)) ≡ false) × (_ ≡ None) = first_not (v.contested || not (is_held v.held a.own)) _ _ one.1 in
    let three : (v.stranger ≡ false) × (_ ≡ None) = first_not v.stranger _ _ two.1 in
    let own : (v.contested ≡ false) × (not (is_held v.held a.own) ≡ false) = or_false v.contested (not (is_held v.held a.own)) two.0 in
    (held_as v.held a.own (not_false _ own.1), held_as v.address a.to (not_false _ one.0), own.0, three.0)

-- ---- a positive clear

acknowledges : (g : Group) (s : StationValue) (order : Order) (st : Stage) (x : Change) (contested : Bool)
    → IsAcknowledgedBy order st (sign_staged order st g x) (sight_of s order contested false)
    → (name : ℕ) × (what : Clearing) × (a : Asked) × (order ≡ Clear name what) × (st ≡ stage.Asked a) × AcknowledgesClear g name what a s
acknowledges g s order st x contested (name, what, a, ordered, staged, signed, undoubted) =
    let st_is : st ≡ stage.Asked a = staged in
    let order_is : order ≡ Clear name what = ordered in
    let by : sign_by (Clear name what) a g x ≡ sign.Acknowledged 0 =
    subst (λ (o : Order). sign_staged o (stage.Asked a) g x ≡ sign.Acknowledged 0) order_is
    (subst (λ (y : Stage). sign_staged order y g x ≡ sign.Acknowledged 0) st_is signed) in
    let ack : IsAcknowledgment (Clear name what) a g 0 = acknowledged_by (Clear name what) a g x 0 by in
    let free : doubt_of (Clear name what) a (sight_of s (Clear name what) contested false) ≡ None =
    subst (λ (o : Order). doubt_of o a (sight_of s o contested false) ≡ None) order_is undoubted in
    let both : (s.claimer.held ≡ Some a.own) × (address_of_name s (Some name) ≡ Some a.to) × (contested ≡ false) × (false ≡ false) =
    nothing_doubted name what a (sight_of s (Clear name what) contested false) free in
    (name, what, a, ordered, staged, record { requester = ack.0; destination = ack.1; says = ack.2; to_station = ack.3; held = both.0; address = both.1 })

pub positive_by_acknowledgment : (g : Group) (now : ℕ) (s : WorkingValue) (o : OpenOrder) → s.order ≡ Some o → o.found ≡ None → IsPositive (progress_by g now s)
    → (name : ℕ) × (what : Clearing) × (a : Asked) × (o.order ≡ Clear name what) × (o.stage ≡ stage.Asked a) × AcknowledgesClear g name what a (after_group s.station g)
positive_by_acknowledgment g now s o e f p =
    let s' : StationValue = after_group s.station g in
    let x : Sign = sign_staged o.order o.stage g (group_changes s.station g) in
    let v : Sight = sight_of s' o.order (group_reaction s.station g).withdraw false in
    let q : IsPositive (Some (order_heard x v now o)) =
    subst (λ (w : Option OpenOrder). IsPositive (hearing_on s' (sign_for w g (group_changes s.station g)) (group_reaction s.station g).withdraw false now w)) e p in
    let k : IsAcknowledgedBy o.order o.stage x v = heard_acknowledged o x v now f q in
    acknowledges g s' o.order o.stage (group_changes s.station g) (group_reaction s.station g).withdraw k
