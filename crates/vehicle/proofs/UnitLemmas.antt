use Rattle.std.proofs.Common.{◌≡◌, ◌≢◌, ℕ, ◌+◌, ◌<◌, List, [], ◌∷◌, ◌++◌, Option, Some, None, Result, Ok, Err, IfOk, take, length, get_or, ap, sym, subst, refl, ◌∙◌}
use Rattle.std.proofs.lemmas.List.{take_more}
use Rattle.toml.specs.declared.value.Value.{Value}
use Rattle.toml.specs.Data.{Data, Items, no_items, item, push_item}
use Rattle.toml.specs.View.{view, items_view}
use Rattle.toml.proofs.Views.{items_view-push}
use Rattle.std.proofs.lemmas.List.Quantifiers.{all_pairs_push}
use Rattle.std.specs.List.{All}
use Rattle.vehicle.specs.Holding.{EachHolds, EachHoldsAt, HasItemsAt, HoldsUnitOf}
use Rattle.vehicle.specs.declared.UnitLine.{UnitLine}
use Rattle.vehicle.specs.Identifying.{HaveDistinctGroups, HoldsSaidAt, HoldsText}
use Rattle.vehicle.specs.Live.{HaveDistinctNames, HoldsLiveUnit, HoldsRest, live_keys_of_kind}
use Rattle.vehicle.specs.declared.answer_line.AnswerLine.{AnswerLine}
use Rattle.vehicle.specs.declared.live.LiveLine.{LiveLine}

pushed : {A : Type 0} (holds : Data → A → Type 0) (ds : Items) (xs : List A) (d : Data) (x : A) → EachHolds holds ds xs → holds d x → EachHolds holds (push_item ds d) (xs ++ x ∷ [])
pushed holds no_items [] d x h k = (k, tt)
pushed holds no_items (y ∷ xs) d x h k = absurd h
pushed holds (item e ds) [] d x h k = absurd h
pushed holds (item e ds) (y ∷ xs) d x h k = (h.0, pushed holds ds xs d x h.1 k)

-- one more item read, one more thing
pub one_more : {A : Type 0} (holds : Data → A → Type 0) (lines : List Value) (i : ℕ) (line : Value) (xs new : List A) (x : A) → i < length lines → line ≡ get_or lines i line
    → EachHolds holds (items_view (take i lines)) xs → holds (view line) x → new ≡ xs ++ x ∷ [] → EachHolds holds (items_view (take (i + 1) lines)) new
one_more holds lines i line xs new x l is h k e =
    let all : EachHolds holds (push_item (items_view (take i lines)) (view line)) (xs ++ x ∷ []) = pushed holds _ xs (view line) x h k in
    let here : take (i + 1) lines ≡ take i lines ++ line ∷ [] = take_more lines i line l ∙ ap (λ y. take i lines ++ y ∷ []) (sym is) in
    rw (here, items_view-push (take i lines) line, e) all

none_held : {A : Type 0} (holds : Data → A → Type 0) (xs : List A) → EachHolds holds no_items xs → xs ≡ []
none_held holds [] h = refl
none_held holds (x ∷ xs) h = absurd h

-- of each item at a key
pub held : {A : Type 0} (holds : Data → A → Type 0) (o : Option Data) (ds : Items) (xs : List A) → HasItemsAt o ds → EachHolds holds ds xs → EachHoldsAt holds o xs
held holds None ds xs e h = none_held holds xs (subst (λ items. EachHolds holds items xs) e h)
held holds (Some d) ds xs e h = (ds, e, h)

-- one more unit, which has another NAME than those before
pub one_more_name : (units : List LiveLine) (i : ℕ) (unit : LiveLine) → i < length units → unit ≡ get_or units i unit → HaveDistinctNames (take i units)
    → All (λ one. one.unit.name ≢ unit.unit.name) (take i units) → HaveDistinctNames (take (i + 1) units)
one_more_name units i unit l is h k =
    let here : take (i + 1) units ≡ take i units ++ unit ∷ [] = take_more units i unit l ∙ ap (λ y. take i units ++ y ∷ []) (sym is) in
    rw here (all_pairs_push (λ (one other : LiveLine). one.unit.name ≢ other.unit.name) (take i units) unit h k)

-- one more group, which none of those before is
pub one_more_group : (answers : List AnswerLine) (i : ℕ) (answer : AnswerLine) → i < length answers → answer ≡ get_or answers i answer
    → HaveDistinctGroups (take i answers) → All (λ one. one.pgn ≢ answer.pgn) (take i answers) → HaveDistinctGroups (take (i + 1) answers)
one_more_group answers i answer l is h k =
    let here : take (i + 1) answers ≡ take i answers ++ answer ∷ [] = take_more answers i answer l ∙ ap (λ y. take i answers ++ y ∷ []) (sym is) in
    rw here (all_pairs_push (λ (one other : AnswerLine). one.pgn ≢ other.pgn) (take i answers) answer h k)

-- what a unit is, and the rest, are a unit
pub as_live_unit : {E : Type 0} (d : Data) (unit : UnitLine) (r : Result LiveLine E) → HoldsUnitOf (live_keys_of_kind unit.kind) d unit
    → IfOk r (λ u. (u.unit ≡ unit) × HoldsRest d u) → IfOk r (HoldsLiveUnit d)
as_live_unit d unit (Ok u) h k = record { unit = subst (λ (x : UnitLine). HoldsUnitOf (live_keys_of_kind x.kind) d x) (sym k.0) h; rest = k.1 }
as_live_unit d unit (Err e) h k = tt

-- a text of a key that is there
pub said_at : (says : List ℕ → AnswerLine → Type 0) (o : Option Data) (d : Data) (a : AnswerLine) → o ≡ Some d → HoldsText says d a → HoldsSaidAt says o (Some a)
said_at says o d a e h = subst (λ (x : Option Data). HoldsSaidAt says x (Some a)) (sym e) (a, refl, h)
