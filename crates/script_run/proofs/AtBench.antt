-- What a command for the unit of a seat comes to at the bench.
use Rattle.std.proofs.Common.{◌≡◌, ◌≢◌, ℕ, suc, zero, ◌<◌, ◌∙◌, List, [], ◌∷◌, ◌++◌, Some, Result, Ok, Err, IfSome, OnOk, Option, length, get_or, set, take, drop, slice_get, arith, refl, sym, ap, subst, inl, inr}
use Rattle.std.specs.List.{remove}
use Rattle.std.proofs.lemmas.List.{drop-set-lt, take-set-le}
use Rattle.std.proofs.lemmas.Option.{get_or_from_slice_get}
use Rattle.journal.specs.Journal.{Adds, GarageValue}
use Rattle.journal.specs.declared.event.Event.TheVariants.{Join, Leave}
use Rattle.unit_trait.specs.declared.question.Question.{Question}
use Rattle.node_core.specs.declared.heard.Answer.{Answer as UnitAnswer}
use Rattle.script_line.specs.declared.command.Command.{Command}
use Rattle.garage.specs.Crew.{Sitting}
use Rattle.garage.specs.declared.error.GarageError.TheVariants.{Stranger}
use Rattle.script_answer.specs.declared.answer.LineAnswer.{LineAnswer}
use Rattle.script_answer.specs.declared.answer.LineAnswer.TheVariants.{Done, Seat}
use Rattle.script_answer.specs.declared.refusal.Refusal.{Refusal}
use Rattle.script_answer.specs.declared.refusal.Refusal.TheVariants.{Garage}
use Rattle.script_run.specs.Commands.{ActsSo, ActsBy, Does, IsTaken, Joins, Leaves}
use Rattle.script_run.specs.UnitSteps.{DoesIfKnown, UnitStep}

-- a unit that stands at a place, and has a seat
pub record Stands {P : Type 0} (sitting : P → Sitting) (us : List P) (i k : ℕ) (q : P) : Type 0 where
  pub there : slice_get us i ≡ Some q
  pub its : (sitting q).seat ≡ k

found : {P : Type 0} (seat : P → ℕ) (us : List P) (i k : ℕ) → i < length us → IfSome (slice_get us i) (λ p. seat p ≡ k) → (p : P) × (slice_get us i ≡ Some p) × (seat p ≡ k)
found seat [] i k l f = absurd (omega arith)
found seat (x ∷ us) zero k l f = (x, refl, f)
found seat (x ∷ us) (suc i) k l f = found seat us i k (omega arith) f

pub stands : {P : Type 0} (sitting : P → Sitting) (us vs : List P) (i k : ℕ) (q : P) → vs ≡ us → i < length vs → IfSome (slice_get vs i) (λ p. (sitting p).seat ≡ k) → q ≡ get_or us i q → Stands sitting us i k q
stands {P} sitting us vs i k q e l f is =
    let p = found (λ x. (sitting x).seat) us i k (subst (λ (xs : List P). i < length xs) e l) (subst (λ (xs : List P). IfSome (slice_get xs i) (λ x. (sitting x).seat ≡ k)) e f) in
    let same : q ≡ p.0 = is ∙ get_or_from_slice_get us i p.0 q p.1 in
    subst (λ (x : P). Stands sitting us i k x) (sym same) (record { there = p.1; its = p.2 })

pub acted : {P : Type 0} (sitting : P → Sitting) (does : UnitStep P) (us us' : List P) (i k : ℕ) (r : Result LineAnswer Refusal) (g g' : GarageValue) (q q' : P) → Stands sitting us i k q → us' ≡ set us i q' → r ≢ Err (Garage Stranger)
    → DoesIfKnown does r g q g' q' → ActsSo sitting k does r g us g' us'
acted sitting does us us' i k r g g' q q' at put known did = inl (record { place = i; before = q; after = q'; there = at.there; its = at.its; put = put; did = elim did [ inl d ↦ d | inr s ↦ absurd (known s.0) ] })

pub taken : {P : Type 0} (sitting : P → Sitting) (us us' : List P) (i k : ℕ) (q : P) → Stands sitting us i k q → us' ≡ remove us i → IsTaken sitting k us us'
taken sitting us us' i k q at rest = record { place = i; before = q; there = at.there; its = at.its; rest = rest }

remove_set : {P : Type 0} (us : List P) (i : ℕ) (q : P) → remove (set us i q) i ≡ remove us i
remove_set us i q = ap (λ xs. xs ++ drop (suc i) (set us i q)) (take-set-le i us i q (omega arith)) ∙ ap (λ xs. take i us ++ xs) (drop-set-lt (suc i) us i q (omega arith))

pub let_go : {P : Type 0} (sitting : P → Sitting) (does : UnitStep P) (us us' : List P) (i k : ℕ) (r : Result LineAnswer Refusal) (g g' : GarageValue) (q q' : P) → Stands sitting us i k q → us' ≡ remove (set us i q') i → r ≡ Err (Garage Stranger)
    → g' ≡ g → ActsSo sitting k does r g us g' us'
let_go sitting does us us' i k r g g' q q' at rest stranger same = inr (inr (stranger, same, taken sitting us us' i k q at (rest ∙ remove_set us i q')))

pub left : {P : Type 0} (sitting : P → Sitting) (us us' : List P) (i k : ℕ) (g g' : GarageValue) (q : P) → Stands sitting us i k q → us' ≡ remove us i → Adds g (Leave (sitting q).seat) g' → Leaves sitting k (Ok Done) g us g' us'
left sitting us us' i k g g' q at rest adds = inl (refl, subst (λ (s : ℕ). Adds g (Leave s) g') at.its adds, taken sitting us us' i k q at rest)

pub not_left : {P : Type 0} (sitting : P → Sitting) (us us' : List P) (i k : ℕ) (r : Result LineAnswer Refusal) (g g' : GarageValue) (q : P) → Stands sitting us i k q → us' ≡ remove us i → r ≡ Err (Garage Stranger) → g' ≡ g → Leaves sitting k r g us g' us'
not_left sitting us us' i k r g g' q at rest stranger same = inr (inr (stranger, same, taken sitting us us' i k q at rest))

-- a command for a unit, by what the unit did
pub by_unit : {P : Type 0} (sitting : P → Sitting) (asked : P → P → Option Question → UnitAnswer → Type 0) (y k : ℕ) (c d : Command) (r : Result LineAnswer Refusal) (g g' : GarageValue) (us us' : List P) → c ≡ d
    → (ActsBy sitting asked k d r g us g' us' → Does sitting asked y d r g us g' us') → ActsBy sitting asked k c r g us g' us' → Does sitting asked y c r g us g' us'
by_unit sitting asked y k c d r g g' us us' e f h =
    subst (λ (x : Command). Does sitting asked y x r g us g' us') (sym e) (f (subst (λ (x : Command). ActsBy sitting asked k x r g us g' us') e h))

-- where an answer was told, and what else holds
pub told_and : {T E A B : Type 0} (r : Result T E) → OnOk r A → (A → B) → OnOk r B
told_and (Ok x) a f = f a
told_and (Err e) a f = tt

pub joined : {P : Type 0} (sitting : P → Sitting) (k name address : ℕ) (g g' : GarageValue) (us us' : List P) (q : P) → k ≡ (sitting q).seat → (sitting q).name ≡ name → us' ≡ us ++ q ∷ [] → Adds g (Join (sitting q).seat name address) g'
    → Joins sitting name address (Ok (Seat k)) g us g' us'
joined sitting k name address g g' us us' q is named put adds = (subst (λ (s : ℕ). Adds g (Join s name address) g') (sym is) adds, (q, put, sym is, named))
