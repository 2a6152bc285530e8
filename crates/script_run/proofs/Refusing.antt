-- Why a unit that the garage knows begins no DM1.
use Rattle.std.proofs.Common.{◌≡◌, ◌⊎◌, ◌↔◌, ℕ, Bool, true, false, Result, Err, IsSome, ap, refl, inl, inr}
use Rattle.std.proofs.Math.Bool.{Bool-discrete}
use Rattle.std.proofs.Math.Decide.{dec_le, dec_lt, ℕ_discrete}
use Rattle.journal.specs.Journal.{GarageValue, IsSeated}
use Rattle.garage.specs.Calls.{BeginsFull, BeginsHeld, BeginsUnclaimed, IsBeginRefusal}
use Rattle.garage.specs.Causes.{has_open_dm1, held_at}
use Rattle.garage.specs.Crew.{Sitting}
use Rattle.garage.specs.declared.answers.Begin.{Begin}
use Rattle.garage.specs.declared.error.GarageError.{GarageError}
use Rattle.garage.specs.declared.error.GarageError.TheVariants.{Stranger}
use Rattle.script_answer.specs.declared.refusal.Refusal.TheVariants.{Garage}
use Rattle.script_run.specs.UnitSteps.{BeginsSo, DoesIfKnown}

stable : {A : Type 0} → Dec A → ¬ ¬ A → A
stable (yes a) h = a
stable (no k) h = absurd (h k)

-- a seat that is not unknown is known
seated : (g : GarageValue) (k name events : ℕ) → ¬ ¬ IsSeated g k name events → IsSeated g k name events
seated g k name events h = record {
  unit = (stable (dec_le _ _) (λ n. h (λ s. n s.unit.0)), stable (dec_lt _ _) (λ n. h (λ s. n s.unit.1)), stable (Bool-discrete _ _) (λ n. h (λ s. n s.unit.2)));
  named = stable (ℕ_discrete _ _) (λ n. h (λ s. n s.named));
  counted = stable (ℕ_discrete _ _) (λ n. h (λ s. n s.counted));
}

not_false : (b : Bool) → ¬ (b ≡ false) → b ≡ true
not_false true h = refl
not_false false h = absurd (h refl)

not_true : (b : Bool) → ¬ (b ≡ true) → b ≡ false
not_true true h = absurd (h refl)
not_true false h = refl

pub begin_refused : {P : Type 0} (sitting : P → Sitting) (name events : ℕ) (g g' : GarageValue) (p p' : P) (e : GarageError)
    → (Path (Result Begin GarageError) (Err e) (Err Stranger) ↔ (¬ IsSeated g (sitting p).seat name events))
    → (IsSeated g (sitting p).seat name events → BeginsUnclaimed g (sitting p).seat (Err e))
    → (IsSeated g (sitting p).seat name events → BeginsHeld g (sitting p).seat (Err e))
    → (IsSeated g (sitting p).seat name events → BeginsFull g (sitting p).seat (Err e))
    → (e ≡ Stranger) ⊎ IsBeginRefusal e → g' ≡ g → p' ≡ p → DoesIfKnown (BeginsSo sitting) (Err (Garage e)) g p g' p'
begin_refused sitting name events g g' p p' e stranger unclaimed held full only same kept = elim only [
  | inl s ↦ inr (ap (λ x. Err (Garage x)) s, same, kept)
  | inr (inl u) ↦
      let s : IsSeated g (sitting p).seat name events = seated _ _ _ _ (λ n. (let is = stranger.1 n in absurd cc)) in
      inl (inl (u, (unclaimed s).0 (ap Err u)), same, kept)
  | inr (inr (inl b)) ↦
      let s : IsSeated g (sitting p).seat name events = seated _ _ _ _ (λ n. (let is = stranger.1 n in absurd cc)) in
      let f = (full s).0 (ap Err b) in
      inl (inr (f.0, f.1, inl (b, f.2)), same, kept)
  | inr (inr (inr o)) ↦
      let s : IsSeated g (sitting p).seat name events = seated _ _ _ _ (λ n. (let is = stranger.1 n in absurd cc)) in
      let claimed : IsSome (held_at g (sitting p).seat) = not_false _ (λ none. (let is = (unclaimed s).1 none in absurd cc)) in
      let shut : has_open_dm1 g (sitting p).seat ≡ false = not_true _ (λ under_way. (let is = (held s).1 (claimed, under_way) in absurd cc)) in
      inl (inr (claimed, shut, inr (o, λ f. (let is = (full s).1 (claimed, shut, f) in absurd cc))), same, kept)
]
