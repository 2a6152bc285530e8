-- Watches of several buses: one more, and those that change.
use Rattle.std.proofs.Common.{◌≡◌, ◌⊎◌, inl, ◌==◌, ◌||◌, ◌&&◌, ℕ, zero, suc, ◌+◌, ◌<◌, ◌≤◌, Bool, true, false, List, [], ◌∷◌, ◌++◌, Option, Some, None, Result, Ok, Err, OnErr, length, refl, sym, ap, ◌∙◌, subst, arith}
use Rattle.std.specs.Prelude.{nat_lt, option_map, slice_get, slice_index_or, slice_set, string_bytes}
use Rattle.std.proofs.lemmas.Bool.{eq-eqb, eqb-true, ne_eqb}
use Rattle.std.proofs.lemmas.Grind.{common_steps}
use Rattle.std.proofs.lemmas.Option.{slice_get_past}
use Rattle.bus_watch.specs.Hearing.{AreChanged, AreTold, BeginsOne, BusesValue, HasBegun, HaveHeard, IsChangedOrNot, IsOver, IsTold, MayBeTold, MayHaveHeard, beginning_as, hearers_of, is_hearer}
use Rattle.bus_watch.specs.Over.{HasOwnersAlone}
use Rattle.bus_watch.specs.Told.{Beginning, IsToldAs, Read, StandsForAll, Told}
use Rattle.bus_watch.specs.Identified.{none_identified, identified_anew}
use Rattle.bus_watch.specs.IdentifiedSaid.{IdentifiedGoesOn}
use Rattle.candump_line.specs.declared.line.Line.{Line}
use Rattle.bus_watch.specs.declared.buses.BusWatch.{BusWatch}

pub one_begun : (old new : BusesValue) (followed name : Option (List ℕ)) (one : BusWatch) → option_map string_bytes one.bus ≡ name
    → StandsForAll (beginning_as old.settings followed) [] one.watch → one.watch.identified ≡ none_identified → new ≡ record old { watches = old.watches ++ one ∷ [] } → BeginsOne followed name old new
one_begun old new followed name one named stands identified more = record { one = one; is = record { name = named; stands = stands; identified = identified }; begun = more }

pub is_told : (next : Told) (old new : BusWatch) → new.bus ≡ old.bus → ((b : Beginning) (ts : List Told) → StandsForAll b ts old.watch → StandsForAll b (next ∷ ts) new.watch)
    → IdentifiedGoesOn next old.watch new.watch → IsToldAs next old.watch new.watch new.changes → IsTold next old new
is_told next old new bus stands identified changes = record { bus = bus; stands = stands; identified = identified; changes = changes }

pub is_over : (old new : BusWatch) → new.bus ≡ old.bus → HasOwnersAlone old.watch new.watch → new.watch.identified ≡ identified_anew old.watch.identified → new.changes ≡ old.changes → IsOver old new
is_over old new bus anew identified changes = record { bus = bus; anew = anew; identified = identified; changes = changes }

module _ (Changes : BusWatch → BusWatch → Type 0) where
  -- none changed
  unchanged : (o : Option BusWatch) → IsChangedOrNot Changes false o o
  unchanged None = tt
  unchanged (Some w) = refl

  eqb_suc : (p q : ℕ) → (suc p == suc q) ≡ (p == q)
  eqb_suc p q = go (p == q) refl
    where
      go : (b : Bool) → (p == q) ≡ b → (suc p == suc q) ≡ b
      go true e = eq-eqb (suc p) (suc q) (ap suc (eqb-true p q e))
      go false e = ne_eqb (suc p) (suc q) (λ same. (let c : (p == q) ≡ true = eq-eqb p q (omega (arith, same)) in absurd cc))

  -- the one at a place
  changed_at : (watches : List BusWatch) (place : ℕ) (w : BusWatch) → place < length watches → Changes (slice_index_or watches place w) w
      → (p : ℕ) → IsChangedOrNot Changes (p == place) (slice_get watches p) (slice_get (slice_set watches place w) p)
  changed_at [] place w within changes p = absurd (omega (arith, within))
  changed_at (x ∷ watches) zero w within changes zero = changes
  changed_at (x ∷ watches) zero w within changes (suc p) =
      subst (λ (b : Bool). IsChangedOrNot Changes b (slice_get watches p) (slice_get watches p)) (sym (ne_eqb (suc p) 0 (λ e. omega (arith, e)))) (unchanged (slice_get watches p))
  changed_at (x ∷ watches) (suc place) w within changes zero =
      subst (λ (b : Bool). IsChangedOrNot Changes b (Some x) (Some x)) (sym (ne_eqb 0 (suc place) (λ e. omega (arith, e)))) (unchanged (Some x))
  changed_at (x ∷ watches) (suc place) w within changes (suc p) =
      subst (λ (b : Bool). IsChangedOrNot Changes b (slice_get watches p) (slice_get (slice_set watches place w) p)) (sym (eqb_suc p place))
      (changed_at watches place w (omega (arith, within)) changes p)

  pub one_changed : (old : BusesValue) (place : ℕ) (w : BusWatch) → place < length old.watches → Changes (slice_index_or old.watches place w) w
      → AreChanged Changes (λ p. p == place) old (record old { watches = slice_set old.watches place w })
  one_changed old place w within changes = record { settings = refl; each = refl; watches = changed_at old.watches place w within changes }

  -- behind the last there is none
  past : (b : Bool) (o : Option BusWatch) → o ≡ None → IsChangedOrNot Changes b o o
  past b None e = tt
  past b (Some w) e = absurd cc

  none_changed_at : (watches : List BusWatch) (place : ℕ) → length watches ≤ place → (p : ℕ) → IsChangedOrNot Changes (p == place) (slice_get watches p) (slice_get watches p)
  none_changed_at watches place behind p = go (p == place) refl
    where
      go : (b : Bool) → (p == place) ≡ b → IsChangedOrNot Changes b (slice_get watches p) (slice_get watches p)
      go true e = past true (slice_get watches p) (slice_get_past watches p (grind (arith, behind, e)))
      go false e = unchanged (slice_get watches p)

  pub none_changed : (old : BusesValue) (place : ℕ) → length old.watches ≤ place → AreChanged Changes (λ p. p == place) old old
  none_changed old place behind = record { settings = refl; each = refl; watches = none_changed_at old.watches place behind }

  -- one after another
  changed_then : (b c : Bool) (o m n : Option BusWatch) → (b && c) ≡ false → IsChangedOrNot Changes b o m → IsChangedOrNot Changes c m n → IsChangedOrNot Changes (b || c) o n
  changed_then b c None None None apart first then = tt
  changed_then true false (Some o) (Some m) (Some n) apart first then = subst (λ (x : BusWatch). Changes o x) (sym then) first
  changed_then false true (Some o) (Some m) (Some n) apart first then = subst (λ (x : BusWatch). Changes x n) first then
  changed_then false false (Some o) (Some m) (Some n) apart first then = then ∙ first
  changed_then true true (Some o) (Some m) (Some n) apart first then = absurd cc
  changed_then b true None None (Some n) apart first then = absurd then
  changed_then b false None None (Some n) apart first then = absurd then
  changed_then true c None (Some m) n apart first then = absurd first
  changed_then false c None (Some m) n apart first then = absurd first
  changed_then true c (Some o) None n apart first then = absurd first
  changed_then false c (Some o) None n apart first then = absurd first
  changed_then b true (Some o) (Some m) None apart first then = absurd then
  changed_then b false (Some o) (Some m) None apart first then = absurd then

  next_is : (p place : ℕ) → (nat_lt p place || p == place) ≡ nat_lt p (place + 1)
  next_is p place = grind (arith, common_steps)

  apart : (p place : ℕ) → (nat_lt p place && p == place) ≡ false
  apart p place = grind (arith, common_steps)

  -- in a loop over the places: none so far
  pub none_so_far : (old : BusesValue) → AreChanged Changes (λ p. nat_lt p 0) old old
  none_so_far old = record { settings = refl; each = refl; watches = λ p. subst (λ (b : Bool). IsChangedOrNot Changes b (slice_get old.watches p) (slice_get old.watches p)) (sym (none p)) (unchanged (slice_get old.watches p)) }
    where
      none : (p : ℕ) → nat_lt p 0 ≡ false
      none p = grind (arith, common_steps)

  -- the next one too
  pub one_more : (old mid new : BusesValue) (place : ℕ) → AreChanged Changes (λ p. nat_lt p place) old mid → AreChanged Changes (λ p. p == place) mid new
      → AreChanged Changes (λ p. nat_lt p (place + 1)) old new
  one_more old mid new place first then = record {
    settings = then.settings ∙ first.settings;
    each = then.each ∙ first.each;
    watches = λ p. subst (λ (b : Bool). IsChangedOrNot Changes b (slice_get old.watches p) (slice_get new.watches p)) (next_is p place)
        (changed_then (nat_lt p place) (p == place) (slice_get old.watches p) (slice_get mid.watches p) (slice_get new.watches p) (apart p place) (first.watches p) (then.watches p));
  }

  -- all
  pub all_so_far : (old new : BusesValue) (n : ℕ) → n ≡ length old.watches → AreChanged Changes (λ p. nat_lt p n) old new → AreChanged Changes (λ p. true) old new
  all_so_far old new n is so_far = record { settings = so_far.settings; each = so_far.each; watches = λ p. go p (nat_lt p n) refl (so_far.watches p) }
    where
      at_end : (o m : Option BusWatch) → o ≡ None → IsChangedOrNot Changes false o m → IsChangedOrNot Changes true o m
      at_end None None e c = tt
      at_end None (Some w) e c = absurd c
      at_end (Some w) m e c = absurd cc

      go : (p : ℕ) (b : Bool) → nat_lt p n ≡ b → IsChangedOrNot Changes b (slice_get old.watches p) (slice_get new.watches p) → IsChangedOrNot Changes true (slice_get old.watches p) (slice_get new.watches p)
      go p true e c = c
      go p false e c = at_end (slice_get old.watches p) (slice_get new.watches p) (slice_get_past old.watches p (grind (arith, common_steps, is, e))) c

-- ---- a line that is heard

pub some_told : (may : ℕ → Bool) (next : Told) (told : ℕ → Bool) (old new : BusesValue) → ((p : ℕ) → told p ≡ true → may p ≡ true) → AreTold told next old new → MayBeTold may next old new
some_told may next told old new among are = record { told = told; among = among; are = are }

pub none_told : (may : ℕ → Bool) (next : Told) (old new : BusesValue) → new ≡ old → MayBeTold may next old new
none_told may next old new same =
    subst (λ (b : BusesValue). MayBeTold may next old b) (sym same)
    (some_told may next (λ p. false) old old (λ p e. absurd cc) (record { settings = refl; each = refl; watches = λ p. unchanged (IsTold next) (slice_get old.watches p) }))

pub none_told_on : {T E : Type 0} (r : Result T E) (may : ℕ → Bool) (next : Told) (old new : BusesValue) → OnErr r (new ≡ old) → OnErr r (MayBeTold may next old new)
none_told_on (Ok v) may next old new same = tt
none_told_on (Err e) may next old new same = none_told may next old new same

pub have_heard : (l : Line) (old begun new : BusesValue) → HasBegun (hearers_of old l) l old begun → AreTold (is_hearer (hearers_of old l)) (Read l) begun new → HaveHeard l old new
have_heard l old begun new begins told = record { begun = begun; begins = begins; told = told }

pub may_have_heard : (l : Line) (old begun new : BusesValue) → (begun ≡ old) ⊎ HasBegun (hearers_of old l) l old begun → MayBeTold (is_hearer (hearers_of old l)) (Read l) begun new → MayHaveHeard l old new
may_have_heard l old begun new begins told = record { begun = begun; begins = begins; told = told }

pub none_heard_on : {T E : Type 0} (r : Result T E) (l : Line) (old new : BusesValue) → new ≡ old → OnErr r (MayHaveHeard l old new)
none_heard_on (Ok v) l old new same = tt
none_heard_on (Err e) l old new same = may_have_heard l old old new (inl refl) (none_told (is_hearer (hearers_of old l)) (Read l) old new same)
