-- One value more of a signal.
use Rattle.std.proofs.Common.{◌≡◌, ◌+◌, ◌-◌, ◌^◌, min, List, [], ◌∷◌, sym, subst, ap, arith, inl, inr}
use Rattle.std.specs.Prelude.{◌≤ℤ◌, All, Contains, ◌⊎◌}
use Rattle.std.proofs.lemmas.Int.{ints}
use Rattle.std.proofs.lemmas.List.Elements.{All-cons, All-nil, All-weaker, Contains-append_left, Contains-append_right, Contains-push}
use Rattle.picture.specs.ValuesTold.{RangesOver}
use Rattle.picture.specs.declared.value_range.ToldValue.{ToldValue}
use Rattle.picture.specs.declared.value_range.ValueRange.{ValueRange}

newest_among : (v : ToldValue) (heard : List ToldValue) → Contains (v ∷ heard) v
newest_among v heard = Contains-append_left (v ∷ []) heard v (Contains-push [] v)

still_among : (v x : ToldValue) (heard : List ToldValue) → Contains heard x → Contains (v ∷ heard) x
still_among v x heard c = Contains-append_right (v ∷ []) heard x c

one_among : (v before r : ToldValue) (heard : List ToldValue) → Contains heard before → (r ≡ before) ⊎ (r ≡ v) → Contains (v ∷ heard) r
one_among v before r heard c (inl e) = subst (λ x. Contains (v ∷ heard) x) (sym e) (still_among v before heard c)
one_among v before r heard c (inr e) = subst (λ x. Contains (v ∷ heard) x) (sym e) (newest_among v heard)

none_less : (v before r : ToldValue) (heard : List ToldValue) → r.units ≤ℤ before.units → r.units ≤ℤ v.units → All (λ w. before.units ≤ℤ w.units) heard
    → All (λ w. r.units ≤ℤ w.units) (v ∷ heard)
none_less v before r heard b o h =
    All-cons (λ w. r.units ≤ℤ w.units) v heard o (All-weaker (λ w. before.units ≤ℤ w.units) (λ w. r.units ≤ℤ w.units) (λ w l. omega (arith, ints, b, l)) heard h)

none_greater : (v before r : ToldValue) (heard : List ToldValue) → before.units ≤ℤ r.units → v.units ≤ℤ r.units → All (λ w. w.units ≤ℤ before.units) heard
    → All (λ w. w.units ≤ℤ r.units) (v ∷ heard)
none_greater v before r heard b o h =
    All-cons (λ w. w.units ≤ℤ r.units) v heard o (All-weaker (λ w. w.units ≤ℤ before.units) (λ w. w.units ≤ℤ r.units) (λ w l. omega (arith, ints, b, l)) heard h)

pub one_value : (v : ToldValue) (r : ValueRange) → r.times ≡ 1 → r.newest ≡ v → r.least ≡ v → r.greatest ≡ v → RangesOver (v ∷ []) r
one_value v r t n l g = record {
  newest = ([], ap (λ x. x ∷ []) (sym n));
  least = subst (λ x. Contains (v ∷ []) x) (sym l) (newest_among v []);
  none_less = All-cons (λ w. r.least.units ≤ℤ w.units) v [] (subst (λ x. x.units ≤ℤ v.units) (sym l) (omega (arith, ints))) (All-nil (λ w. r.least.units ≤ℤ w.units));
  greatest = subst (λ x. Contains (v ∷ []) x) (sym g) (newest_among v []);
  none_greater = All-cons (λ w. w.units ≤ℤ r.greatest.units) v [] (subst (λ x. v.units ≤ℤ x.units) (sym g) (omega (arith, ints))) (All-nil (λ w. w.units ≤ℤ r.greatest.units));
  counted = t;
}

pub one_value_more : (heard : List ToldValue) (old new : ValueRange) (v : ToldValue) → new.times ≡ min (old.times + 1) (2 ^ 64 - 1) → new.newest ≡ v
    → (new.least ≡ old.least) ⊎ (new.least ≡ v) → new.least.units ≤ℤ old.least.units → new.least.units ≤ℤ v.units
    → (new.greatest ≡ old.greatest) ⊎ (new.greatest ≡ v) → old.greatest.units ≤ℤ new.greatest.units → v.units ≤ℤ new.greatest.units
    → RangesOver heard old → RangesOver (v ∷ heard) new
one_value_more heard old new v t n l lo lv g go gv h = record {
  newest = (heard, ap (λ x. x ∷ heard) (sym n));
  least = one_among v old.least new.least heard h.least l;
  none_less = none_less v old.least new.least heard lo lv h.none_less;
  greatest = one_among v old.greatest new.greatest heard h.greatest g;
  none_greater = none_greater v old.greatest new.greatest heard go gv h.none_greater;
  counted = omega (arith, t, h.counted);
}
