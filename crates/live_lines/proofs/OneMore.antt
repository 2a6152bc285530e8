-- A list of which the element at an index is changed as those before it were.
use Rattle.std.proofs.Common.{ℕ, ◌≡◌, ◌<◌, ◌≤◌, ◌+◌, ◌⊎◌, inl, inr, List, ◌++◌, length, take, get_or, set, subst, sym, ap, ◌∙◌, Option, Some, None, IfSome, arith}
use Rattle.std.proofs.Math.Nat.{eq-or-lt_of_le}
use Rattle.std.proofs.Math.Seq.{take-append_seam}
use Rattle.std.proofs.lemmas.List.{length-set, get_or_default, get_or-set_same, get_or-set_other}

-- so is each up to it
pub one_more_so : {A : Type 0} (R : A → A → Type 0) (xs ys : List A) (i : ℕ) (v : A) → i < length ys
    → ((k : ℕ) (d : A) → k < i → R (get_or xs k d) (get_or ys k d)) → ((k : ℕ) (d : A) → i ≤ k → get_or ys k d ≡ get_or xs k d)
    → (e : A) → R (get_or ys i e) v → (k : ℕ) (d : A) → k < i + 1 → R (get_or xs k d) (get_or (set ys i v) k d)
one_more_so R xs ys i v bound before rest e one k d below = go (eq-or-lt_of_le (omega (arith, below)))
  where
    go : (k ≡ i) ⊎ (k < i) → R (get_or xs k d) (get_or (set ys i v) k d)
    go (inl same) =
        subst (λ (n : ℕ). R (get_or xs n d) (get_or (set ys i v) n d)) (sym same)
        (subst (λ y. R (get_or xs i d) y) (sym (get_or-set_same ys i v d bound)) (subst (λ y. R y v) (get_or_default ys i e d bound ∙ rest i d (omega arith)) one))
    go (inr l) = subst (λ y. R (get_or xs k d) y) (sym (get_or-set_other ys i k v d (λ e. absurd (omega (arith, e, l))))) (before k d l)

-- and those behind it are as they were
pub rest_so : {A : Type 0} (xs ys : List A) (i : ℕ) (v : A) → ((k : ℕ) (d : A) → i ≤ k → get_or ys k d ≡ get_or xs k d) → (k : ℕ) (d : A) → i + 1 ≤ k
    → get_or (set ys i v) k d ≡ get_or xs k d
rest_so xs ys i v rest k d l = get_or-set_other ys i k v d (λ e. absurd (omega (arith, e, l))) ∙ rest k d (omega (arith, l))

-- a list that is written over the front of another one as long
pub put_back : {A : Type 0} (xs ys : List A) (n : ℕ) → n ≡ length xs → take n (xs ++ ys) ≡ xs
put_back xs ys n e = ap (λ k. take k (xs ++ ys)) e ∙ take-append_seam xs ys

-- what is so of the one that is put in a place is so of one of the list
pub sent_by_one : {F A : Type 0} (R : F → A → Type 0) (o : Option F) (xs : List A) (i : ℕ) (v : A) → i < length xs → IfSome o (λ f. R f v)
    → IfSome o (λ f. (k : ℕ) × (k < length (set xs i v)) × ((d : A) → R f (get_or (set xs i v) k d)))
sent_by_one R None xs i v bound is = is
sent_by_one R (Some f) xs i v bound is =
    (i, omega (arith, bound, length-set xs i v), λ d. subst (λ m. R f m) (sym (get_or-set_same xs i v d bound)) is)
