use Rattle.std.proofs.Common.{ℕ, ◌≡◌, ◌≤◌, ◌+◌, ◌*◌, List, [], ◌∷◌, length, sum, get_or, suc, arith, Fits, w8}
use Rattle.std.proofs.lemmas.List.Sums.{sum_by-cons}

cons : (b : ℕ) (bytes : List ℕ) → sum (b ∷ bytes) ≡ b + sum bytes
cons b bytes = sum_by-cons (λ x. x) b bytes

below : (bytes : List ℕ) → ((k : ℕ) → Fits w8 (get_or bytes k 0)) → sum bytes ≤ 255 * length bytes
below [] h = omega arith
below (b ∷ bytes) h =
    let first : Fits w8 b = h 0 in
    let rest : sum bytes ≤ 255 * length bytes = below bytes (λ k. h (suc k)) in
    omega (arith, cons b bytes)

-- eight bytes at most
pub sum_most : (bytes : List ℕ) → ((k : ℕ) → Fits w8 (get_or bytes k 0)) → length bytes ≤ 8 → sum bytes ≤ 2040
sum_most bytes h l = omega (arith, below bytes h)
