-- The text of a number, two digits at a time.
use Rattle.std.proofs.Common.{◌≡◌, ℕ, ◌+◌, ◌/◌, ◌%◌, ◌^◌, ◌<◌, ◌≤◌, List, [], ◌∷◌, ◌++◌, length, ap, sym, ◌∙◌, arith, append_assoc, length-append}
use Rattle.std.proofs.lemmas.Fmt.{decimal_digit, decimal_step, length-decimal-le}
use Rattle.std.specs.Fmt.{decimal}

pub at_most_twenty : (n : ℕ) → n < 2 ^ 64 → length (decimal n) ≤ 20
at_most_twenty n h = length-decimal-le 20 n (omega arith) (omega arith) h

abbrev pub pair : ℕ → List ℕ
pair p = (48 + p / 10) ∷ (48 + p % 10) ∷ []

pub one_digit : (n : ℕ) → n < 10 → (decimal n ≡ (48 + n) ∷ []) × (length (decimal n) ≡ 1)
one_digit n h = (decimal_digit n h, ap length (decimal_digit n h))

two : (n : ℕ) → 10 ≤ n → n < 100 → decimal n ≡ pair n
two n lo hi = rw (decimal_step n lo (omega arith), decimal_digit (n / 10) (omega arith))

pub two_digits : (n : ℕ) → 10 ≤ n → n < 100 → (decimal n ≡ pair n) × (length (decimal n) ≡ 2)
two_digits n lo hi = (two n lo hi, ap length (two n lo hi))

more : (n : ℕ) → 100 ≤ n → n < 2 ^ 64 → decimal n ≡ decimal (n / 100) ++ pair (n % 100)
more n lo hi =
    let a : n / 10 / 10 ≡ n / 100 = omega arith in
    let b : n / 10 % 10 ≡ n % 100 / 10 = omega arith in
    let c : n % 10 ≡ n % 100 % 10 = omega arith in
    rw (decimal_step n (omega arith) hi, decimal_step (n / 10) (omega arith) (omega arith), append_assoc, a, b, ← c)

pub two_less : (n : ℕ) → 100 ≤ n → n < 2 ^ 64 → length (decimal n) ≡ length (decimal (n / 100)) + 2
two_less n lo hi = ap length (more n lo hi) ∙ length-append _ _

-- the digits but two, and then these two
pub two_digits_more : (t u v : List ℕ) (n : ℕ) → 100 ≤ n → n < 2 ^ 64 → u ≡ t ++ decimal (n / 100) → v ≡ u ++ (48 + n % 100 / 10) ∷ (48 + n % 100 % 10) ∷ []
    → v ≡ t ++ decimal n
two_digits_more t u v n lo hi h k = k ∙ ap (λ l. l ++ pair (n % 100)) h ∙ append_assoc t _ _ ∙ ap (λ l. t ++ l) (sym (more n lo hi))
