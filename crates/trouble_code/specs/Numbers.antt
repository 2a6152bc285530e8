-- A code as one number, whose four bytes, the lowest first, are those of the code; and that codes are equal as their three numbers are.
use Rattle.std.proofs.Common.{◌≡◌, ℕ, ◌+◌, ◌*◌, ◌/◌, ◌%◌, ◌^◌, arith}
use Rattle.std.specs.Cmp.{IsEquivalence, and_equiv, on_equiv, nat_eq_equiv}
use Rattle.trouble_code.specs.Code.{Code, code, same_code}

-- the code of a number: 16 bits of the SPN, 5 of the FMI, 3 more of the SPN, then the count
abbrev pub code_of_number : ℕ → Code
code_of_number n = code (n % 2 ^ 16 + 2 ^ 16 * (n / 2 ^ 21 % 8)) (n / 2 ^ 16 % 32) (n / 2 ^ 24)

-- the number of a code
abbrev pub number_of_code : Code → ℕ
number_of_code c = c.spn % 2 ^ 16 + 2 ^ 16 * c.fmi + 2 ^ 21 * (c.spn / 2 ^ 16) + 2 ^ 24 * c.count

-- each number is that of its code
pub own_number : (n : ℕ) → number_of_code (code_of_number n) ≡ n
own_number n = omega arith

-- the laws of `==`
pub same_code_equiv : IsEquivalence same_code
same_code_equiv =
    and_equiv (and_equiv (on_equiv (λ (c : Code). c.spn) nat_eq_equiv) (on_equiv (λ (c : Code). c.fmi) nat_eq_equiv))
    (on_equiv (λ (c : Code). c.count) nat_eq_equiv)
