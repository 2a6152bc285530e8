use Rattle.std.proofs.Common.{◌≡◌, ℕ, List, [], ◌∷◌, ◌<◌, ◌≤◌, ◌+◌, ◌-◌, ◌*◌, sym, drop, length, slice_index, arith, refl, add-one, drop-cons}
use Rattle.std.specs.Char.{digit_value, IsAsciiDigit, IsNotAsciiDigit}
use Rattle.std.specs.Str.Parse.{AllDigits, digits_value_after}
use Rattle.std.proofs.lemmas.Bool.Decides.{nat_tests}
use Rattle.std.proofs.lemmas.List.{drop_all}
use Rattle.script_line.specs.Numbers.{IsNumberBelow, decimal_value}

-- a word was read as a number as far as i
pub record IsReadTo (word : List ℕ) (i number : ℕ) : Type 0 where
  -- so far it has digits alone
  pub digits : AllDigits 10 (drop i word) → AllDigits 10 word
  pub rest : AllDigits 10 word → AllDigits 10 (drop i word)
  -- what is left goes on behind the number
  pub value : digits_value_after 10 number (drop i word) ≡ decimal_value word

-- at the start nothing is read
pub none_read : (word : List ℕ) → IsReadTo word 0 0
none_read word = record { digits = λ h. h; rest = λ h. h; value = refl }

-- what is left begins with the next byte
at_byte : (word : List ℕ) (i : ℕ) → i < length word → drop i word ≡ slice_index word i ∷ drop (i + 1) word
at_byte word i within = rw (add-one i) (drop-cons word i 0 within)

-- one more digit is read
pub next_read : (word : List ℕ) (i number : ℕ) → i < length word → digit_value (slice_index word i) < 10
    → IsReadTo word i number → IsReadTo word (i + 1) (number * 10 + digit_value (slice_index word i))
next_read word i number within digit h =
    let cut = at_byte word i within in
    record {
      digits = λ (left : AllDigits 10 (drop (i + 1) word)). h.digits (rw cut (digit, left));
      rest = λ (all : AllDigits 10 word). (rw cut at (h.rest all)).1;
      value = rw cut at h.value;
    }

-- the value that digits write behind others is no less than the value of those
no_less : (n : ℕ) (digits : List ℕ) → n ≤ digits_value_after 10 n digits
no_less n [] = omega arith
no_less n (c ∷ cs) = omega (arith, no_less (n * 10 + digit_value c) cs)

digit_is : (c : ℕ) → IsAsciiDigit c → (digit_value c < 10) × (digit_value c ≡ c - 48)
digit_is c h = grind (arith, nat_tests)

no_digit_is : (c : ℕ) → IsNotAsciiDigit c → 10 ≤ digit_value c
no_digit_is c h = grind (arith, nat_tests)

-- a digit goes on with the number
pub next_digit : (word : List ℕ) (i number : ℕ) → i < length word → IsAsciiDigit (slice_index word i)
    → IsReadTo word i number → IsReadTo word (i + 1) (number * 10 + (slice_index word i - 48))
next_digit word i number within digit h =
    let d = digit_is (slice_index word i) digit in
    rw (sym d.1) (next_read word i number within d.0 h)

-- a word with another byte is no number
pub no_digit : (limit : ℕ) (word : List ℕ) (i number : ℕ) → i < length word → IsNotAsciiDigit (slice_index word i)
    → IsReadTo word i number → IsNumberBelow limit word → ⊥
no_digit limit word i number within other h n =
    let next : digit_value (slice_index word i) < 10 = (rw (at_byte word i within) at (h.rest n.0.1)).0 in
    let none = no_digit_is (slice_index word i) other in
    omega arith

-- a number that is too large with a digit stays so
pub too_large : (limit : ℕ) (word : List ℕ) (i number : ℕ) → i < length word → IsAsciiDigit (slice_index word i)
    → limit ≤ number * 10 + (slice_index word i - 48) → IsReadTo word i number → IsNumberBelow limit word → ⊥
too_large limit word i number within digit large h n =
    let next = next_digit word i number within digit h in
    omega (arith, no_less (number * 10 + (slice_index word i - 48)) (drop (i + 1) word), next.value, n.1)

-- at the end of the word its number is read
pub all_read : (limit : ℕ) (word : List ℕ) (i number : ℕ) → 0 < length word → length word ≤ i → number < limit
    → IsReadTo word i number → IsNumberBelow limit word × (number ≡ decimal_value word)
all_read limit word i number some end small h =
    let none = drop_all i word end in
    let value : number ≡ decimal_value word = rw none at h.value in
    let all : AllDigits 10 word = h.digits (rw none tt) in
    (((some, all), omega arith), value)
