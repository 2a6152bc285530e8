-- What is taken from the end of a text.
use Rattle.std.proofs.Common.{◌≡◌, ◌≢◌, ◌==◌, ℕ, false, List, [], ◌∷◌, length, reverse, arith, refl, ◌∙◌, ap}
use Rattle.std.specs.List.{IsLastAndRest}
use Rattle.std.proofs.lemmas.Bool.Decides.{nat_tests}
use Rattle.std.proofs.lemmas.List.{reverse-append}
use Rattle.dm_words.specs.Identification.{behind_unused}

other_byte : (b byte : ℕ) → b ≢ byte → (b == byte) ≡ false
other_byte b byte h = grind (arith, nat_tests)

-- the last byte comes first in turned order
turned : (bytes front : List ℕ) (last : ℕ) → IsLastAndRest bytes last front → reverse bytes ≡ last ∷ reverse front
turned bytes front last h = ap reverse h.0 ∙ reverse-append front (last ∷ [])

-- a byte that is not used
pub one_unused : (bytes front : List ℕ) (last : ℕ) → IsLastAndRest bytes last front → last ≡ 255 → behind_unused (reverse front) ≡ behind_unused (reverse bytes)
unfolding behind_unused
one_unused bytes front last h e = rw (turned bytes front last h, e) refl

-- one that is used
pub none_unused : (bytes front : List ℕ) (last : ℕ) → IsLastAndRest bytes last front → last ≢ 255 → reverse bytes ≡ behind_unused (reverse bytes)
unfolding behind_unused
none_unused bytes front last h ne = rw (turned bytes front last h, other_byte last 255 ne) refl

-- no byte
pub all_unused : (bytes : List ℕ) → length bytes ≡ 0 → reverse bytes ≡ behind_unused (reverse bytes)
unfolding behind_unused
all_unused [] e = refl
all_unused (b ∷ bytes) e = absurd (omega (arith, e))
