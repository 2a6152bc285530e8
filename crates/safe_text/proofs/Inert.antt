-- What is written for a text is inert.
use Rattle.std.proofs.Common.{◌≡◌, ℕ, zero, suc, ◌/◌, ◌%◌, ◌==◌, ◌||◌, ◌&&◌, not, if◌then◌else◌, nat_lt, Bool, true, false, List, [], ◌∷◌, ◌++◌, refl, ap, ◌∙◌}
use Rattle.std.specs.Prelude.{slice_index_or, codes}
use Rattle.safe_text.specs.Escape.{digit, two_digits, stands_for, mended, is_control, is_mark, is_begun, low_of, stands_for_last, stands_at, escaped, escaped_behind}
use Rattle.safe_text.specs.Inert.{ends_entity, is_active, is_inert}

-- a byte that is neither active nor an `&`
abbrev is_plain : ℕ → Bool
is_plain b = not (b == 38) && not (is_active b)

abbrev are_plain : List ℕ → Bool
are_plain [] = true
are_plain (b ∷ bs) = is_plain b && are_plain bs

both : (a b : Bool) → (a && b) ≡ true → (a ≡ true) × (b ≡ true)
both true b e = (refl, e)
both false b e = absurd cc

not_true : (t : Bool) → not t ≡ true → t ≡ false
not_true true e = absurd cc
not_true false e = refl

one_plain : (xs : List ℕ) (n d : ℕ) → are_plain xs ≡ true → is_plain d ≡ true → is_plain (slice_index_or xs n d) ≡ true
one_plain [] n d a p = p
one_plain (x ∷ xs) zero d a p = (both (is_plain x) (are_plain xs) a).0
one_plain (x ∷ xs) (suc n) d a p = one_plain xs n d (both (is_plain x) (are_plain xs) a).1 p

digit_plain : (n : ℕ) → is_plain (digit n) ≡ true
digit_plain n = one_plain (codes "0123456789ABCDEF") n 48 refl refl

-- a plain byte before others
before_plain : (b : ℕ) (rest : List ℕ) → is_plain b ≡ true → is_inert (b ∷ rest) ≡ is_inert rest
unfolding is_inert
before_plain b rest p =
    let parts = both (not (b == 38)) (not (is_active b)) p in
    rw (not_true (b == 38) parts.0, not_true (is_active b) parts.1) refl

all_before : (bs rest : List ℕ) → are_plain bs ≡ true → is_inert (bs ++ rest) ≡ is_inert rest
all_before [] rest p = refl
all_before (b ∷ bs) rest p =
    let parts = both (is_plain b) (are_plain bs) p in
    before_plain b (bs ++ rest) parts.0 ∙ all_before bs rest parts.1

digits_before : (b : ℕ) (rest : List ℕ) → is_inert (two_digits b ++ rest) ≡ is_inert rest
digits_before b rest = before_plain (digit (b / 16)) (digit (b % 16) ∷ rest) (digit_plain (b / 16)) ∙ before_plain (digit (b % 16)) rest (digit_plain (b % 16))

-- by what the byte is: one of five signs, what parts words, a control character, or none of these
by_tests : (b : ℕ) (rest : List ℕ) (less greater ampersand quote apostrophe blank control : Bool)
    → (b == 60) ≡ less → (b == 62) ≡ greater → (b == 38) ≡ ampersand → (b == 34) ≡ quote → (b == 39) ≡ apostrophe
    → ((b == 9) || ((b == 10) || (b == 13))) ≡ blank → (nat_lt b 32 || (b == 127)) ≡ control
    → is_inert (stands_for b ++ rest) ≡ is_inert rest
unfolding is_inert
by_tests b rest true _ _ _ _ _ _ l g a q p k c = rw l refl
by_tests b rest false true _ _ _ _ _ l g a q p k c = rw (l, g) refl
by_tests b rest false false true _ _ _ _ l g a q p k c = rw (l, g, a) refl
by_tests b rest false false false true _ _ _ l g a q p k c = rw (l, g, a, q) refl
by_tests b rest false false false false true _ _ l g a q p k c = rw (l, g, a, q, p) refl
by_tests b rest false false false false false true _ l g a q p k c = rw (l, g, a, q, p, k) refl
by_tests b rest false false false false false false true l g a q p k c =
    let same : stands_for b ++ rest ≡ codes "\\x" ++ (two_digits b ++ rest) = rw (l, g, a, q, p, k, c) refl in
    ap is_inert same ∙ all_before (codes "\\x") (two_digits b ++ rest) refl ∙ digits_before b rest
by_tests b rest false false false false false false false l g a q p k c =
    let same : stands_for b ++ rest ≡ b ∷ rest = rw (l, g, a, q, p, k, c) refl in
    let plain : (if b == 38 then ends_entity rest else not (is_active b)) ≡ true = rw (a, l, g, q, p, c) refl in
    ap is_inert same ∙ ap (λ t. t && is_inert rest) plain

byte_before : (b : ℕ) (rest : List ℕ) → is_inert (stands_for b ++ rest) ≡ is_inert rest
byte_before b rest = by_tests b rest _ _ _ _ _ _ _ refl refl refl refl refl refl refl

-- a character that acts unseen, or any other byte
last_by_tests : (before last b : ℕ) (rest : List ℕ) (control mark : Bool) → is_control last b ≡ control → is_mark before last b ≡ mark
    → is_inert (stands_for_last before last b ++ rest) ≡ is_inert rest
last_by_tests before last b rest true mark c m =
    let same : stands_for_last before last b ++ rest ≡ codes "\\x" ++ (two_digits b ++ rest) = rw c refl in
    ap is_inert same ∙ all_before (codes "\\x") (two_digits b ++ rest) refl ∙ digits_before b rest
last_by_tests before last b rest false true c m =
    let same : stands_for_last before last b ++ rest ≡ codes "\\u20" ++ (two_digits (low_of last b) ++ rest) = rw (c, m) refl in
    ap is_inert same ∙ all_before (codes "\\u20") (two_digits (low_of last b) ++ rest) refl ∙ digits_before (low_of last b) rest
last_by_tests before last b rest false false c m =
    let same : stands_for_last before last b ++ rest ≡ stands_for (mended before last b) ++ rest = rw (c, m) refl in
    ap is_inert same ∙ byte_before (mended before last b) rest

at_by_tests : (before last b next after : ℕ) (rest : List ℕ) (begun : Bool) → is_begun last b next after ≡ begun
    → is_inert (stands_at before last b next after ++ rest) ≡ is_inert rest
at_by_tests before last b next after rest true e = rw e refl
at_by_tests before last b next after rest false e =
    let same : stands_at before last b next after ++ rest ≡ stands_for_last before last b ++ rest = rw e refl in
    ap is_inert same ∙ last_by_tests before last b rest _ _ refl refl

text_is_inert : (before last : ℕ) (text : List ℕ) → is_inert (escaped_behind before last text) ≡ true
unfolding is_inert escaped_behind
text_is_inert before last [] = refl
text_is_inert before last (b ∷ bs) =
    at_by_tests before last b (slice_index_or bs 0 0) (slice_index_or bs 1 0) (escaped_behind last b bs) _ refl ∙ text_is_inert last b bs

pub escaped_is_inert : (text : List ℕ) → is_inert (escaped text) ≡ true
escaped_is_inert text = text_is_inert 0 0 text
