-- The words of a text, one by one.
use Rattle.std.proofs.Common.{◌≡◌, ◌&&◌, nat_eq, ℕ, suc, ◌<◌, ◌≤◌, true, false, Bool, List, [], ◌∷◌, ◌++◌, length, get_or, drop, Option, Some, None, Bor, MatchOption, append-nil, arith, refl, ap, sym, ◌∙◌, ⊎_elim}
use Rattle.std.specs.Prelude.{All}
use Rattle.std.specs.Char.{is_ascii_whitespace}
use Rattle.std.specs.List.{AllPass, filter, slice_split, onto_first}
use Rattle.std.specs.Str.{NoCharPasses, bytes_eq}
use Rattle.std.specs.Str.Iter.{CutsAsciiWord}
use Rattle.std.proofs.lemmas.Bool.{cases_lt}
use Rattle.std.proofs.lemmas.Bool.Decides.{nat_tests}
use Rattle.std.proofs.lemmas.List.Elements.{All-head, All-tail, All-from_get_or}
use Rattle.std.proofs.lemmas.List.Splits.{slice_split-cons_yes, slice_split-cons_no, slice_split_none, slice_split_at}
use Rattle.std.proofs.lemmas.Str.{NoCharPasses-byte}
use Rattle.candump_line.specs.Words.{front_word, is_word, words_of}

-- no blank
abbrev pub IsDark : ℕ → Type 0
IsDark c = is_ascii_whitespace c ≡ false

-- a blank before a text has no word
words-blank : (b : ℕ) (xs : List ℕ) → is_ascii_whitespace b ≡ true → words_of (b ∷ xs) ≡ words_of xs
unfolding words_of
words-blank b xs h = ap (filter is_word) (slice_split-cons_yes is_ascii_whitespace b xs h)

pub words-gap : (gap xs : List ℕ) → AllPass is_ascii_whitespace gap → words_of (gap ++ xs) ≡ words_of xs
words-gap [] xs h = refl
words-gap (b ∷ gap) xs h =
    words-blank b (gap ++ xs) (All-head (λ c. is_ascii_whitespace c ≡ true) b gap h) ∙ words-gap gap xs (All-tail (λ c. is_ascii_whitespace c ≡ true) b gap h)

pub words-nil : words_of [] ≡ []
unfolding words_of
words-nil = refl

pub words-blanks : (gap : List ℕ) → AllPass is_ascii_whitespace gap → words_of gap ≡ []
words-blanks [] h = words-nil
words-blanks (b ∷ gap) h =
    words-blank b gap (All-head (λ c. is_ascii_whitespace c ≡ true) b gap h) ∙ words-blanks gap (All-tail (λ c. is_ascii_whitespace c ≡ true) b gap h)

kept : (word : List ℕ) (parts : List (List ℕ)) → 0 < length word → filter is_word (word ∷ parts) ≡ word ∷ filter is_word parts
kept [] parts some = absurd (omega (arith, some))
kept (c ∷ cs) parts some = refl

-- a word alone
words-one : (word : List ℕ) → 0 < length word → All IsDark word → words_of word ≡ word ∷ []
unfolding words_of
words-one word some dark = ap (filter is_word) (slice_split_none is_ascii_whitespace word dark) ∙ kept word [] some

-- a word before a blank
pub words-before : (word : List ℕ) (b : ℕ) (rest : List ℕ) → 0 < length word → All IsDark word → is_ascii_whitespace b ≡ true → words_of (word ++ b ∷ rest) ≡ word ∷ words_of rest
unfolding words_of
words-before word b rest some dark blank =
    ap (filter is_word) (slice_split_at is_ascii_whitespace word b rest dark blank) ∙ kept word (slice_split is_ascii_whitespace rest) some

-- a word before what parts it from the rest
pub words-cut : (word sep rest : List ℕ) → 0 < length word → All IsDark word → AllPass is_ascii_whitespace sep → length sep ≤ 1 → (length sep ≡ 0 → length rest ≡ 0)
    → words_of (word ++ (sep ++ rest)) ≡ word ∷ words_of rest
words-cut word [] [] some dark blank one end = ap words_of (append-nil word) ∙ words-one word some dark ∙ ap (λ ws. word ∷ ws) (sym words-nil)
words-cut word [] (c ∷ cs) some dark blank one end = let none = end refl in absurd (omega (arith, none))
words-cut word (b ∷ []) rest some dark blank one end = words-before word b rest some dark (All-head (λ c. is_ascii_whitespace c ≡ true) b [] blank)
words-cut word (b ∷ c ∷ cs) rest some dark blank one end = absurd (omega (arith, one))

high_is_dark : (c : ℕ) → 128 ≤ c → IsDark c
high_is_dark c h = grind (arith, nat_tests)

pub dark_of : (word : List ℕ) → NoCharPasses is_ascii_whitespace word → All IsDark word
dark_of word h = All-from_get_or IsDark word 0 (λ i l. ⊎_elim
    (λ (low : get_or word i 0 < 128). NoCharPasses-byte is_ascii_whitespace word i h l low)
    (λ (high : 128 ≤ get_or word i 0). high_is_dark (get_or word i 0) high)
    (cases_lt (get_or word i 0) 128))

empty_of : (text : List ℕ) → length text ≡ 0 → text ≡ []
empty_of [] h = refl
empty_of (c ∷ cs) h = absurd (omega (arith, h))

-- what `next` of `split_ascii_whitespace` gives
pub next_word_of : (text : List ℕ) (r : Option (Bor (List ℕ))) (rest : List ℕ) → CutsAsciiWord text r rest (λ gap x sep. gap ++ (x ++ (sep ++ rest)))
    → MatchOption r ((words_of text ≡ []) × (words_of rest ≡ [])) (λ word. words_of text ≡ word.now ∷ words_of rest)
next_word_of text None rest h = (words-blanks text h.0, ap words_of (empty_of rest h.1) ∙ words-nil)
next_word_of text (Some word) rest h =
    let parts = h.3 in
    let separator = parts.4 in
    ap words_of parts.2 ∙ words-gap parts.0 (word.now ++ (parts.1 ++ rest)) parts.3
    ∙ words-cut word.now parts.1 rest h.0 (dark_of word.now h.1) separator.0 separator.1 separator.2

-- the first word of a text that begins with no blank
pub first_of_word : (text word : List ℕ) (words : List (List ℕ)) → words_of text ≡ word ∷ words → IsDark (get_or text 0 0) → get_or word 0 0 ≡ get_or text 0 0
unfolding words_of
first_of_word [] word words e dark = cc
first_of_word (c ∷ cs) word words e dark = first_kept c (slice_split is_ascii_whitespace cs) word words (sym (ap (filter is_word) (slice_split-cons_no is_ascii_whitespace c cs dark)) ∙ e)
  where
    same_head : (a b : List ℕ) (more rest : List (List ℕ)) → a ∷ more ≡ b ∷ rest → a ≡ b
    same_head a b more rest e = cc

    first_kept : (c : ℕ) (parts : List (List ℕ)) (word : List ℕ) (words : List (List ℕ)) → filter is_word (onto_first c parts) ≡ word ∷ words → get_or word 0 0 ≡ c
    first_kept c [] word words e = ap (λ t. get_or t 0 0) (sym (same_head (c ∷ []) word [] words e))
    first_kept c (part ∷ parts) word words e = ap (λ t. get_or t 0 0) (sym (same_head (c ∷ part) word (filter is_word parts) words e))

-- the next word, or none
pub first_of : (left rest : List (List ℕ)) (r : Option (Bor (List ℕ))) → MatchOption r ((left ≡ []) × (rest ≡ [])) (λ word. left ≡ word.now ∷ rest)
    → MatchOption r (front_word left ≡ []) (λ word. front_word left ≡ word.now) × (rest ≡ drop 1 left)
first_of left rest None h = (ap front_word h.0, h.1 ∙ sym (ap (drop 1) h.0))
first_of left rest (Some word) h = (ap front_word h, sym (ap (drop 1) h))

-- texts that are the same have one length
pub same_length : (r : Bool) (xs ys : List ℕ) → r ≡ bytes_eq xs ys → r ≡ true → length xs ≡ length ys
same_length r [] [] e same = refl
same_length r [] (y ∷ ys) e same = absurd cc
same_length r (x ∷ xs) [] e same = absurd cc
same_length r (x ∷ xs) (y ∷ ys) e same = ap suc (same_length true xs ys (sym (and_right (nat_eq x y) (bytes_eq xs ys) (sym e ∙ same))) refl)
  where
    and_right : (a b : Bool) → (a && b) ≡ true → b ≡ true
    and_right true b e = e
    and_right false b e = absurd cc

pub cons_same : {X : Type 0} (x y : X) (xs ys : List X) → x ∷ xs ≡ y ∷ ys → (x ≡ y) × (xs ≡ ys)
cons_same x y xs ys e = (cc, cc)

pub not_nil : {X : Type 0} (words rest : List X) (word : X) → words ≡ word ∷ rest → words ≡ [] → ⊥
not_nil words rest word e none = cc
