-- The words of a line, and its first word.
use Rattle.std.proofs.Common.{◌≡◌, ◌≢◌, ℕ, suc, ⊎_elim, inl, inr, List, [], ◌∷◌, ◌++◌, Bool, true, false, ◌<◌, ◌≤◌, ◌+◌, ◌-◌, length, get_or, drop, take, slice_index, one-add, add-zero, min, arith, refl, ap, sym, ◌∙◌}
use Rattle.std.specs.Prelude.{All, filter, nat_lt}
use Rattle.std.specs.List.{prefix_len, position_or_len, before_first, after_first, slice_split}
use Rattle.std.proofs.lemmas.Bool.{cases_lt}
use Rattle.std.proofs.lemmas.Bool.Decides.{nat_tests}
use Rattle.std.proofs.lemmas.List.{take_all, drop_all, drop_more, get_or-drop, length-drop, length-take, length-take-le}
use Rattle.std.proofs.lemmas.List.Elements.{All-from_get_or}
use Rattle.std.proofs.lemmas.List.Splits.{slice_split-cons_yes, slice_split_none, slice_split_first}
use Rattle.std.proofs.lemmas.List.Sums.{fails_before_first, passes_at_first, prefix_len_stops}
use Rattle.script_line.specs.Bytes.{EndsWord}
use Rattle.script_line.specs.Line.{behind_word, first_word, from_word, is_space, script_words}

space_is : (c : ℕ) → is_space c ≡ true → c ≡ 32
space_is c h = grind (arith, nat_tests)

-- a space before a line has no word
pub words-space : (c : ℕ) (cs : List ℕ) → is_space c ≡ true → script_words (c ∷ cs) ≡ script_words cs
unfolding script_words
words-space c cs h = ap (filter (λ part. nat_lt 0 (length part))) (slice_split-cons_yes is_space c cs h)

from_more : (c : ℕ) (cs : List ℕ) → is_space c ≡ true → from_word (c ∷ cs) ≡ from_word cs
from_more c cs h = rw (h, one-add (prefix_len is_space cs)) refl

pub from_here : (c : ℕ) (cs : List ℕ) → is_space c ≡ false → from_word (c ∷ cs) ≡ c ∷ cs
from_here c cs h = rw h refl

-- nor have all the spaces with which it begins
words_from : (line : List ℕ) → script_words line ≡ script_words (from_word line)
words_from [] = refl
words_from (c ∷ cs) = by_first (is_space c) refl (words_from cs)
  where
    by_first : (b : Bool) → is_space c ≡ b → script_words cs ≡ script_words (from_word cs) → script_words (c ∷ cs) ≡ script_words (from_word (c ∷ cs))
    by_first true h again = words-space c cs h ∙ again ∙ ap script_words (sym (from_more c cs h))
    by_first false h again = ap script_words (sym (from_here c cs h))

kept : (word : List ℕ) (parts : List (List ℕ)) → 0 < length word
    → filter (λ part. nat_lt 0 (length part)) (word ∷ parts) ≡ word ∷ filter (λ part. nat_lt 0 (length part)) parts
kept [] parts some = absurd (omega (arith, some))
kept (c ∷ cs) parts some =
    let long : nat_lt 0 (length (c ∷ cs)) ≡ true = grind (arith, nat_tests) in
    rw long refl

pub no_words : script_words [] ≡ []
unfolding script_words
no_words = refl

-- a word before a space
word_before : (t : List ℕ) → position_or_len is_space t < length t → 0 < length (before_first is_space t)
    → script_words t ≡ before_first is_space t ∷ script_words (after_first is_space t)
unfolding script_words
word_before t within some =
    ap (filter (λ part. nat_lt 0 (length part))) (slice_split_first is_space t 0 within)
    ∙ kept (before_first is_space t) (slice_split is_space (after_first is_space t)) some

-- a word at the end
word_at_end : (t : List ℕ) → length t ≤ position_or_len is_space t → 0 < length t → script_words t ≡ t ∷ []
unfolding script_words
word_at_end t end some =
    let dark : All (λ c. is_space c ≡ false) t = All-from_get_or (λ c. is_space c ≡ false) t 0 (λ i l. fails_before_first is_space t i 0 (omega arith)) in
    ap (filter (λ part. nat_lt 0 (length part))) (slice_split_none is_space t dark) ∙ kept t [] some

first_of : (t : List ℕ) → 0 < length (before_first is_space t)
    → script_words t ≡ before_first is_space t ∷ script_words (drop (length (before_first is_space t)) t)
first_of t some = ⊎_elim within past (cases_lt (position_or_len is_space t) (length t))
  where
    within : position_or_len is_space t < length t → script_words t ≡ before_first is_space t ∷ script_words (drop (length (before_first is_space t)) t)
    within h =
        let k = position_or_len is_space t in
        let cut : length (before_first is_space t) ≡ k = length-take-le k t (omega arith) in
        let next : drop k t ≡ get_or t k 0 ∷ drop (k + 1) t = drop_more t k 0 h in
        let behind : script_words (drop k t) ≡ script_words (drop (k + 1) t) =
        ap script_words next ∙ words-space (get_or t k 0) (drop (k + 1) t) (passes_at_first is_space t 0 h) in
        word_before t h some ∙ ap (λ ws. before_first is_space t ∷ ws) (sym (ap (λ n. script_words (drop n t)) cut ∙ behind))

    past : length t ≤ position_or_len is_space t → script_words t ≡ before_first is_space t ∷ script_words (drop (length (before_first is_space t)) t)
    past h =
        let all : before_first is_space t ≡ t = take_all (position_or_len is_space t) t h in
        let long : 0 < length t = rw all at some in
        let none : drop (length t) t ≡ [] = drop_all (length t) t (omega arith) in
        rw (all, none, no_words) (word_at_end t h long)

-- the words of a line that has a word: the first one, and those behind it
pub words_more : (line : List ℕ) → 0 < length (first_word line) → script_words line ≡ first_word line ∷ script_words (behind_word line)
words_more line some = words_from line ∙ first_of (from_word line) some

clash : (b : Bool) → b ≡ true → b ≡ false → ⊥
clash b t f = cc

-- a line without a first word has none
pub words_none : (line : List ℕ) → length (first_word line) ≡ 0 → script_words line ≡ []
words_none line none = ⊎_elim inside at_end (cases_lt (prefix_len is_space line) (length line))
  where
    inside : prefix_len is_space line < length line → script_words line ≡ []
    inside h =
        let t = from_word line in
        let k = position_or_len is_space t in
        let long : 0 < length t = omega (arith, length-drop (prefix_len is_space line) line) in
        let cut : length (take k t) ≡ min k (length t) = length-take k t in
        let start : k ≡ 0 = omega (arith, cut) in
        let space : is_space (get_or t 0 0) ≡ true = rw start at (passes_at_first is_space t 0 (omega (arith, start))) in
        let dark : is_space (get_or t 0 0) ≡ false =
        rw (get_or-drop (prefix_len is_space line) line 0 0, add-zero) (prefix_len_stops is_space line 0 h) in
        absurd (clash (is_space (get_or t 0 0)) space dark)

    at_end : length line ≤ prefix_len is_space line → script_words line ≡ []
    at_end h = words_from line ∙ ap script_words (drop_all (prefix_len is_space line) line h) ∙ no_words

-- nor has what stands behind it
pub words_left : (line : List ℕ) → length (first_word line) ≡ 0 → script_words (behind_word line) ≡ []
words_left line none = rw none (sym (words_from line) ∙ words_none line none)

-- what stands behind a word begins with a space, if there is any
pub behind_ends : (line : List ℕ) → EndsWord (behind_word line)
behind_ends line = ⊎_elim within past (cases_lt (position_or_len is_space (from_word line)) (length (from_word line)))
  where
    within : position_or_len is_space (from_word line) < length (from_word line) → EndsWord (behind_word line)
    within h =
        let t = from_word line in
        let k = position_or_len is_space t in
        let cut : length (before_first is_space t) ≡ k = length-take-le k t (omega arith) in
        let space : is_space (get_or t k 0) ≡ true = passes_at_first is_space t 0 h in
        let at : get_or (drop k t) 0 0 ≡ get_or t k 0 = get_or-drop k t 0 0 ∙ ap (λ n. get_or t n 0) (add-zero k) in
        rw cut (inr (at ∙ space_is (get_or t k 0) space))

    past : length (from_word line) ≤ position_or_len is_space (from_word line) → EndsWord (behind_word line)
    past h =
        let t = from_word line in
        let all : before_first is_space t ≡ t = take_all (position_or_len is_space t) t h in
        inl (ap (λ w. drop (length w) t) all ∙ drop_all (length t) t (omega arith))
