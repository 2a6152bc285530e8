-- The words of a text, apart by blanks.
use Rattle.std.specs.Prelude.{ℕ, Bool, true, false, List, [], ◌∷◌}
use Rattle.std.specs.Char.{is_ascii_whitespace}
use Rattle.std.specs.List.{filter, slice_split}
use Rattle.std.specs.Str.Iter.{split_ascii_whitespace_text}
use Rattle.std.specs.declared.str.SplitAsciiWhitespace.{SplitAscii}

-- a part that is a word: it is not empty
abbrev pub is_word : List ℕ → Bool
is_word [] = false
is_word (c ∷ cs) = true

-- the parts of a text between white space of ASCII that are not empty
unfoldable pub words_of : List ℕ → List (List ℕ)
words_of text = filter is_word (slice_split is_ascii_whitespace text)

-- the words that are left of a text
abbrev pub words_left : SplitAscii → List (List ℕ)
words_left s = words_of (split_ascii_whitespace_text s)

-- the first of some words, an empty text where there is none
abbrev pub front_word : List (List ℕ) → List ℕ
front_word [] = []
front_word (word ∷ words) = word
