use Rattle.std.specs.Prelude.{ℕ, ◌≡◌, ◌⊎◌, ◌==◌, Bool, nat_lt, List, [], length, drop, filter, slice_index}
use Rattle.std.specs.List.{prefix_len, before_first, slice_split}

-- the character `#`
abbrev pub number_sign : ℕ
number_sign = 35

-- a line without an answer: an empty one, or a comment
abbrev pub IsSilent : List ℕ → Type 0
IsSilent line = (line ≡ []) ⊎ (slice_index line 0 ≡ number_sign)

-- the character that stands between words
abbrev pub is_space : ℕ → Bool
is_space c = c == 32

-- a line without the spaces that it begins with
abbrev pub from_word : List ℕ → List ℕ
from_word line = drop (prefix_len is_space line) line

-- the first word of a line: what stands before its next space; nothing where the line has spaces alone
abbrev pub first_word : List ℕ → List ℕ
first_word line = before_first is_space (from_word line)

-- what stands behind the first word
abbrev pub behind_word : List ℕ → List ℕ
behind_word line = drop (length (first_word line)) (from_word line)

-- the words of a line: its parts between spaces, but for the empty ones
unfoldable pub script_words : List ℕ → List (List ℕ)
script_words line = filter (λ part. nat_lt 0 (length part)) (slice_split is_space line)
