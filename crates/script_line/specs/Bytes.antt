-- The bytes of a frame where they stand in a line.
use Rattle.std.specs.Prelude.{ℕ, ◌≡◌, ◌⊎◌, List, [], ◌∷◌, ◌++◌, slice_index, take, Option, Some, None, option_map, option_to_list}
use Rattle.script_line.specs.Grammar.{all_bytes}
use Rattle.script_line.specs.Line.{script_words}

-- a word ends before these characters
abbrev pub EndsWord : List ℕ → Type 0
EndsWord behind = (behind ≡ []) ⊎ (slice_index behind 0 ≡ 32)

-- so many of these bytes are the first nine that the words spell; none, where one is another word
abbrev pub KeepsBytes : List ℕ → Option (List ℕ × ℕ) → Type 0
KeepsBytes text None = all_bytes (script_words text) ≡ None
KeepsBytes text (Some read) = (bytes : List ℕ) × (all_bytes (script_words text) ≡ Some bytes) × (take read.1 read.0 ≡ take 9 bytes)

-- behind a space stand a byte and what is left, or what is left alone; or no words of bytes
abbrev pub SpellsByte : List ℕ → Option (Option ℕ × List ℕ) → Type 0
SpellsByte text None = all_bytes (script_words (32 ∷ text)) ≡ None
SpellsByte text (Some read) =
    EndsWord read.1 × (all_bytes (script_words (32 ∷ text)) ≡ option_map (λ bytes. option_to_list read.0 ++ bytes) (all_bytes (script_words read.1)))
