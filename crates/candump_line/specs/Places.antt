-- Which character stands at a place of a text.
use Rattle.std.specs.Prelude.{ℕ, Bool, ◌==◌, List, slice_index}
use Rattle.std.specs.Char.{is_ascii_digit}

-- this character stands at a place
abbrev pub is_at : List ℕ → ℕ → ℕ → Bool
is_at text place character = slice_index text place == character

-- a decimal digit does
abbrev pub digit_is_at : List ℕ → ℕ → Bool
digit_is_at text place = is_ascii_digit (slice_index text place)
