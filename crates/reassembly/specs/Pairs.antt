-- What is kept of each pair of addresses, the first and the second from 0 to 255.
use Rattle.std.specs.Prelude.{ℕ, List, Option, replicate, slice_index_or, slice_set}
use Rattle.reassembly.specs.Tables.{at, empty_table}

-- nothing is kept of any pair
unfoldable pub no_pairs : {X : Type 0} → List (List (Option X))
no_pairs = replicate 256 empty_table

-- what is kept with this first address, by the second one
abbrev pub pairs_from : {X : Type 0} → List (List (Option X)) → ℕ → List (Option X)
pairs_from pairs first = slice_index_or pairs first empty_table

abbrev pub pair_at : {X : Type 0} → List (List (Option X)) → ℕ → ℕ → Option X
pair_at pairs first second = at (pairs_from pairs first) second

-- with another thing kept of a pair, or nothing
abbrev pub with_pair : {X : Type 0} → List (List (Option X)) → ℕ → ℕ → Option X → List (List (Option X))
with_pair pairs first second kept = slice_set pairs first (slice_set (pairs_from pairs first) second kept)
