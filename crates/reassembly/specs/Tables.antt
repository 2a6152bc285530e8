-- What is kept of each address, 0 to 255.
use Rattle.std.specs.Prelude.{◌≡◌, ℕ, Bool, true, false, List, [], ◌∷◌, Option, None, length, replicate, slice_index_or}

-- what is kept of an address
abbrev pub at : {X : Type 0} → List (Option X) → ℕ → Option X
at table address = slice_index_or table address None

-- a table in which nothing is kept of any address
unfoldable pub empty_table : {X : Type 0} → List (Option X)
empty_table = replicate 256 None

-- a table of 256 addresses, and whether it has its memory
pub record TableValue (X : Type 0) : Type 0 where
  pub slots : List (Option X)
  pub is_made : Bool

-- a table without its memory is empty
abbrev pub slots_of : {X : Type 0} → List (Option X) → List (Option X)
slots_of [] = empty_table
slots_of (x ∷ xs) = x ∷ xs

-- whether there is memory
abbrev pub has_slots : {X : Type 0} → List (Option X) → Bool
has_slots [] = false
has_slots (x ∷ xs) = true

-- where there is memory, it is for 256 addresses
pub record IsTable {X : Type 0} (items : List (Option X)) : Type 0 where
  pub places : has_slots items ≡ true → length items ≡ 256
