-- The values that a signal had, newest first.
use Rattle.std.specs.Prelude.{◌≡◌, ◌-◌, ◌^◌, ◌≤ℤ◌, min, All, List, ◌∷◌, length}
use Rattle.std.specs.List.{Contains}
use Rattle.picture.specs.declared.value_range.ToldValue.{ToldValue}
use Rattle.picture.specs.declared.value_range.ValueRange.{ValueRange}

-- which of them is the newest, one of them that is the least, one that is the greatest, and how many there are up to the greatest 64-bit number
pub record RangesOver (heard : List ToldValue) (r : ValueRange) : Type 0 where
  pub newest : (older : List ToldValue) × (heard ≡ r.newest ∷ older)
  pub least : Contains heard r.least
  pub none_less : All (λ v. r.least.units ≤ℤ v.units) heard
  pub greatest : Contains heard r.greatest
  pub none_greater : All (λ v. v.units ≤ℤ r.greatest.units) heard
  pub counted : r.times ≡ min (length heard) (2 ^ 64 - 1)
