-- Which fields a group may have together.
use Rattle.std.specs.Prelude.{ℕ, ◌≡◌, ◌<◌, List, Option, Some}
use Rattle.std.specs.List.{All, AllPairs}
use Rattle.vehicle.specs.Moving.{IsUncovered, LiesWithin, place}
use Rattle.vehicle.specs.declared.field_bits.FieldBits.{FieldBits}
use Rattle.vehicle.specs.declared.moving_field.MovingField.{MovingField}

-- no bit is one of both
abbrev pub ShareNoBit : FieldBits → FieldBits → Type 0
ShareNoBit f g = (i : ℕ) → i < f.size → IsUncovered g (place f i)

-- all stand in so many bytes, and no two of them, and no checksum, have a bit together
pub record HasRoomFor (fields : List MovingField) (checksum : Option FieldBits) (count : ℕ) : Type 0 where
  pub within : All (λ f. LiesWithin f.bits count) fields
  pub apart : AllPairs (λ f g. ShareNoBit f.bits g.bits) fields
  pub sum_within : (c : FieldBits) → checksum ≡ Some c → LiesWithin c count
  pub sum_apart : (c : FieldBits) → checksum ≡ Some c → All (λ f. ShareNoBit f.bits c) fields
