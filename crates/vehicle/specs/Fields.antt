-- Which fields that move a TOML document describes.
use Rattle.std.specs.Prelude.{ℕ, ◌≡◌, ◌⊎◌, ◌≤◌, ◌+◌, ◌-◌, ◌^◌, pos, List, [], ◌∷◌, Option, Some, None, codes}
use Rattle.toml.specs.Data.{Data, get, as_integer}
use Rattle.vehicle.specs.Holding.{EachHoldsAt, HasNumber, HasOnly, text_at}
use Rattle.vehicle.specs.declared.fields.TheConstants.{LAST_BIT, MOST_BITS, CHECKSUM_BITS}
use Rattle.vehicle.specs.declared.field_bits.ByteOrder.{ByteOrder}
use Rattle.vehicle.specs.declared.field_bits.ByteOrder.TheVariants.{Intel, Motorola}
use Rattle.vehicle.specs.declared.field_bits.FieldBits.{FieldBits}
use Rattle.vehicle.specs.declared.motion.Motion.{Motion}
use Rattle.vehicle.specs.declared.motion.Motion.TheVariants.{Counter, Ramp, Toggle, Values}
use Rattle.vehicle.specs.declared.moving_field.MovingField.{MovingField}

-- the word at the key "order"; Intel where there is no such key
abbrev pub HoldsOrderAt : Data → ByteOrder → Type 0
HoldsOrderAt d Intel = (get (codes "order") d ≡ None) ⊎ (text_at (codes "order") d ≡ Some (codes "intel"))
HoldsOrderAt d Motorola = text_at (codes "order") d ≡ Some (codes "motorola")

-- where a field stands, of so many bits at least
pub record HoldsBits (least : ℕ) (d : Data) (b : FieldBits) : Type 0 where
  pub start : HasNumber d (codes "start") b.start 0 LAST_BIT
  pub size : HasNumber d (codes "length") b.size least MOST_BITS
  pub order : HoldsOrderAt d b.order

-- a number, at most the greatest
abbrev pub HoldsValue : ℕ → Data → ℕ → Type 0
HoldsValue greatest d n = (as_integer d ≡ Some (pos n)) × (n ≤ greatest)

abbrev pub HoldsValuesAt : ℕ → Option Data → List ℕ → Type 0
HoldsValuesAt greatest = EachHoldsAt (HoldsValue greatest)

-- the word at the key "kind", and its numbers, which are at most the greatest
abbrev pub HoldsMotion : ℕ → Data → Motion → Type 0
HoldsMotion greatest d (Counter c) = (text_at (codes "kind") d ≡ Some (codes "counter"))
    × HasNumber d (codes "least") c.least 0 greatest × HasNumber d (codes "most") c.most c.least greatest
HoldsMotion greatest d (Ramp r) = (text_at (codes "kind") d ≡ Some (codes "ramp"))
    × HasNumber d (codes "least") r.least 0 (greatest - 1) × HasNumber d (codes "most") r.most (r.least + 1) greatest
    × HasNumber d (codes "step") r.step 1 (r.most - r.least)
HoldsMotion greatest d Toggle = text_at (codes "kind") d ≡ Some (codes "toggle")
HoldsMotion greatest d (Values v) = (text_at (codes "kind") d ≡ Some (codes "values"))
    × HoldsValuesAt greatest (get (codes "values") d) v.list.items

-- the keys of a field that moves so
abbrev pub keys_of_motion : Motion → List (List ℕ)
keys_of_motion (Counter c) = codes "kind" ∷ codes "start" ∷ codes "length" ∷ codes "order" ∷ codes "least" ∷ codes "most" ∷ []
keys_of_motion (Ramp r) = codes "kind" ∷ codes "start" ∷ codes "length" ∷ codes "order" ∷ codes "least" ∷ codes "most" ∷ codes "step" ∷ []
keys_of_motion Toggle = codes "kind" ∷ codes "start" ∷ codes "length" ∷ codes "order" ∷ []
keys_of_motion (Values v) = codes "kind" ∷ codes "start" ∷ codes "length" ∷ codes "order" ∷ codes "values" ∷ []

-- where a field stands, and how it moves; nothing else
pub record HoldsField (d : Data) (f : MovingField) : Type 0 where
  pub only : HasOnly (keys_of_motion f.motion) d
  pub bits : HoldsBits 1 d f.bits
  pub motion : HoldsMotion (2 ^ f.bits.size - 1) d f.motion

-- one for each table, in order; none where there is no such key
abbrev pub HoldsFieldsAt : Option Data → List MovingField → Type 0
HoldsFieldsAt = EachHoldsAt HoldsField

-- where a checksum stands; nothing else
pub record HoldsChecksum (d : Data) (b : FieldBits) : Type 0 where
  pub only : HasOnly (codes "start" ∷ codes "length" ∷ codes "order" ∷ []) d
  pub bits : HoldsBits CHECKSUM_BITS d b

-- there is one exactly where there is such a key
abbrev pub HoldsChecksumAt : Option Data → Option FieldBits → Type 0
HoldsChecksumAt None checksum = checksum ≡ None
HoldsChecksumAt (Some d) checksum = (b : FieldBits) × (checksum ≡ Some b) × HoldsChecksum d b
