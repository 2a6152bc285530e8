-- The checksum that a frame bears among its bytes (SAE J1939-71, message checksum; from memory).
use Rattle.std.specs.Prelude.{ℕ, ◌≡◌, ◌+◌, ◌/◌, ◌%◌, ◌^◌, List, length, sum}
use Rattle.vehicle.specs.Moving.{IsUncovered, Shows, bit_of}
use Rattle.vehicle.specs.declared.field_bits.FieldBits.{FieldBits}

-- the sum of the four bytes of an identifier
abbrev pub sum_of_id : ℕ → ℕ
sum_of_id id = id / 2 ^ 24 + id / 2 ^ 16 % 256 + id / 2 ^ 8 % 256 + id % 256

-- three bits of a sum
abbrev pub folded : ℕ → ℕ
folded n = (n / 64 % 4 + n / 8 + n) % 8

abbrev pub checksum_of : ℕ → List ℕ → ℕ
checksum_of id bytes = folded (sum bytes + sum_of_id id)

-- the field has the checksum of the identifier and the bytes, in which the field itself is 0
pub record IsChecked (f : FieldBits) (id : ℕ) (bytes : List ℕ) : Type 0 where
  pub without : List ℕ
  pub count : length without ≡ length bytes
  pub zero : Shows f 0 without
  pub same : (n : ℕ) → IsUncovered f n → bit_of without n ≡ bit_of bytes n
  pub shows : Shows f (checksum_of id without) bytes
