-- Fields of a frame's bytes that move from frame to frame.
use Rattle.std.specs.Prelude.{ℕ, ◌≡◌, ◌≢◌, ◌<◌, ◌+◌, ◌-◌, ◌*◌, ◌/◌, ◌%◌, min, Bool, true, false, List, length, slice_index_or}
use Rattle.std.specs.Int.{bit_at}
use Rattle.vehicle.specs.declared.field_bits.ByteOrder.{ByteOrder}
use Rattle.vehicle.specs.declared.field_bits.ByteOrder.TheVariants.{Intel, Motorola}
use Rattle.vehicle.specs.declared.field_bits.FieldBits.{FieldBits}
use Rattle.vehicle.specs.declared.motion.Motion.{Motion}
use Rattle.vehicle.specs.declared.motion.Motion.TheVariants.{Counter, Ramp, Toggle, Values}

-- ---- bits of a frame, by the numbers of a DBC file

abbrev pub bit_number : Bool → ℕ
bit_number true = 1
bit_number false = 0

-- bit n of the bytes is bit n % 8 of byte n / 8, the lowest of a byte first
abbrev pub bit_of : List ℕ → ℕ → ℕ
bit_of bytes n = bit_at (slice_index_or bytes (n / 8) 0) (n % 8)

-- the number of a bit where those of each byte are counted from the highest: in this order the bits are sent
abbrev pub mirrored : ℕ → ℕ
mirrored n = n / 8 * 8 + (7 - n % 8)

-- where bit i of a field stands, 0 being its lowest: Intel goes on from the lowest to greater numbers; Motorola from the highest, as bits are sent
abbrev pub place_by : ByteOrder → ℕ → ℕ → ℕ → ℕ
place_by Intel start size i = start + i
place_by Motorola start size i = mirrored (mirrored start + (size - 1 - i))

abbrev pub place : FieldBits → ℕ → ℕ
place f i = place_by f.order f.start f.size i

-- bit n is one of the field's
abbrev pub Covers : FieldBits → ℕ → Type 0
Covers f n = (i : ℕ) × (i < f.size) × (place f i ≡ n)

abbrev pub IsUncovered : FieldBits → ℕ → Type 0
IsUncovered f n = (i : ℕ) → i < f.size → place f i ≢ n

-- all its bits stand in so many bytes
abbrev pub LiesWithin : FieldBits → ℕ → Type 0
LiesWithin f count = (i : ℕ) → i < f.size → place f i / 8 < count

-- its bits are the lowest ones of the number
abbrev pub Shows : FieldBits → ℕ → List ℕ → Type 0
Shows f value bytes = (i : ℕ) → i < f.size → bit_of bytes (place f i) ≡ bit_at value i

-- ---- what a field says in the frame before which so many went

-- up to n and back, again and again
abbrev pub swing : ℕ → ℕ → ℕ
swing n count = min (count % (2 * n)) (2 * n - count % (2 * n))

abbrev pub value_at : Motion → ℕ → ℕ
value_at (Counter c) count = c.least + count % (c.most - c.least + 1)
value_at (Ramp r) count = r.least + r.step * swing ((r.most - r.least) / r.step) count
value_at Toggle count = count % 2
value_at (Values v) count = slice_index_or v.list.items (count % length v.list.items) 0
