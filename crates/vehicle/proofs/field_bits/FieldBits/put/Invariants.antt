use Rattle.std.proofs.Common.{ℕ, ◌≡◌, ◌≢◌, ◌<◌}
use Rattle.std.specs.Int.{bit_at}
use Rattle.vehicle.specs.Moving.{bit_of, place}
use Rattle.vehicle.proofs.field_bits.FieldBits.put.Given as goal

-- the bits so far are those of the number, and no other changed
abbrev pub invariant-loop-bit : goal.invariant-loop-bit
invariant-loop-bit l = record {
  shows : (i : ℕ) → i < l.bit → bit_of l.bytes (place l.self i) ≡ bit_at l.value i;
  others : (n : ℕ) → ((i : ℕ) → i < l.bit → place l.self i ≢ n) → bit_of l.bytes n ≡ bit_of l.fn.bytes n;
}
