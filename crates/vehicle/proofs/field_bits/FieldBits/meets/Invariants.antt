use Rattle.std.proofs.Common.{ℕ, ◌<◌}
use Rattle.vehicle.specs.Moving.{IsUncovered, place}
use Rattle.vehicle.proofs.field_bits.FieldBits.meets.Given as goal

-- none of its bits so far is one of the other's
abbrev pub invariant-loop-bit : goal.invariant-loop-bit
invariant-loop-bit l = (i : ℕ) → i < l.bit → IsUncovered l.other (place l.self i)
