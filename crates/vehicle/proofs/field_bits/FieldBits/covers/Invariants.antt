use Rattle.std.proofs.Common.{ℕ, ◌<◌, ◌≢◌}
use Rattle.vehicle.specs.Moving.{place}
use Rattle.vehicle.proofs.field_bits.FieldBits.covers.Given as goal

-- none of its bits so far stands there
abbrev pub invariant-loop-bit : goal.invariant-loop-bit
invariant-loop-bit l = (i : ℕ) → i < l.bit → place l.self i ≢ l.place
