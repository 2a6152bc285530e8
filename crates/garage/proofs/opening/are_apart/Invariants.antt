use Rattle.std.proofs.Common.{ℕ, ◌<◌}
use Rattle.garage.specs.Opening.{IsApartBefore}
use Rattle.garage.proofs.opening.are_apart.Given as goal

abbrev pub invariant-loop-i : goal.invariant-loop-i
invariant-loop-i l = (i : ℕ) → i < l.i → IsApartBefore l.settings i
