use Rattle.std.proofs.Common.{ℕ, ◌≡◌, ◌<◌, Some, slice_get}
use Rattle.garage.specs.Hearing.{HasHeardAll}
use Rattle.garage.proofs.garage.Garage.last_unheard.Given as goal

abbrev pub invariant-loop-i : goal.invariant-loop-i
invariant-loop-i g l = (j : ℕ) (p : _) → j < l.i → slice_get l.units j ≡ Some p → HasHeardAll p.seat l.self
