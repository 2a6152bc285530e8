use Rattle.std.proofs.Common.{ℕ, ◌≢◌, ◌<◌}
use Rattle.garage.specs.Opening.{setting_in}
use Rattle.garage.proofs.opening.is_apart_before.Given as goal

abbrev pub invariant-loop-j : goal.invariant-loop-j
invariant-loop-j l = (j : ℕ) → j < l.j → (setting_in l.settings j).name ≢ (setting_in l.settings l.i).name
