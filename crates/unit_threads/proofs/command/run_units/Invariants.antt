use Rattle.std.proofs.Common.{◌≡◌, vec_len}
use Rattle.unit_threads.proofs.command.run_units.Given as goal

-- so many units as lines
abbrev pub invariant-loop-line : goal.invariant-loop-line
invariant-loop-line g l = vec_len l.units ≡ l.line-index
