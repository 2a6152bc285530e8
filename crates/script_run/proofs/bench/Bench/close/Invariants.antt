use Rattle.std.proofs.Common.{vec_len}
use Rattle.script_run.proofs.bench.Bench.close.Given as goal

-- the units that are left at the bench
abbrev pub decreases-loop-parked : goal.decreases-loop-parked
decreases-loop-parked g l = vec_len l.units
