use Rattle.std.proofs.Common.{take}
use Rattle.vehicle.specs.Live.{HaveDistinctNames}
use Rattle.vehicle.proofs.live.twins.Given as goal

-- no two of those before have one NAME
abbrev pub invariant-loop-place : goal.invariant-loop-place
invariant-loop-place l = HaveDistinctNames (take l.place l.units)
