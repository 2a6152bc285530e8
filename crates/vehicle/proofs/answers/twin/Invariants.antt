use Rattle.std.proofs.Common.{take}
use Rattle.vehicle.specs.Identifying.{HaveDistinctGroups}
use Rattle.vehicle.proofs.answers.twin.Given as goal

-- no two of those before are one group
abbrev pub invariant-loop-place : goal.invariant-loop-place
invariant-loop-place l = HaveDistinctGroups (take l.place l.answers)
