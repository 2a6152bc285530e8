use Rattle.std.proofs.Common.{take}
use Rattle.std.specs.List.{AllPairs}
use Rattle.vehicle.specs.Apart.{ShareNoBit}
use Rattle.vehicle.proofs.room.overlapping.Given as goal

-- no two of those before have a bit together
abbrev pub invariant-loop-place : goal.invariant-loop-place
invariant-loop-place l = AllPairs (λ f g. ShareNoBit f.bits g.bits) (take l.place l.fields)
