use Rattle.std.proofs.Common.{◌≡◌, ◌-◌, ◌^◌, min, take}
use Rattle.vehicle.specs.Frames.{least_period}
use Rattle.vehicle.proofs.periods.least_period.Given as goal

-- the sum so far, as far as the number goes
abbrev pub invariant-loop-one : goal.invariant-loop-one
invariant-loop-one l = l.least ≡ min (least_period l.gap (take l.one-index l.sends)) (2 ^ 64 - 1)
