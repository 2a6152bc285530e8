use Rattle.std.proofs.Common.{◌-◌, ◌^◌, length}
use Rattle.garage.specs.Crew.{AreUntouched}
use Rattle.garage.specs.Rounds.{TakesReadings}
use Rattle.garage.proofs.garage.Garage.read_rest_at.Given as goal

abbrev pub invariant-loop : goal.invariant-loop
invariant-loop l = TakesReadings l.station l.fn.self l.self × AreUntouched l.fn.self l.self

abbrev pub decreases-loop : goal.decreases-loop
decreases-loop l = 2 ^ 32 - length l.self.journal
