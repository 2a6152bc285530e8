use Rattle.garage.specs.Crew.{AreUntouched}
use Rattle.garage.specs.Rounds.{EachReads}
use Rattle.garage.proofs.garage.Garage.read_rest.Given as goal

abbrev pub invariant-loop-station : goal.invariant-loop-station
invariant-loop-station l = EachReads l.station l.fn.self l.self × AreUntouched l.fn.self l.self
