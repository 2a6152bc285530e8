use Rattle.bus_ledger.specs.Inside.{AreNumbers}
use Rattle.bus_ledger.proofs.bus.opening.numbers_below.Given as goal

abbrev pub invariant-loop-number : goal.invariant-loop-number
invariant-loop-number l = AreNumbers l.numbers.items l.number
