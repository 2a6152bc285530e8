use Rattle.bus_ledger.specs.Offers.{IsBestSeatSoFar}
use Rattle.bus_ledger.proofs.offers.best_of_live.Given as goal

abbrev pub invariant-loop-number : goal.invariant-loop-number
invariant-loop-number l = IsBestSeatSoFar l.wire_len l.seats l.live l.number-index l.lowest l.best
