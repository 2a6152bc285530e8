use Rattle.std.proofs.Common.{length, ◌-◌, ◌≤◌}
use Rattle.bus_ledger.specs.Offers.{IsBestOfAll}
use Rattle.bus_ledger.proofs.offers.best_of_few.Given as goal

abbrev pub invariant-loop-from : goal.invariant-loop-from
invariant-loop-from l = (l.from ≤ length l.seats) × IsBestOfAll l.wire_len l.seats l.from l.lowest l.best

abbrev pub decreases-loop-from : goal.decreases-loop-from
decreases-loop-from l = length l.seats - l.from
