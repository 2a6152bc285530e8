use Rattle.std.proofs.Common.{length, ◌-◌, ◌≤◌}
use Rattle.bus_ledger.specs.Offers.{IsBestOfAll}
use Rattle.bus_ledger.proofs.offers.best_of_all.Given as goal

abbrev pub invariant-loop-number : goal.invariant-loop-number
invariant-loop-number l = (l.from ≤ length l.seats) × IsBestOfAll l.wire_len l.seats l.from l.lowest l.best

abbrev pub decreases-loop-number : goal.decreases-loop-number
decreases-loop-number l = length l.seats - l.from
