use Rattle.std.proofs.Common.{length, ◌-◌, ◌≤◌, ◌≡◌}
use Rattle.bus_ledger.specs.Offers.{NoneBelow}
use Rattle.bus_ledger.proofs.offers.pass_eights.Given as goal

abbrev pub invariant-loop-k : goal.invariant-loop-k
invariant-loop-k l = (l.len ≡ length l.seats) × (l.from ≤ l.k) × (l.k ≤ length l.seats) × NoneBelow l.lowest l.wire_len l.seats l.from l.k

abbrev pub decreases-loop-k : goal.decreases-loop-k
decreases-loop-k l = length l.seats - l.k
