use Rattle.unit_threads.proofs.Reading.{HasReadTo}
use Rattle.unit_threads.proofs.turn.read_each.Given as goal

abbrev pub invariant-loop-station : goal.invariant-loop-station
invariant-loop-station l = HasReadTo l.station l.initial.garage l.garage
