use Rattle.std.proofs.Common.{◌≡◌, ◌≤◌}
use Rattle.bus_watch.specs.WatchValue.{half_below}
use Rattle.bus_watch.proofs.watch.Watch.half_joined_from.Given as goal

-- those to the addresses below are counted
abbrev pub invariant-loop-dest : goal.invariant-loop-dest
invariant-loop-dest l = (l.count ≡ half_below l.self l.source l.dest) × (l.count ≤ l.dest)
