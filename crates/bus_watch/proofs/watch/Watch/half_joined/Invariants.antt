use Rattle.std.proofs.Common.{◌≡◌, ◌≤◌, ◌*◌}
use Rattle.bus_watch.specs.WatchValue.{half_from}
use Rattle.bus_watch.proofs.watch.Watch.half_joined.Given as goal

-- those from the sources below are counted
abbrev pub invariant-loop-source : goal.invariant-loop-source
invariant-loop-source l = (l.count ≡ half_from l.self l.source) × (l.count ≤ 256 * l.source)
