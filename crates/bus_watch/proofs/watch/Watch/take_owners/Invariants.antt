use Rattle.bus_watch.specs.Over.{HasOwnersBelow}
use Rattle.bus_watch.proofs.watch.Watch.take_owners.Given as goal

-- it was told of the owners of the addresses below
abbrev pub invariant-loop-address : goal.invariant-loop-address
invariant-loop-address l = HasOwnersBelow l.other l.address l.self
