use Rattle.bus_watch.specs.Over.{HasOwnersBelow}
use Rattle.bus_watch.proofs.watch.Watch.take_holders.Given as goal

-- it was told of owners alone
abbrev pub invariant-loop-place : goal.invariant-loop-place
invariant-loop-place l = HasOwnersBelow l.other 0 l.self
