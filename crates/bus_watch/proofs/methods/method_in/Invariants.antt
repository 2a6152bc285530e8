use Rattle.std.proofs.Common.{◌≡◌, length}
use Rattle.bus_watch.specs.Methods.{method_in}
use Rattle.bus_watch.proofs.methods.method_in.Given as goal

-- none of those so far is of the unit
abbrev pub invariant-loop-rest : goal.invariant-loop-rest
invariant-loop-rest l = method_in l.rest l.name ≡ method_in l.table l.name

abbrev pub decreases-loop-rest : goal.decreases-loop-rest
decreases-loop-rest l = length l.rest
