use Rattle.std.proofs.Common.{◌≢◌, take, Some}
use Rattle.std.specs.List.{All}
use Rattle.unit_threads.proofs.compare.is_named.Given as goal

abbrev pub invariant-loop-end : goal.invariant-loop-end
invariant-loop-end l = All (λ e. e.seat ≢ Some l.seat) (take l.end-index l.ended)
