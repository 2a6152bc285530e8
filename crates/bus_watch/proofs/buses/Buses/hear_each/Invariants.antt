use Rattle.std.specs.Prelude.{nat_lt}
use Rattle.bus_watch.specs.Hearing.{AreTold}
use Rattle.bus_watch.specs.Told.{Read}
use Rattle.bus_watch.proofs.buses.Buses.hear_each.Given as goal

-- those so far have heard it
abbrev pub invariant-loop-place : goal.invariant-loop-place
invariant-loop-place l = AreTold (λ p. nat_lt p l.place) (Read l.line) l.initial.self l.self
