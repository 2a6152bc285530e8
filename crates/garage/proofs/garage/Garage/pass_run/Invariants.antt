use Rattle.std.proofs.Common.{◌≡◌, ◌+◌}
use Rattle.node_core.specs.Asking.{IsAsked}
use Rattle.garage.specs.Hearing.{HearsMany}
use Rattle.garage.proofs.garage.Garage.pass_run.Given as goal

abbrev pub invariant-loop-passed : goal.invariant-loop-passed
invariant-loop-passed g l =
    HearsMany (λ p. record { seat = p.seat; name = (goal.Unit-dyn g (p.unit.vtable, p.unit.value)).name_of p.unit.value; events = p.events; memory = (goal.Unit-dyn g (p.unit.vtable, p.unit.value)).memory_of p.unit.value })
    (λ p q o a. (u : _) × (q.unit ≡ record p.unit { value = u }) × IsAsked ((goal.Unit-dyn g (p.unit.vtable, p.unit.value)).Answers p.unit.value) o a p.unit.value u) l.passed l.fn.self l.fn.parked l.self (record l.fn.parked { events = l.fn.parked.events + l.passed })
