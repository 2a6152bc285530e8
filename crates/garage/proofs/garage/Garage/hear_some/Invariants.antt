use Rattle.std.proofs.Common.{◌≡◌, ◌-◌, ◌≤◌}
use Rattle.node_core.specs.Asking.{IsAsked}
use Rattle.garage.specs.Hearing.{HearsMany}
use Rattle.garage.proofs.garage.Garage.hear_some.Given as goal

abbrev pub invariant-loop-heard : goal.invariant-loop-heard
invariant-loop-heard g l =
    HearsMany (λ p. record { seat = p.seat; name = (goal.Unit-dyn g (p.unit.vtable, p.unit.value)).name_of p.unit.value; events = p.events; memory = (goal.Unit-dyn g (p.unit.vtable, p.unit.value)).memory_of p.unit.value })
    (λ p q o a. (u : _) × (q.unit ≡ record p.unit { value = u }) × IsAsked ((goal.Unit-dyn g (p.unit.vtable, p.unit.value)).Answers p.unit.value) o a p.unit.value u) l.heard l.fn.self l.fn.parked l.self l.parked
    × l.heard ≤ l.most

abbrev pub decreases-loop-heard : goal.decreases-loop-heard
decreases-loop-heard g l = l.most - l.heard
