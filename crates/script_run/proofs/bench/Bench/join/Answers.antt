use Rattle.std.proofs.Common.{◌≡◌, ◌++◌, ◌∷◌, [], refl, rules}
use Rattle.script_run.proofs.AtBench.{joined}
use Rattle.script_run.proofs.bench.Bench.join.Goals as goal

pub returns-in-Ok-clause-joins : goal.returns-in-Ok-clause-joins
returns-in-Ok-clause-joins g c =
    let put : c.push_reserved.new.self.items ≡ c.args.self.now.units.items ++ c.in-Ok.parked ∷ [] = search rules in
    let named : (goal.Unit-dyn g (c.in-Ok.parked.unit.vtable, c.in-Ok.parked.unit.value)).name_of c.in-Ok.parked.unit.value ≡ (goal.Unit-dyn g (c.args.unit.vtable, c.args.unit.value)).name_of c.args.unit.value = rw c.in-Ok.ensures.ok.1 refl in
    joined (λ p. record { seat = p.seat; name = (goal.Unit-dyn g (p.unit.vtable, p.unit.value)).name_of p.unit.value; events = p.events; memory = (goal.Unit-dyn g (p.unit.vtable, p.unit.value)).memory_of p.unit.value }) c.seat-seat.result _ _ _ _ _ _ c.in-Ok.parked c.seat-seat.ensures named put c.in-Ok.ensures.ok.0
