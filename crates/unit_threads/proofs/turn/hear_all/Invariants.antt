use Rattle.std.proofs.Common.{◌≡◌, ◌-◌, ◌^◌}
use Rattle.unit_threads.specs.Turns.{BoxHeard, GrowsBy, IsHearOf}
use Rattle.unit_threads.proofs.turn.hear_all.Given as goal

abbrev pub invariant-loop : goal.invariant-loop
invariant-loop g l = record {
  same : l.plug.garage.ghost_name ≡ l.initial.plug.garage.ghost_name;
  seat : l.plug.seat ≡ l.initial.plug.seat;
  name : l.plug.name ≡ l.initial.plug.name;
  unit : (g.dyn-1.0.entry l.plug.unit.vtable).1.name_of l.plug.unit.value ≡ (g.dyn-1.0.entry l.initial.plug.unit.vtable).1.name_of l.initial.plug.unit.value;
  heard : GrowsBy (IsHearOf l.initial.plug.seat) l.initial.plug.garage.now l.plug.garage.now;
  box : BoxHeard (λ i. (g.dyn-1.0.entry i).1.name_of) (λ i. (g.dyn-1.0.entry i).1.memory_of) (λ i. (g.dyn-1.0.entry i).1.Answers) l.initial.plug.seat l.initial.plug.garage.now l.initial.plug.unit l.initial.plug.events l.plug.garage.now l.plug.unit l.plug.events;
}

abbrev pub decreases-loop : goal.decreases-loop
decreases-loop g l = 2 ^ 32 - l.plug.events
