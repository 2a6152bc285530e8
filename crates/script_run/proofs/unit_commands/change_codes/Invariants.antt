use Rattle.std.proofs.Common.{◌≡◌}
use Rattle.script_run.specs.UnitSteps.{ChangesMany}
use Rattle.script_run.proofs.unit_commands.change_codes.Given as goal

abbrev pub invariant-loop-number : goal.invariant-loop-number
invariant-loop-number g l =
    ChangesMany l.change l.spn l.fmi l.number ((goal.Unit-dyn g (l.fn.parked.unit.vtable, l.fn.parked.unit.value)).memory_of l.fn.parked.unit.value) ((goal.Unit-dyn g (l.parked.unit.vtable, l.parked.unit.value)).memory_of l.parked.unit.value)
    × ((goal.Unit-dyn g (l.parked.unit.vtable, l.parked.unit.value)).name_of l.parked.unit.value ≡ (goal.Unit-dyn g (l.fn.parked.unit.vtable, l.fn.parked.unit.value)).name_of l.fn.parked.unit.value)
    × (l.parked.seat ≡ l.fn.parked.seat) × (l.parked.events ≡ l.fn.parked.events)
