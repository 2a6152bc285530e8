use Rattle.std.proofs.Common.{ℕ, suc, ◌≡◌, ◌<◌, Some, slice_get}
use Rattle.journal.specs.Journal.{IsSeated}
use Rattle.garage.proofs.garage.Garage.are_seated.Given as goal

abbrev pub invariant-loop-i : goal.invariant-loop-i
invariant-loop-i g l =
    ((i : ℕ) (p : _) → i < l.i → slice_get l.units i ≡ Some p → IsSeated l.self p.seat ((goal.Unit-dyn g (p.unit.vtable, p.unit.value)).name_of p.unit.value) p.events)
    × ((i : ℕ) (p q : _) → suc i < l.i → slice_get l.units i ≡ Some p → slice_get l.units (suc i) ≡ Some q → p.seat < q.seat)
