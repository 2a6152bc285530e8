use Rattle.std.proofs.Common.{◌≡◌, drop}
use Rattle.std.specs.VecDeque.{deque_capacity}
use Rattle.live_unit.proofs.echo.drop_first.Given as goal

-- so many were dropped
abbrev pub invariant-loop : goal.invariant-loop
invariant-loop l = (l.written.items ≡ drop l.counter l.initial.written.items) × (deque_capacity l.written ≡ deque_capacity l.initial.written)
