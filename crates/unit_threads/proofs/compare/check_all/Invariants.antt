use Rattle.std.proofs.Common.{ℕ, ◌≡◌, ◌<◌, ◌≤◌}
use Rattle.unit_threads.specs.Ends.{Agrees, HaveOwnSeatsTo, IsSeatless, end_at}
use Rattle.unit_threads.proofs.compare.check_all.Given as goal

abbrev pub invariant-loop-i : goal.invariant-loop-i
invariant-loop-i l = record {
  agree : (k : ℕ) → k < l.i → Agrees l.turns l.garage (end_at l.ended k);
  apart : HaveOwnSeatsTo l.i l.ended;
  seatless : (k : ℕ) → k < l.i → IsSeatless (end_at l.initial.ended k) → IsSeatless (end_at l.ended k);
  rest : (k : ℕ) → l.i ≤ k → end_at l.ended k ≡ end_at l.initial.ended k;
}
