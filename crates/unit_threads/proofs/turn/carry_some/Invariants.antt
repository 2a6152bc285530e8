use Rattle.unit_threads.specs.Turns.{KeepsSeats}
use Rattle.unit_threads.proofs.Turning.{CarriedSoFar}
use Rattle.unit_threads.proofs.turn.carry_some.Given as goal

abbrev pub invariant-loop-turn : goal.invariant-loop-turn
invariant-loop-turn l = record {
  carried : CarriedSoFar l._turn l.initial.garage l.garage;
  seats : KeepsSeats l.initial.garage l.garage;
}
