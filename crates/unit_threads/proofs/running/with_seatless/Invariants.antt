use Rattle.std.proofs.Common.{◌≡◌, ◌+◌, vec_len}
use Rattle.std.specs.Prelude.{vec_capacity}
use Rattle.unit_threads.specs.Ends.{AreSeatlessFrom}
use Rattle.unit_threads.proofs.running.with_seatless.Given as goal

abbrev pub invariant-loop : goal.invariant-loop
invariant-loop l = record {
  all : vec_len l.ended ≡ vec_len l.initial.ended + l.counter;
  capacity : vec_capacity l.ended ≡ vec_capacity l.initial.ended;
  seatless : AreSeatlessFrom (vec_len l.initial.ended) l.ended.items;
}
