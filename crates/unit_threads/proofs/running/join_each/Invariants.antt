use Rattle.std.proofs.Common.{◌≡◌, ◌+◌, vec_len}
use Rattle.std.specs.Prelude.{vec_capacity}
use Rattle.unit_threads.proofs.running.join_each.Given as goal

abbrev pub invariant-loop-started : goal.invariant-loop-started
invariant-loop-started g l = record {
  all : vec_len l.ended + vec_len l.threads ≡ vec_len l.initial.ended + vec_len l.initial.threads;
  capacity : vec_capacity l.ended ≡ vec_capacity l.initial.ended;
}

abbrev pub decreases-loop-started : goal.decreases-loop-started
decreases-loop-started g l = vec_len l.threads
