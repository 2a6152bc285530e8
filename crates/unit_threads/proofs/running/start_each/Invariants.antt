use Rattle.std.proofs.Common.{◌≡◌, ◌+◌, ◌≤◌, vec_len}
use Rattle.std.specs.Prelude.{vec_capacity}
use Rattle.unit_threads.proofs.running.start_each.Given as goal

abbrev pub invariant-loop-unit : goal.invariant-loop-unit
invariant-loop-unit g l = record {
  few : vec_len l.units ≤ 64;
  all : vec_len l.threads + vec_len l.units ≡ vec_len l.initial.threads + vec_len l.initial.units;
  room : vec_len l.threads + vec_len l.units ≤ vec_capacity l.threads;
}

abbrev pub decreases-loop-unit : goal.decreases-loop-unit
decreases-loop-unit g l = vec_len l.units
