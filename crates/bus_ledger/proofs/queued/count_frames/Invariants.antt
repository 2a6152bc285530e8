use Rattle.std.proofs.Common.{◌≡◌, ◌+◌, length}
use Rattle.std.specs.VecDeque.Iter.{deque_iter_rest}
use Rattle.bus_ledger.specs.Places.{frames_in}
use Rattle.bus_ledger.proofs.queued.count_frames.Given as goal

abbrev pub invariant-loop-queued : goal.invariant-loop-queued
invariant-loop-queued l =
    (goal.iterator-loop-queued).can_next l.queued-iterator ×
    (goal.iterator-loop-queued).is_finite l.queued-iterator ×
    (l.count + length (frames_in (deque_iter_rest l.queued-iterator)) ≡ length (frames_in l.queue.items))
