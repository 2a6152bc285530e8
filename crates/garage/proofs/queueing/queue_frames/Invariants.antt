use Rattle.std.proofs.Common.{◌≡◌, ◌+◌, ◌≤◌, map, take, length}
use Rattle.bus_ledger.specs.BusValue.{spare_at, IsLive, seat_at}
use Rattle.journal.specs.Steps.{put_all, untagged}
use Rattle.garage.proofs.queueing.queue_frames.Given as goal

abbrev pub invariant-loop-frame : goal.invariant-loop-frame
invariant-loop-frame l = record {
  traffic : l.bus.traffic ≡ put_all l.seat (map untagged (take l.frame-index l.frames)) l.initial.bus.traffic;
  spare : length l.frames ≤ spare_at l.bus l.seat + l.frame-index;
  live : IsLive l.bus.traffic l.seat;
  count : (seat_at l.bus.traffic l.seat).queued ≡ (seat_at l.initial.bus.traffic l.seat).queued + l.frame-index;
}
