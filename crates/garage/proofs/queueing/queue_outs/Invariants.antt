use Rattle.std.proofs.Common.{◌≡◌, ◌+◌, ◌<◌, ◌≤◌, ◌^◌, map, length}
use Rattle.bus_ledger.specs.BusValue.{spare_at, IsLive, seat_at}
use Rattle.journal.specs.Steps.{put_all, tagged}
use Rattle.garage.proofs.queueing.queue_outs.Given as goal

abbrev pub invariant-loop-piece : goal.invariant-loop-piece
invariant-loop-piece l = record {
  traffic : put_all l.seat (map (tagged l.numbering.begun l.numbering.is_session l.numbering.session) l.put) l.bus.traffic ≡ put_all l.seat (map (tagged l.numbering.begun l.numbering.is_session l.numbering.session) l.fn.put) l.fn.bus.traffic;
  spare : length l.put ≤ spare_at l.bus l.seat;
  live : IsLive l.bus.traffic l.seat;
  few : (seat_at l.bus.traffic l.seat).queued + length l.put < 2 ^ 32;
}

abbrev pub decreases-loop-piece : goal.decreases-loop-piece
decreases-loop-piece l = length l.put
