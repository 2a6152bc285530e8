use Rattle.std.proofs.Common.{arith, ap, sym, subst}
use Rattle.bus_ledger.specs.BusValue.{Traffic, IsLive, seat_at}
use Rattle.journal.specs.Steps.{untagged}
use Rattle.garage.proofs.Traffics.{put_more, IsLive-queued, own_queued}
use Rattle.garage.proofs.queueing.queue_frames.Goals as goal

pub loop-frame-preserved : goal.loop-frame-preserved
loop-frame-preserved c =
    let now = c.queue_reserved.ensures.traffic in
    let before = c.loop-frame.bus.traffic in
    let old = c.loop-frame.invariant in
    record {
      traffic = put_more untagged c.args.seat c.args.frames.now c.loop-frame.frame-index c.frame-item.result c.args.bus.now.traffic before c.queue_reserved.new.self.traffic c.loop-frame-test.true c.frame-item.is old.traffic now;
      spare = (let o = old.spare in let s = c.queue_reserved.ensures.spare in omega arith);
      live = subst (λ (t : Traffic). IsLive t c.args.seat) (sym now) (IsLive-queued before c.args.seat c.args.seat (untagged c.frame-item.result) old.live);
      count = (let o = own_queued before c.args.seat (untagged c.frame-item.result) old.live.0 in let n = ap (λ (t : Traffic). (seat_at t c.args.seat).queued) now in let m = old.count in omega arith);
    }
