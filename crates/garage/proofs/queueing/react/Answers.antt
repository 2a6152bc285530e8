use Rattle.std.proofs.Common.{arith, ap, sym, subst, length}
use Rattle.bus_ledger.specs.BusValue.{Traffic, IsLive, seat_at}
use Rattle.garage.proofs.Traffics.{keeps_withdrawn_if, live_kept}
use Rattle.garage.proofs.queueing.react.Goals as goal

pub queue_frames-requires : goal.queue_frames-requires
queue_frames-requires c =
    let t = c.args.bus.now.traffic in
    let y = c.args.station in
    let keeps = keeps_withdrawn_if c.args.reaction.now.withdraw y t in
    let now = c.withdraw_if.ensures.traffic in
    let q = ap (λ (u : Traffic). (seat_at u y).queued) now in
    let same = keeps.queued y in
    let few = c.requires.few in
    let put = ap length c.as_slice.ensures in
    record {
      live = subst (λ (u : Traffic). IsLive u y) (sym now) (live_kept t _ y keeps c.requires.live);
      spare = (let s = c.requires.spare in let r = c.withdraw_if.ensures.spare in omega arith);
      few = omega arith;
    }
