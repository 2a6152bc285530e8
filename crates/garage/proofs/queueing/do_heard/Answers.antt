use Rattle.std.proofs.Common.{arith, sym, subst}
use Rattle.bus_ledger.specs.BusValue.{Traffic, IsLive}
use Rattle.garage.proofs.Traffics.{Keeps, keeps_heard, keeps_withdrawn_by, keeps_then, live_kept}
use Rattle.garage.proofs.queueing.do_heard.Goals as goal

pub withdraw_by-requires : goal.withdraw_by-requires
withdraw_by-requires c =
    let t = c.args.bus.now.traffic in
    subst (λ (u : Traffic). IsLive u c.args.seat) (sym c.mark_heard.ensures.traffic) (live_kept t _ c.args.seat (keeps_heard t c.args.seat 1) (c.requires.unit.1, c.requires.unit.2))

pub queue_outs-requires : goal.queue_outs-requires
queue_outs-requires c =
    let t = c.args.bus.now.traffic in
    let mid = c.mark_heard.new.self.traffic in
    let one = subst (λ (u : Traffic). Keeps t u) (sym c.mark_heard.ensures.traffic) (keeps_heard t c.args.seat 1) in
    let two = subst (λ (u : Traffic). Keeps mid u) (sym c.withdraw_by.ensures.traffic) (keeps_withdrawn_by c.args.seat c.args.heard.withdraw mid) in
    let keeps = keeps_then t mid _ one two in
    let same = keeps.queued c.args.seat in
    let few = c.requires.few in
    record {
      live = live_kept t _ c.args.seat keeps (c.requires.unit.1, c.requires.unit.2);
      spare = (let s = c.requires.spare in let r = c.withdraw_by.ensures.spare in let m = c.mark_heard.ensures.spares c.args.seat in omega arith);
      few = omega arith;
    }
