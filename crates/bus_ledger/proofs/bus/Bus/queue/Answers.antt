use Rattle.std.proofs.Common.{ap, ◌∙◌, sym, subst, arith}
use Rattle.bus_ledger.specs.BusValue.{Traffic, IsLive, seat_at}
use Rattle.bus_ledger.specs.Changes.{queued, queued_frame}
use Rattle.bus_ledger.proofs.bus.Bus.queue.Goals as goal

pub queue_reserved-requires : goal.queue_reserved-requires
queue_reserved-requires c =
    let same = c.reserve.ensures.traffic in
    let count = ap (λ (t : Traffic). (seat_at t c.args.seat).queued) same in
    let few = c.requires.few in
    let room = c.in_ok-reserve.ensures.ok in
    record { live = subst (λ (t : Traffic). IsLive t c.args.seat) (sym same) c.requires.live; spare = omega arith; few = omega arith }

pub returns-clause-ok : goal.returns-clause-ok
returns-clause-ok c = c.queue_reserved.ensures.traffic ∙ ap (queued c.args.seat (queued_frame c.args.frame c.args.tag)) c.reserve.ensures.traffic

pub returns-clause-spare : goal.returns-clause-spare
returns-clause-spare c = let kept = c.reserve.ensures.spares c.args.seat in let one = c.queue_reserved.ensures.spare in omega arith

pub returns-clause-spares : goal.returns-clause-spares
returns-clause-spares c = λ k other. let kept = c.reserve.ensures.spares k in let more = c.queue_reserved.ensures.spares k other in omega arith
