use Rattle.std.proofs.Common.{◌≡◌, subst}
use Rattle.node_core.specs.declared.heard.Answer.TheVariants.{NotAsked}
use Rattle.live_unit.specs.Steps.{Aborts, standing}
use Rattle.live_unit.specs.declared.aborting.OwedAbort.{OwedAbort}
use Rattle.live_unit.proofs.Asking.{ended_same}
use Rattle.live_unit.proofs.Repeating.{lent_is}
use Rattle.live_unit.proofs.aborting.end_asked.Goals as goal

pub returns-clause-ends : goal.returns-clause-ends
returns-clause-ends c = λ s m e.
    let same : c.in-Some.sending.now ≡ s.sending = lent_is c.args.node.now.session s c.in-Some.sending.now c.in-Some.ensures e in
    subst (λ (o : OwedAbort). Aborts o NotAsked (standing c.args.node.now m c.args.queue.now) (standing c.abort.new.node m c.abort.new.queue))
    (ended_same c.ended_for-owed.result s c.in-Some.sending.now c.ended_for-owed.ensures same) (c.abort.ensures.aborts m)
