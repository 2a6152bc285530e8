use Rattle.std.proofs.Common.{◌≡◌, subst, IfOk, OnOk}
use Rattle.node_core.specs.Asking.{IsAsked}
use Rattle.node_core.specs.Reaction.{question}
use Rattle.live_unit.specs.Steps.{HasHeardFrame, clock_heard, standing}
use Rattle.live_unit.proofs.Lent.{given_back_on_err, lent_if_ok}
use Rattle.live_unit.proofs.boxed.hear_in.Goals as goal

pub returns-clause-heard : goal.returns-clause-heard
returns-clause-heard g c =
    let q = c.deref_box_mut-1.result.now in let before = c.args.live.now in let after = c.hear.new.self in
    let memory' = (goal.Unit-dyn g q).memory_of c.hear.new.unit in
    subst (λ s. IfOk c.hear.result (λ a. HasHeardFrame c.args.frame.now before.clock.asked a (standing before.node ((goal.Unit-dyn g s).memory_of s.1) before.queue) (standing after.node memory' after.queue)))
    c.deref_box_mut-1.ensures.value.1 c.hear.ensures.heard

pub returns-clause-clock : goal.returns-clause-clock
returns-clause-clock g c =
    let before = c.args.live.now in let after = c.hear.new.self in
    subst (λ s. OnOk c.hear.result (after.clock ≡ clock_heard c.args.frame.now ((goal.Unit-dyn g s).name_of s.1) c.args.now before.node before.queue after.node after.queue before.clock))
    c.deref_box_mut-1.ensures.value.1 c.hear.ensures.clock

pub returns-clause-asked : goal.returns-clause-asked
returns-clause-asked g c =
    lent_if_ok c.hear.result (λ a i x y. IsAsked ((goal.Unit-dyn g (i, x)).Answers x) (question c.args.live.now.node c.args.frame.now) a x y)
    c.args.unit.now c.deref_box_mut-1.result.now c.hear.new.unit c.deref_box_mut-1.ensures.value.1 c.hear.ensures.asked

pub returns-clause-unasked : goal.returns-clause-unasked
returns-clause-unasked g c =
    given_back_on_err c.hear.result c.args.unit.now c.deref_box_mut-1.result.now c.hear.new.unit c.deref_box_mut-1.ensures.value.1 c.hear.ensures.unasked
