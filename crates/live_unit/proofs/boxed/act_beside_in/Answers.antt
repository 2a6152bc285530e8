use Rattle.std.proofs.Common.{◌≡◌, true, false, Ok, IfOk, subst}
use Rattle.live_unit.specs.Beside.{is_silent}
use Rattle.live_unit.specs.Steps.{Acts, standing}
use Rattle.live_unit.specs.declared.node.Act.TheVariants as act
use Rattle.live_unit.proofs.boxed.act_beside_in.Goals as goal

pub returns-clause-silent : goal.returns-clause-silent
returns-clause-silent g c =
    let before = c.args.live.now in let after = c.act_beside.new.self in
    subst (λ s. is_silent before.clock c.args.now before.node ((goal.Unit-dyn g s).memory_of s.1) before.queue ≡ true → (c.act_beside.result ≡ Ok act.Nothing) × (after.node ≡ before.node) × (after.queue ≡ before.queue) × (after.clock ≡ before.clock))
    c.deref_box-1.ensures.1 c.act_beside.ensures.silent

pub returns-clause-acts : goal.returns-clause-acts
returns-clause-acts g c =
    let before = c.args.live.now in let after = c.act_beside.new.self in
    subst (λ s. is_silent before.clock c.args.now before.node ((goal.Unit-dyn g s).memory_of s.1) before.queue ≡ false → IfOk c.act_beside.result (λ a. Acts before.settings c.args.now ((goal.Unit-dyn g s).wants s.1) a (standing before.node ((goal.Unit-dyn g s).memory_of s.1) before.queue) before.clock (standing after.node ((goal.Unit-dyn g s).memory_of s.1) after.queue) after.clock))
    c.deref_box-1.ensures.1 c.act_beside.ensures.acts
