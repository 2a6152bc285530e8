use Rattle.std.proofs.Common.{ap, ◌∙◌}
use Rattle.garage.proofs.Lent.{lent}
use Rattle.garage.proofs.plug.Parked.think.Goals as goal

pub returns-clause-name : goal.returns-clause-name
returns-clause-name g c = c.think.ensures.0 ∙ ap (λ s. (goal.Unit-dyn g s).name_of s.1) c.deref_box_mut-1.ensures.value.1

pub returns-clause-works : goal.returns-clause-works
returns-clause-works g c =
    lent (λ i x y. (goal.Unit-dyn g (i, x)).Works x y) c.args.self.now.unit c.deref_box_mut-1.result.now c.think.new.self c.deref_box_mut-1.ensures.value.1 c.think.ensures.1
