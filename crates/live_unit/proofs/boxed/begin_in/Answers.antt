use Rattle.std.proofs.Common.{◌≡◌, Ok, subst, true}
use Rattle.live_unit.specs.Steps.{BeginsToAll, standing}
use Rattle.live_unit.proofs.boxed.begin_in.Goals as goal

pub returns-clause-begun : goal.returns-clause-begun
returns-clause-begun g c =
    let before = c.args.live.now in let after = c.begin.new.self in
    subst (λ s. c.begin.result ≡ Ok true → BeginsToAll c.args.kind (standing before.node ((goal.Unit-dyn g s).memory_of s.1) before.queue) (standing after.node ((goal.Unit-dyn g s).memory_of s.1) after.queue))
    c.deref_box-1.ensures.1 c.begin.ensures.begun
