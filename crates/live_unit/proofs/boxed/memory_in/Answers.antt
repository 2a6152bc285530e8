use Rattle.std.proofs.Common.{◌≡◌, subst}
use Rattle.live_unit.proofs.boxed.memory_in.Goals as goal

pub returns : goal.returns
returns g c = subst (λ s. c.memory.result.now ≡ (goal.Unit-dyn g s).memory_of s.1) c.deref_box-1.ensures.1 c.memory.ensures
