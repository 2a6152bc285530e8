use Rattle.std.proofs.Common.{◌≡◌, subst}
use Rattle.live_unit.proofs.boxed.name_in.Goals as goal

pub returns : goal.returns
returns g c = subst (λ s. c.name.result ≡ (goal.Unit-dyn g s).name_of s.1) c.deref_box-1.ensures.1 c.name.ensures
