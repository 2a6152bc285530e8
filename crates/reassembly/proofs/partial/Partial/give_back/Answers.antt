use Rattle.reassembly.proofs.PartialLemmas.{given_there}
use Rattle.reassembly.proofs.partial.Partial.give_back.Goals as goal

pub invariant_of-self : goal.invariant_of-self
invariant_of-self g c = given_there c.self.inside.assembly c.give_back.new.self c.self.invariant (rw (← c.self.view_is) at c.requires) c.give_back.ensures
