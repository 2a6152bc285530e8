use Rattle.unit_threads.proofs.Going.{goes_on_more, grown_reading}
use Rattle.unit_threads.proofs.shared.SharedGarage.read.Goals as goal

pub invariant_of-self : goal.invariant_of-self
invariant_of-self g c = record { goes_on = goes_on_more _ _ _ c.args.self.now.goes_on (grown_reading c.one_read.result _ _ c.one_read.ensures.ok c.one_read.ensures.err) }
