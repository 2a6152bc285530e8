use Rattle.unit_threads.proofs.Going.{goes_on_more, grown_turned}
use Rattle.unit_threads.proofs.shared.SharedGarage.turn.Goals as goal

pub invariant_of-self : goal.invariant_of-self
invariant_of-self g c = record { goes_on = goes_on_more _ _ _ c.args.self.now.goes_on (grown_turned c.one_turn.result c.args.parked.seat _ _ _ _ c.one_turn.ensures.ok c.one_turn.ensures.err) }
