use Rattle.std.proofs.Common.{ap}
use Rattle.can_frame.specs.declared.reading.Reading.TheVariants.{Frame}
use Rattle.bus_watch.proofs.Steps.{stands_for_addressless}
use Rattle.bus_watch.proofs.watch.Watch.take_away.Goals as goal

pub returns-in-Ok-clause-stands : goal.returns-in-Ok-clause-stands
returns-in-Ok-clause-stands c = stands_for_addressless c.args.self.now c.take.new.self c.args.name _ (ap Frame c.claim_frame-claim.ensures.frame) c.in-Ok.ensures.takes
