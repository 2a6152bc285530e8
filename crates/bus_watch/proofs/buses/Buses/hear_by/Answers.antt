use Rattle.bus_watch.proofs.ManyBuses.{none_told_on}
use Rattle.bus_watch.proofs.buses.Buses.hear_by.Goals as goal

pub returns-in-One-clause-err : goal.returns-in-One-clause-err
returns-in-One-clause-err c = none_told_on c.hear_at.result _ _ _ _ c.hear_at.ensures.err
