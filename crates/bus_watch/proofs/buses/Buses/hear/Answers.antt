use Rattle.bus_watch.proofs.ManyBuses.{none_heard_on}
use Rattle.bus_watch.proofs.buses.Buses.hear.Goals as goal

pub returns-in_err-hearers-clause-err : goal.returns-in_err-hearers-clause-err
returns-in_err-hearers-clause-err c = none_heard_on c.from_residual.result _ _ _ c.in_err-hearers.ensures.err
