use Rattle.bus_watch.proofs.Steps.{opened_if_ok}
use Rattle.bus_watch.proofs.watch.Watch.open.Goals as goal

pub returns-clause-stands : goal.returns-clause-stands
returns-clause-stands c = opened_if_ok c.after_gaps.result _ c.after_gaps.ensures.heard c.after_gaps.ensures.value
