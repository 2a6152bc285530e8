use Rattle.bus_model.proofs.OverheardRuns.{aborted, aborted_run, overheard_run}
use Rattle.bus_model.proofs.Runs.{each_way}
use Rattle.bus_model.proofs.listener.listeners_law_is_not_empty.Goals as goal

pub returns-clause-each_way : goal.returns-clause-each_way
returns-clause-each_way c = (each_way, overheard_run.0, overheard_run.1, overheard_run.2)

pub returns-clause-aborted : goal.returns-clause-aborted
returns-clause-aborted c = (aborted, aborted_run.0, aborted_run.1, aborted_run.2)
