use Rattle.bus_model.proofs.Runs.{each_way, each_way_run, after_takeover, takeover_run}
use Rattle.bus_model.proofs.Two.{at_second, at_second_run, contest, contest_run}
use Rattle.bus_model.proofs.machine_is_not_empty.Goals as goal

pub returns-clause-each_way : goal.returns-clause-each_way
returns-clause-each_way c = (each_way, each_way_run.0, each_way_run.1, each_way_run.2)

pub returns-clause-after_takeover : goal.returns-clause-after_takeover
returns-clause-after_takeover c = (after_takeover, takeover_run.0, takeover_run.1, takeover_run.2)

pub returns-clause-at_second_alone : goal.returns-clause-at_second_alone
returns-clause-at_second_alone c = (at_second, at_second_run.0, at_second_run.1, at_second_run.2)

pub returns-clause-contested : goal.returns-clause-contested
returns-clause-contested c = (contest, contest_run.0, contest_run.1, contest_run.2)
