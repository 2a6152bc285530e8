use Rattle.watch_reports.proofs.CsvRows.{rows_of_these}
use Rattle.watch_reports.proofs.rows.write_runs.Goals as goal

pub returns : goal.returns
returns g c = λ b ts stands. rows_of_these _ _ _ _ _ _ (c.runs-runs.ensures.runs b ts stands) c.write_each_run.ensures
