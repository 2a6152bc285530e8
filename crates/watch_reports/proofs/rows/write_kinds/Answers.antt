use Rattle.watch_reports.proofs.CsvRows.{rows_both}
use Rattle.watch_reports.proofs.rows.write_kinds.Goals as goal

pub returns : goal.returns
returns g c = λ b ts stands.
    rows_both _ _ _ _ _ _ (c.write_runs.ensures b ts stands) (rows_both _ _ _ _ _ _ (c.write_runs-2.ensures b ts stands) (c.write_runs-3.ensures b ts stands))
