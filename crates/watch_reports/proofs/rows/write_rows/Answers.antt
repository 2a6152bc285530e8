use Rattle.watch_reports.proofs.CsvRows.{csv_written}
use Rattle.watch_reports.proofs.rows.write_rows.Goals as goal

pub returns : goal.returns
returns g c = λ b ts stand.
    csv_written g.W.Write.contents c.args.report.now c.write_head.new.report c.write_watches.new.report c.write_value_rows.new.report _ _ (rw c.are_each.ensures at c.write_head.ensures)
    (c.write_watches.ensures b ts stand) c.write_value_rows.ensures
