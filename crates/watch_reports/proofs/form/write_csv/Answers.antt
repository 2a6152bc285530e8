use Rattle.std.proofs.Common.{rules}
use Rattle.watch_reports.proofs.CsvRows.{csv_told}
use Rattle.watch_reports.proofs.form.write_csv.Goals as goal

pub returns : goal.returns
returns g c = λ b ts stand.
    let wrote = c.write_rows.ensures b ts stand in
    let same = wrote.is.0 in
    csv_told g.W.Write.contents c.new-report.result c.write_rows.new.report _ _ c.end.result c.args.writer.now _ (search rules) (search (rules, same)) c.end.ensures.ok wrote
