use Rattle.watch_reports.proofs.CsvRows.{unclaimed_written}
use Rattle.watch_reports.proofs.cells.write_unclaimed.Goals as goal

pub returns : goal.returns
returns g c =
    unclaimed_written g.W.Write.contents c.args.report.now c.write_address.new.report c.write_since.new.report c.text.new.self c.args.address c.args.gaps
    c.unclaimed_words.result.now c.write_address.ensures c.write_since.ensures c.text.ensures
