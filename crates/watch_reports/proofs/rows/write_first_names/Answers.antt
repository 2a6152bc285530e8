use Rattle.watch_reports.specs.CsvRows.{first_names}
use Rattle.watch_reports.proofs.Writing.{both}
use Rattle.watch_reports.proofs.rows.write_first_names.Goals as goal

pub returns : goal.returns
unfolding first_names
returns g c = both g.W.Write.contents c.args.report.now c.text.new.self c.write_bus_name.new.report _ _ c.text.ensures c.write_bus_name.ensures
