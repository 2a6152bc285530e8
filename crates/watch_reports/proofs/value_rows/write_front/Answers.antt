use Rattle.std.proofs.Common.{rules}
use Rattle.watch_reports.proofs.CsvRows.{some_named, some_on_bus}
use Rattle.watch_reports.proofs.Writing.{some_both, some_text}
use Rattle.watch_reports.proofs.value_rows.write_front.Goals as goal

pub returns : goal.returns
returns g c = search (rules, some_both, some_text, some_named, some_on_bus)
