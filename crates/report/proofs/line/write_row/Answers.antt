use Rattle.std.specs.Prelude.{codes}
use Rattle.std.specs.Fmt.{decimal}
use Rattle.name_field.specs.NameText.{name_text}
use Rattle.report.specs.Text.{address_text, newest_text, right, line_end}
use Rattle.report.proofs.Appending.{appends_six, columns}
use Rattle.report.proofs.line.write_row.Goals as goal

pub returns : goal.returns
returns g c =
    let row = c.args.row.now in
    appends_six _ _ _ _ _ _ _ _ _ _ _ _ _ _ c.in_ok-write_name.ensures c.in_ok-write_address.ensures c.in_ok-write_count.ensures
    c.in_ok-write_count-2.ensures c.in_ok-write_count-3.ensures c.in_ok-write_newest.ensures
    (columns (name_text row.name) (address_text row.address) (right 6 (decimal row.dm1)) (right 6 (decimal row.dm2)) (right 6 (decimal row.dm6)) (newest_text row.newest) (codes " ") line_end)
