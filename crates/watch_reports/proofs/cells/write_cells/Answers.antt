use Rattle.std.proofs.Common.{[], ◌∷◌, ◌++◌}
use Rattle.std.specs.Prelude.{option_map}
use Rattle.watch_reports.specs.CsvCells.{code_cells, doubt_cells, number_cell, run_cells}
use Rattle.watch_reports.proofs.Writing.{cell_alone, cells_both}
use Rattle.watch_reports.proofs.cells.write_cells.Goals as goal

pub returns : goal.returns
returns g c =
    let v = g.W.Write.contents in
    let first = c.args.report.now in
    let numbered = c.write_number.new.report in
    let valued = c.write_values.new.report in
    let coded = c.write_code.new.report in
    let last = c.write_doubt.new.report in
    let of = c.args.of.now in
    let run = of.run.now in
    let code = code_cells (option_map (λ d. d.now) c.args.code) in
    cells_both v first numbered last (number_cell c.args.address ∷ []) (run_cells of.kind run ++ (code ++ doubt_cells run))
    (cell_alone v first numbered (number_cell c.args.address) c.write_number.ensures)
    (cells_both v numbered valued last (run_cells of.kind run) (code ++ doubt_cells run) c.write_values.ensures
    (cells_both v valued coded last code (doubt_cells run) c.write_code.ensures c.write_doubt.ensures))
