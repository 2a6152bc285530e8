use Rattle.std.proofs.Common.{rules}
use Rattle.watch_reports.proofs.CsvUnits.{watch_more}
use Rattle.watch_reports.proofs.rows.write_watches.Goals as goal

pub loop-place-preserved : goal.loop-place-preserved
loop-place-preserved g c = λ b ts stand.
    watch_more _ b ts _ _ _ _ c.loop-place.place c.one-item.result (search rules) (search rules) stand (c.loop-place.invariant b ts stand) c.write_bus_rows.ensures
