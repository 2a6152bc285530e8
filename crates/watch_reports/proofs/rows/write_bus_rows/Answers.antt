use Rattle.std.proofs.Common.{◌≡◌, true, rules}
use Rattle.watch_reports.proofs.CsvUnits.{failed, place_more}
use Rattle.watch_reports.proofs.rows.write_bus_rows.Goals as goal

pub returns-then-has_failed : goal.returns-then-has_failed
returns-then-has_failed g c = λ b ts stands.
    let lost : c.loop-place.report.has_failed ≡ true = search rules in
    failed _ _ _ _ _ lost (c.loop-place.invariant b ts stands)

pub loop-place-preserved : goal.loop-place-preserved
loop-place-preserved g c = λ b ts stands.
    place_more _ b ts c.args.bus.now.one.now _ _ _ c.loop-place.place (c.loop-place.invariant b ts stands) (c.write_place.ensures b ts stands)
