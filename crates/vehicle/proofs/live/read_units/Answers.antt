use Rattle.std.proofs.Common.{rules, arith}
use Rattle.vehicle.proofs.UnitLemmas.{one_more}
use Rattle.vehicle.specs.Live.{HoldsLiveUnit}
use Rattle.vehicle.proofs.live.read_units.Goals as goal

pub loop-line-preserved : goal.loop-line-preserved
loop-line-preserved c =
    one_more HoldsLiveUnit c.args.lines.now c.loop-line.line-index c.line-item.result c.loop-line.units.items _ c.in_ok-read_unit.field-0 (omega arith)
    c.line-item.is c.loop-line.invariant c.in_ok-read_unit.ensures (search rules)
