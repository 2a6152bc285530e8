use Rattle.std.proofs.Common.{rules, arith}
use Rattle.vehicle.proofs.UnitLemmas.{one_more}
use Rattle.vehicle.specs.Holding.{HoldsUnit}
use Rattle.vehicle.proofs.read.read_units.Goals as goal

pub loop-line-preserved : goal.loop-line-preserved
loop-line-preserved c =
    one_more HoldsUnit c.args.lines.now c.loop-line.line-index c.line-item.result c.loop-line.units.items _ c.in-Ok.unit (omega arith)
    c.line-item.is c.loop-line.invariant c.in-Ok.ensures (search rules)
