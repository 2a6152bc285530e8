use Rattle.std.proofs.Common.{rules, arith}
use Rattle.vehicle.proofs.UnitLemmas.{one_more}
use Rattle.vehicle.specs.Live.{HoldsCode}
use Rattle.vehicle.proofs.codes.codes_of.Goals as goal

pub loop-item-preserved : goal.loop-item-preserved
loop-item-preserved c =
    one_more HoldsCode c.args.items.now c.loop-item.item-index c.item-item.result c.loop-item.codes.items _ c.in-Ok.code (omega arith)
    c.item-item.is c.loop-item.invariant c.in-Ok.ensures (search rules)
