use Rattle.std.proofs.Common.{rules, arith}
use Rattle.vehicle.proofs.UnitLemmas.{one_more}
use Rattle.vehicle.specs.Fails.{HoldsFail}
use Rattle.vehicle.proofs.fails.fails_of.Goals as goal

pub loop-item-preserved : goal.loop-item-preserved
loop-item-preserved c =
    one_more HoldsFail c.args.items.now c.loop-item.item-index c.item-item.result c.loop-item.fails.items _ c.in_ok-read_fail_of.field-0 (omega arith)
    c.item-item.is c.loop-item.invariant c.in_ok-read_fail_of.ensures (search rules)
