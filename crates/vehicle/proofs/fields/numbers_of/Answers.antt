use Rattle.std.proofs.Common.{rules, arith}
use Rattle.vehicle.proofs.UnitLemmas.{one_more}
use Rattle.vehicle.specs.Fields.{HoldsValue}
use Rattle.vehicle.proofs.fields.numbers_of.Goals as goal

pub loop-item-preserved : goal.loop-item-preserved
loop-item-preserved c =
    one_more (HoldsValue c.args.greatest) c.args.items.now c.loop-item.item-index c.item-item.result c.loop-item.list.items _ c.in_ok-number_in-in-Some.field-0 (omega arith)
    c.item-item.is c.loop-item.invariant (search rules) (search rules)
