use Rattle.std.proofs.Common.{rules, arith}
use Rattle.vehicle.proofs.UnitLemmas.{one_more}
use Rattle.vehicle.specs.Fields.{HoldsField}
use Rattle.vehicle.proofs.fields.fields_of.Goals as goal

pub loop-item-preserved : goal.loop-item-preserved
loop-item-preserved c =
    one_more HoldsField c.args.items.now c.loop-item.item-index c.item-item.result c.loop-item.fields.items _ c.in_ok-read_field.field-0 (omega arith)
    c.item-item.is c.loop-item.invariant c.in_ok-read_field.ensures (search rules)
