use Rattle.std.proofs.Common.{take}
use Rattle.toml.specs.View.{items_view}
use Rattle.vehicle.specs.Holding.{EachHolds}
use Rattle.vehicle.specs.Fields.{HoldsField}
use Rattle.vehicle.proofs.fields.fields_of.Given as goal

abbrev pub invariant-loop-item : goal.invariant-loop-item
invariant-loop-item l = EachHolds HoldsField (items_view (take l.item-index l.items)) l.fields.items
