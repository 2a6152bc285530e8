use Rattle.std.proofs.Common.{take}
use Rattle.toml.specs.View.{items_view}
use Rattle.vehicle.specs.Holding.{EachHolds}
use Rattle.vehicle.specs.Fields.{HoldsValue}
use Rattle.vehicle.proofs.fields.numbers_of.Given as goal

abbrev pub invariant-loop-item : goal.invariant-loop-item
invariant-loop-item l = EachHolds (HoldsValue l.greatest) (items_view (take l.item-index l.items)) l.list.items
