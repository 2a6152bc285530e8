use Rattle.std.proofs.Common.{take}
use Rattle.toml.specs.View.{items_view}
use Rattle.vehicle.specs.Holding.{EachHolds}
use Rattle.vehicle.specs.Fails.{HoldsFail}
use Rattle.vehicle.proofs.fails.fails_of.Given as goal

abbrev pub invariant-loop-item : goal.invariant-loop-item
invariant-loop-item l = EachHolds HoldsFail (items_view (take l.item-index l.items)) l.fails.items
