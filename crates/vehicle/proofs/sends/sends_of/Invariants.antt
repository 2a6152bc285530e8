use Rattle.std.proofs.Common.{take}
use Rattle.toml.specs.View.{items_view}
use Rattle.vehicle.specs.Holding.{EachHolds}
use Rattle.vehicle.specs.Live.{HoldsSend}
use Rattle.vehicle.proofs.sends.sends_of.Given as goal

abbrev pub invariant-loop-item : goal.invariant-loop-item
invariant-loop-item l = EachHolds HoldsSend (items_view (take l.item-index l.items)) l.sends.items
