use Rattle.std.proofs.Common.{take}
use Rattle.toml.specs.View.{items_view}
use Rattle.vehicle.specs.Holding.{EachHolds}
use Rattle.vehicle.specs.Live.{HoldsLiveUnit}
use Rattle.vehicle.proofs.live.read_units.Given as goal

abbrev pub invariant-loop-line : goal.invariant-loop-line
invariant-loop-line l = EachHolds HoldsLiveUnit (items_view (take l.line-index l.lines)) l.units.items
