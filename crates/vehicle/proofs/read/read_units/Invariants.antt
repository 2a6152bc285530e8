use Rattle.std.proofs.Common.{take}
use Rattle.toml.specs.View.{items_view}
use Rattle.vehicle.specs.Holding.{HoldsUnits}
use Rattle.vehicle.proofs.read.read_units.Given as goal

abbrev pub invariant-loop-line : goal.invariant-loop-line
invariant-loop-line l = HoldsUnits (items_view (take l.line-index l.lines)) l.units.items
