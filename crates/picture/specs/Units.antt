-- Which units are the same.
use Rattle.std.specs.Prelude.{Bool}
use Rattle.std.specs.Ordering.{eq_by_cmp}
use Rattle.picture.specs.contracts.unit.DrawnUnitOrd.TheImpl as order
use Rattle.picture.specs.contracts.unit.DrawnUnitPartialEq.TheImpl as equality
use Rattle.picture.specs.declared.unit.DrawnUnit.{DrawnUnit}

abbrev pub same_unit : DrawnUnit → DrawnUnit → Bool
same_unit = (equality.ghosts).eq

-- the same, of keys in order
abbrev pub same_drawn_key : DrawnUnit → DrawnUnit → Bool
same_drawn_key = eq_by_cmp (order.ghosts).cmp
