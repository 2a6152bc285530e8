-- Which units a page lists: of each order the first.
use Rattle.std.specs.Prelude.{◌≡◌, ℕ, ◌+◌, ◌<◌, ◌==◌, min, List, [], ◌∷◌, ◌++◌, if◌then◌else◌, get_or, length, map, nat_lt}
use Rattle.picture.specs.declared.unit.DrawnUnit.{DrawnUnit}
use Rattle.watch_page.specs.declared.unit_list.Listed.{Listed}
use Rattle.watch_page.specs.declared.unit_list.TheConstants.{MOST_LISTED, ORDERS}
use Rattle.watch_page.specs.declared.unit_list.UnitList.{UnitList}

-- how many of these units are of an order, where each is listed so
abbrev pub of_order : (DrawnUnit → Listed) → ℕ → List DrawnUnit → ℕ
of_order so order [] = 0
of_order so order (u ∷ us) = if (so u).order == order then of_order so order us + 1 else of_order so order us

-- of units, the newest first, those that are listed, in their order: each before which fewer than may be listed are of its order
abbrev pub listed_among : (DrawnUnit → Listed) → List DrawnUnit → List DrawnUnit
listed_among so [] = []
listed_among so (u ∷ before) = if nat_lt (of_order so (so u).order before) MOST_LISTED then listed_among so before ++ u ∷ [] else listed_among so before

-- a list that was given these units, the newest first
pub record Lists (so : DrawnUnit → Listed) (units : List DrawnUnit) (list : UnitList) : Type 0 where
  pub items : list.listed.items ≡ map so (listed_among so units)
  pub room : length list.counts ≡ ORDERS
  pub counts : (order : ℕ) → order < ORDERS → get_or list.counts order 0 ≡ min (of_order so order units) MOST_LISTED
