-- One place of a watch more.
use Rattle.std.proofs.Common.{◌≡◌, ℕ, ◌+◌, List, Option, suc, refl, arith}
use Rattle.std.specs.Prelude.{Some, slice_get}
use Rattle.bus_watch.specs.declared.buses.BusWatch.{BusWatch}
use Rattle.picture.specs.declared.unit.DrawnUnit.{DrawnUnit}
use Rattle.picture.specs.declared.unit.Sender.{Sender}
use Rattle.watch_page.specs.Standing.{Heard, UnitsStand, units_beside, units_on, units_told, with_places, with_sender}
use Rattle.watch_page.specs.declared.standing.Standing.{Standing}
use Rattle.watch_page.specs.declared.unit_list.Listed.{Listed}

pub place_more : (at : ℕ → Option Sender) (bus place : ℕ) (s : Option Sender) (so : DrawnUnit → Listed) (units : List DrawnUnit) (new : Standing) → s ≡ at place
    → UnitsStand so (with_sender bus s (with_places at bus place units)) new → UnitsStand so (with_places at bus (place + 1) units) new
place_more at bus place s so units new e h = let next : place + 1 ≡ suc place = omega arith in rw (next, ← e) h

-- one bus more
pub bus_more : (heard : ℕ → Heard) (buses : List BusWatch) (bus : ℕ) (one : BusWatch) (so : DrawnUnit → Listed) (new : Standing) → slice_get buses bus ≡ Some one
    → UnitsStand so (units_on bus (heard bus) one.watch.identified.kept (units_told heard buses bus)) new → UnitsStand so (units_told heard buses (bus + 1)) new
bus_more heard buses bus one so new e h = let next : bus + 1 ≡ suc bus = omega arith in rw (next, e) h
