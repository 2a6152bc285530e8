use Rattle.std.proofs.Common.{◌≡◌, List, slice_get}
use Rattle.bus_model.specs.Heard.{names_heard}
use Rattle.bus_watch.specs.Identified.{first_unit}
use Rattle.bus_watch.specs.Runs.{units_shown}
use Rattle.bus_watch.specs.Told.{StandsForAll, all_said, readings_said}
use Rattle.picture.specs.declared.unit.DrawnUnit.{DrawnUnit}
use Rattle.picture.specs.declared.unit.Sender.{Sender}
use Rattle.watch_page.specs.Standing.{Heard, UnitsStand, listed_as, named, unclaimed, unless_told, with_places}
use Rattle.watch_page.specs.declared.unit_list.Listed.{Listed}
use Rattle.watch_page.proofs.standing.Standing.add_unclaimed.Given as goal

abbrev pub invariant-loop-place : goal.invariant-loop-place
invariant-loop-place l =
    (h : Heard) (so : DrawnUnit → Listed) (units : List DrawnUnit) → StandsForAll h.began h.told l.watch
    → ((s : Sender) → so (record { bus = l.bus; sender = s }) ≡ listed_as l.view.ever.now l.view.picture.now.lanes h (record { bus = l.bus; sender = s }))
    → UnitsStand so units l.initial.self → UnitsStand so (with_places (λ k. unclaimed (slice_get (units_shown h.began.selection (all_said h.began h.told).moments) k)) l.bus l.place units) l.self
