use Rattle.std.proofs.Common.{◌≡◌, ℕ, slice_get}
use Rattle.std.specs.Prelude.{IfSome}
use Rattle.watch_page.specs.Standing.{Heard, UnitsStand, WatchHeard, listed_as, units_told}
use Rattle.watch_page.proofs.standing.Standing.of.Given as goal

abbrev pub invariant-loop-number : goal.invariant-loop-number
invariant-loop-number l =
    (heard : ℕ → Heard) → ((place : ℕ) → IfSome (slice_get l.view.buses.now place) (WatchHeard (heard place)))
    → UnitsStand (λ u. listed_as l.view.ever.now l.view.picture.now.lanes (heard u.bus) u) (units_told heard l.view.buses.now l.number) l.standing
