use Rattle.std.proofs.Common.{ℕ, ◌≡◌, ◌≤◌, ◌<◌, nat_le, length}
use Rattle.std.specs.List.{All}
use Rattle.live_station.proofs.loss.next_of_all.Given as goal

-- what holds of the rest holds of all, before the time so far
abbrev pub invariant-loop-watch : goal.invariant-loop-watch
invariant-loop-watch l =
    (l.now ≤ l.next)
    × ((t : ℕ) → l.now ≤ t → t < l.next → All (λ w. nat_le w.until t ≡ nat_le w.until l.now) l.rest → All (λ w. nat_le w.until t ≡ nat_le w.until l.now) l.watches)

abbrev pub decreases-loop-watch : goal.decreases-loop-watch
decreases-loop-watch l = length l.rest
