use Rattle.std.proofs.Common.{ℕ, ◌≤◌, length}
use Rattle.std.specs.List.{All}
use Rattle.live_unit.specs.Telling.{EndsBy}
use Rattle.live_unit.proofs.told.first_over.Given as goal

-- what holds of the rest holds of all
abbrev pub invariant-loop-change : goal.invariant-loop-change
invariant-loop-change l = (r : ℕ) → r ≤ l.first → All (EndsBy l.now r) l.rest → All (EndsBy l.now r) l.changes

abbrev pub decreases-loop-change : goal.decreases-loop-change
decreases-loop-change l = length l.rest
