use Rattle.std.proofs.Common.{◌≡◌}
use Rattle.watch_page.proofs.standing.Standing.count_lamps.Given as goal

abbrev pub invariant-loop-place : goal.invariant-loop-place
invariant-loop-place l = (l.self.list ≡ l.initial.self.list) × (l.self.all ≡ l.initial.self.all)
