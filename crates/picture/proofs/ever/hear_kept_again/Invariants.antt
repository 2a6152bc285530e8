use Rattle.std.proofs.Common.{◌≡◌, ◌<◌, ◌≤◌, ℕ, length, get_or}
use Rattle.picture.specs.Ever.{GoesOnAgain}
use Rattle.picture.specs.declared.ever.EverCode.{EverCode}
use Rattle.picture.proofs.ever.hear_kept_again.Given as goal

abbrev pub invariant-loop-place : goal.invariant-loop-place
invariant-loop-place l =
    (length l.kept.items ≡ length l.initial.kept.items)
    × ((k : ℕ) (d : EverCode) → k < l.place → GoesOnAgain l.time (get_or l.initial.kept.items k d) (get_or l.kept.items k d))
    × ((k : ℕ) (d : EverCode) → l.place ≤ k → get_or l.kept.items k d ≡ get_or l.initial.kept.items k d)
