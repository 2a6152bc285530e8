use Rattle.std.proofs.Common.{ℕ, ◌≡◌, ◌<◌, ◌≤◌, length, get_or}
use Rattle.live_lines.specs.Hearing.{HasBeenTold}
use Rattle.live_lines.proofs.fleet.hear_all.Given as goal

-- those before the index were told of the frame, those from it on are as they were
abbrev pub invariant-loop-place : goal.invariant-loop-place
invariant-loop-place g l =
    (length l.members ≡ length l.initial.members)
    × (l.frame ≡ l.fn.frame)
    × (l.initial.members ≡ l.fn.members)
    × ((k : ℕ) (d : _) → k < l.place → HasBeenTold l.frame (get_or l.initial.members k d) (get_or l.members k d)
    (λ m. (goal.Unit-dyn g (m.unit.unit.vtable, m.unit.unit.value)).memory_of m.unit.unit.value))
    × ((k : ℕ) (d : _) → l.place ≤ k → get_or l.members k d ≡ get_or l.initial.members k d)
