use Rattle.std.proofs.Common.{◌≡◌, ◌<◌, ◌≤◌, length}
use Rattle.picture.proofs.Places.{Redraws, there}
use Rattle.picture.proofs.track.join_within.Given as goal

abbrev pub invariant-loop-place : goal.invariant-loop-place
invariant-loop-place l =
    (l.last < l.place) × (length l.spans.items ≡ length l.initial.spans.items) × (l.place ≤ length l.spans.items) × Redraws l.initial.spans.items (there l.spans.items l.last l.place)
