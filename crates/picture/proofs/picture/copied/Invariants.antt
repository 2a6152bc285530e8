use Rattle.std.proofs.Common.{◌≡◌, take}
use Rattle.picture.proofs.picture.copied.Given as goal

abbrev pub invariant-loop-lane : goal.invariant-loop-lane
invariant-loop-lane l = l.copies.items ≡ take l.lane-index l.lanes
