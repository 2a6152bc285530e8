use Rattle.std.proofs.Common.{◌≡◌, length}
use Rattle.live_lines.specs.Hearing.{AreFaultless}
use Rattle.live_lines.proofs.fleet.step_from.Given as goal

-- as many units, and without faults none comes
abbrev pub invariant-loop-offset : goal.invariant-loop-offset
invariant-loop-offset g l =
    (length l.members ≡ length l.fn.members) × (l.count ≡ length l.fn.members) × (AreFaultless l.fn.members → AreFaultless l.members)
