use Rattle.std.proofs.Common.{◌≡◌, ◌++◌}
use Rattle.listener.specs.Broken.{noted_below}
use Rattle.listener.proofs.broken.BrokenMessages.note_from.Given as goal

-- those to the addresses below are noted
abbrev pub invariant-loop-dest : goal.invariant-loop-dest
invariant-loop-dest l =
    (l.self.suspects ≡ l.initial.self.suspects ++ noted_below l.ear l.source l.dest)
    × ((l.self.newest ≡ l.initial.self.newest) × (l.self.count ≡ l.initial.self.count))
