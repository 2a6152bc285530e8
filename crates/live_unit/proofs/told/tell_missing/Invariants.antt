use Rattle.std.proofs.Common.{◌≡◌, ◌++◌, length, map}
use Rattle.live_unit.specs.Telling.{not_among, told_until}
use Rattle.live_unit.proofs.told.tell_missing.Given as goal

-- the changes so far, with those of the rest, are those of all
abbrev pub invariant-loop-code : goal.invariant-loop-code
invariant-loop-code l =
    l.changes.items ++ map (told_until l.from) (not_among l.those l.rest) ≡ l.initial.changes.items ++ map (told_until l.from) (not_among l.those l.these)

abbrev pub decreases-loop-code : goal.decreases-loop-code
decreases-loop-code l = length l.rest
