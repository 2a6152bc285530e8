use Rattle.std.proofs.Common.{length, ◌-◌}
use Rattle.std.specs.Str.{IsCharBoundary}
use Rattle.script_line.specs.Line.{is_space}
use Rattle.script_line.proofs.WordLemmas.{IsRun, in_word}
use Rattle.script_line.proofs.words.Words.next_word.Given as goal

abbrev pub invariant-loop-start : goal.invariant-loop-start
invariant-loop-start l = record { cut : IsCharBoundary l.bytes l.start; spaces : IsRun is_space l.bytes 0 l.start }

abbrev pub decreases-loop-start : goal.decreases-loop-start
decreases-loop-start l = length l.bytes - l.start

abbrev pub invariant-loop-end : goal.invariant-loop-end
invariant-loop-end l = IsRun in_word l.bytes l.start l.end

abbrev pub decreases-loop-end : goal.decreases-loop-end
decreases-loop-end l = length l.bytes - l.end
