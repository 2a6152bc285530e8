use Rattle.std.proofs.Common.{◌≡◌, reverse, length}
use Rattle.dm_words.specs.Identification.{behind_unused}
use Rattle.dm_words.proofs.identification.without_unused.Given as goal

abbrev pub invariant-loop-last : goal.invariant-loop-last
invariant-loop-last l = behind_unused (reverse l.rest) ≡ behind_unused (reverse l.bytes)

abbrev pub decreases-loop-last : goal.decreases-loop-last
decreases-loop-last l = length l.rest
