use Rattle.std.proofs.Common.{◌≡◌, ◌≤◌, length}
use Rattle.script_line.specs.Bytes.{EndsWord}
use Rattle.script_line.proofs.ByteLemmas.{SoFar}
use Rattle.script_line.proofs.frames.read_bytes.Given as goal

-- what is left begins with a space, and the bytes before it are kept
abbrev pub invariant-loop-rest : goal.invariant-loop-rest
invariant-loop-rest l = record { count : l.count ≤ 9; room : length l.bytes ≡ 9; apart : EndsWord l.rest; kept : SoFar l.words l.rest l.bytes l.count }

abbrev pub decreases-loop-rest : goal.decreases-loop-rest
decreases-loop-rest l = length l.rest
