use Rattle.std.proofs.Common.{◌≡◌, length, map, take}
use Rattle.can_frame.specs.FrameValue.{FrameValue}
use Rattle.candump_line.specs.LineText.{byte_digits, IsDataFrame}
use Rattle.candump_line.specs.Words.{words_left}
use Rattle.candump_line.proofs.BytesLemmas.{LeavesWords}
use Rattle.candump_line.proofs.plain.read_apart.Given as goal

-- the bytes so far are read, and the words of the others are left
abbrev pub invariant-loop-word : goal.invariant-loop-word
invariant-loop-word l = (f : FrameValue) → IsDataFrame f → words_left l.fn.words ≡ map byte_digits f.bytes → LeavesWords (words_left l.words) (take l.bytes.len l.bytes.room) f.bytes

abbrev pub decreases-loop-word : goal.decreases-loop-word
decreases-loop-word l = length (words_left l.words)
