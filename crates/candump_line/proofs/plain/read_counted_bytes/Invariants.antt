use Rattle.std.proofs.Common.{◌≡◌, ℕ, ◌++◌, List, length, map, take}
use Rattle.can_frame.specs.FrameValue.{FrameValue}
use Rattle.candump_line.specs.Forms.{IsLongFrame}
use Rattle.candump_line.specs.LineText.{byte_digits}
use Rattle.candump_line.specs.Words.{words_left}
use Rattle.candump_line.proofs.BytesLemmas.{HasRead}
use Rattle.candump_line.proofs.plain.read_counted_bytes.Given as goal

-- the bytes so far are read, and the words of the others are left
abbrev pub invariant-loop-found : goal.invariant-loop-found
invariant-loop-found l = (f : FrameValue) (remarks : List (List ℕ)) → IsLongFrame f → l.count ≡ length f.bytes → words_left l.fn.words ≡ map byte_digits f.bytes ++ remarks
    → HasRead (words_left l.words) (take l.bytes.len l.bytes.room) f.bytes l.found remarks
