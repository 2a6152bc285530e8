use Rattle.std.proofs.Common.{ℕ, ◌<◌, ◌≤◌, List, length, take}
use denote.Text.{Utf8}
use denote.Shadow.{shadow}
use Rattle.std.specs.Prelude.{All}
use Rattle.candump_line.specs.Forms.{SpellsData}
use Rattle.candump_line.proofs.BytesLemmas.{LeavesBytes}
use Rattle.candump_line.proofs.word.read_bytes.Given as goal

-- the bytes so far are those before the points so far
abbrev pub invariant-loop-part : goal.invariant-loop-part
invariant-loop-part l = shadow (Utf8 l.rest) × ((bs : List ℕ) → All (λ b. b < 256) bs → length bs ≤ 8 → SpellsData l.word bs → LeavesBytes l.rest (take l.bytes.len l.bytes.room) bs)

abbrev pub decreases-loop-part : goal.decreases-loop-part
decreases-loop-part l = length l.rest
