use Rattle.std.proofs.Common.{◌≡◌, take}
use Rattle.script_line.proofs.read.spells.Given as goal

-- the letters so far are the word's
abbrev pub invariant-loop-i : goal.invariant-loop-i
invariant-loop-i l = take l.i l.bytes ≡ take l.i l.letters
