use Rattle.std.proofs.Common.{◌<◌, take}
use Rattle.std.specs.Prelude.{All}
use Rattle.candump_line.proofs.logged.cut_at_space.Given as goal

-- only characters that are seen so far
abbrev pub invariant-loop-place : goal.invariant-loop-place
invariant-loop-place l = All (λ c. 32 < c) (take l.place l.text)
