use Rattle.std.proofs.Common.{◌≡◌, take}
use Rattle.dm_messages.specs.Tolerant.{codes_in}
use Rattle.dm_messages.proofs.tolerant.codes_of.Given as goal

-- the codes of the groups so far
abbrev pub invariant-loop-group : goal.invariant-loop-group
invariant-loop-group l = l.codes ≡ codes_in l.method (take l.group-index l.groups)
