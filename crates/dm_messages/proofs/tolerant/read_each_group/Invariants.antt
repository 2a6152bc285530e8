use Rattle.std.proofs.Common.{◌≡◌, ◌++◌, length}
use Rattle.dm_messages.specs.Tolerant.{groups_of}
use Rattle.dm_messages.proofs.tolerant.read_each_group.Given as goal

-- the groups so far, with those of the rest, are all groups
abbrev pub invariant-loop-rest : goal.invariant-loop-rest
invariant-loop-rest l = l.groups ++ groups_of l.rest ≡ groups_of l.bytes

abbrev pub decreases-loop-rest : goal.decreases-loop-rest
decreases-loop-rest l = length l.rest
