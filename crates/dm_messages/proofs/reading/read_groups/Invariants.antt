use Rattle.std.proofs.Common.{◌≡◌, ◌%◌, length}
use Rattle.dm_messages.specs.View.{codes_of_bytes}
use Rattle.dm_messages.specs.Refusals.{fault_of_groups}
use Rattle.dm_messages.proofs.Groups.{codes_onto}
use Rattle.dm_messages.proofs.reading.read_groups.Given as goal

-- the codes so far, with those of the rest, are those of all groups
abbrev pub invariant-loop-rest : goal.invariant-loop-rest
invariant-loop-rest l = record {
  read : codes_onto l.codes (codes_of_bytes l.rest) ≡ codes_of_bytes l.groups;
  fault : fault_of_groups l.rest ≡ fault_of_groups l.groups;
  whole : length l.rest % 4 ≡ 0;
}

abbrev pub decreases-loop-rest : goal.decreases-loop-rest
decreases-loop-rest l = length l.rest
