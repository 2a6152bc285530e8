use Rattle.std.proofs.Common.{◌≡◌, length}
use Rattle.dm_messages.specs.Refusals.{fault_of_groups}
use Rattle.dm_messages.proofs.reading.first_fault.Given as goal

-- no group so far had a fault
abbrev pub invariant-loop-rest : goal.invariant-loop-rest
invariant-loop-rest l = fault_of_groups l.rest ≡ fault_of_groups l.groups

abbrev pub decreases-loop-rest : goal.decreases-loop-rest
decreases-loop-rest l = length l.rest
