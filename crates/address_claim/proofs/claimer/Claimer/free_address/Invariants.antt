use Rattle.std.proofs.Common.{Some}
use Rattle.std.specs.Prelude.{slice_set}
use Rattle.address_claim.proofs.FreeAddress.{IsNoneFree}
use Rattle.address_claim.proofs.claimer.Claimer.free_address.Given as goal

abbrev pub invariant-loop-address : goal.invariant-loop-address
invariant-loop-address l = IsNoneFree l.self.name (slice_set l.self.noted l.source (Some l.name)) l.address
