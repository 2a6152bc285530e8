use Rattle.std.proofs.Common.{Some, refl, subst}
use Rattle.vehicle.specs.Fields.{HoldsChecksumAt}
use Rattle.vehicle.proofs.fields.read_checksum.Goals as goal

pub returns-in-Ok : goal.returns-in-Ok
returns-in-Ok c = subst (λ o. HoldsChecksumAt o (Some c.in-Ok.bits)) c.in-Some.ensures (c.in-Ok.bits, refl, c.in-Ok.ensures)
