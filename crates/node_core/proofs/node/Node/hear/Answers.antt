use Rattle.std.proofs.Common.{rules, refl}
use Rattle.node_core.proofs.node.Node.hear.Goals as goal

pub returns-in_ok-hear_claim-in-AddressClaimed-clause-asked :
    goal.returns-in_ok-hear_claim-in-AddressClaimed-clause-asked
returns-in_ok-hear_claim-in-AddressClaimed-clause-asked g c = (c.args.unit.now.1, refl, search rules)

pub returns-in-Request-clause-asked : goal.returns-in-Request-clause-asked
returns-in-Request-clause-asked g c = rw (← c.in-Request.ensures.value) c.hear_request.ensures.asked

pub returns-in_ok-hear_control-in-ConnectionManagement-clause-asked :
    goal.returns-in_ok-hear_control-in-ConnectionManagement-clause-asked
returns-in_ok-hear_control-in-ConnectionManagement-clause-asked g c = (c.args.unit.now.1, refl, search rules)

pub returns-in-CannotClaim-clause-asked : goal.returns-in-CannotClaim-clause-asked
returns-in-CannotClaim-clause-asked g c = (c.args.unit.now.1, refl, search rules)
