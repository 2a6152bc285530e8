use Rattle.std.proofs.Common.{◌≡◌, rules, refl}
use Rattle.address_claim.specs.Claiming.{after_command}
use Rattle.node_core.proofs.node.Node.obey.Goals as goal

pub returns-clause-heard : goal.returns-clause-heard
returns-clause-heard c =
    let held : c.hold.new.self ≡ after_command c.args.address c.self.inside.claimer = search rules in
    rw (← c.self.view_is, c.claim_again.ensures.heard, held) refl

pub returns-clause-node : goal.returns-clause-node
returns-clause-node c =
    let held : c.hold.new.self ≡ after_command c.args.address c.self.inside.claimer = search rules in
    rw (← c.self.view_is, c.claim_again.ensures.node, held) refl
