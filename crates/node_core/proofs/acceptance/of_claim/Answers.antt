use Rattle.std.proofs.Common.{sym}
use Rattle.node_core.proofs.Accepting.{accepts_claim}
use Rattle.node_core.proofs.acceptance.of_claim.Goals as goal

pub returns-in-AddressClaimed : goal.returns-in-AddressClaimed
returns-in-AddressClaimed c = accepts_claim c.args.frame.now c.in-AddressClaimed.source c.in-AddressClaimed.name (sym c.in-AddressClaimed.ensures.value)
