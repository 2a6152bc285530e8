use Rattle.std.proofs.Common.{rules, refl}
use Rattle.node_core.proofs.node.Node.hear_packet.Goals as goal

pub returns-in_default-clause-asked : goal.returns-in_default-clause-asked
returns-in_default-clause-asked g c = (c.args.unit.now.1, refl, search rules)
