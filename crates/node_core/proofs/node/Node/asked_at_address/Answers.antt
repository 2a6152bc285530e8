use Rattle.std.proofs.Common.{rules, refl}
use Rattle.node_core.specs.Requested.{put_by}
use Rattle.node_core.proofs.Unasked.{left_alone}
use Rattle.node_core.proofs.node.Node.asked_at_address.Goals as goal

pub returns-in-Message-clause-asked : goal.returns-in-Message-clause-asked
returns-in-Message-clause-asked g c = left_alone c.args.unit.now c.asked_for_message.result ((goal.Unit-dyn g c.args.unit.now).Answers c.args.unit.now.1) (put_by c.args.wanted) (rw c.in-Message.is refl)

pub returns-in-Unsupported-clause-asked : goal.returns-in-Unsupported-clause-asked
returns-in-Unsupported-clause-asked g c = (c.args.unit.now.1, refl, search rules)
