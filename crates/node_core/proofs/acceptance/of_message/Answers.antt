use Rattle.node_core.proofs.Accepting.{accepts_message}
use Rattle.node_core.proofs.acceptance.of_message.Goals as goal

pub returns-then-dest-ne-GLOBAL_ADDRESS : goal.returns-then-dest-ne-GLOBAL_ADDRESS
returns-then-dest-ne-GLOBAL_ADDRESS c = accepts_message c.args.frame.now c.args.dest c.requires.group c.requires.dest
