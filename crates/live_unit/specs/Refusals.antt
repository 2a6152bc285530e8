use Rattle.node_core.specs.declared.error.NodeError.{NodeError}
use Rattle.node_core.specs.declared.error.NodeError.TheVariants as node
use Rattle.live_unit.specs.declared.error.LiveError.{LiveError}
use Rattle.live_unit.specs.declared.error.LiveError.TheVariants.{OutOfMemory, Unclaimed}

-- a refusal of the node's, as the unit's
abbrev pub live_error_of : NodeError → LiveError
live_error_of node.OutOfMemory = OutOfMemory
live_error_of node.Unclaimed = Unclaimed
