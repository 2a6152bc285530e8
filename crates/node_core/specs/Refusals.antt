use Rattle.std.specs.Prelude.{ℕ}
use Rattle.node_core.specs.declared.error.NodeError.{NodeError}
use Rattle.node_core.specs.declared.error.NodeError.TheVariants.{OutOfMemory, Unclaimed}

-- the number of each refusal
abbrev pub node_error_number : NodeError → ℕ
node_error_number OutOfMemory = 0
node_error_number Unclaimed = 26
