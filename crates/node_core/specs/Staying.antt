-- A command to hold the address that is held (SAE J1939-81). A garage's unit hears it as any other, one on a real bus as no change.
use Rattle.std.specs.Prelude.{ℕ, Bool, false, Option, Some, None}
use Rattle.address_claim.specs.Claiming.{is_held}
use Rattle.parameter_group.specs.Group.{Group, DataTransfer}
use Rattle.requests.specs.declared.commanded.Commanded.{Commanded}
use Rattle.node_core.specs.NodeValue.{NodeValue}
use Rattle.node_core.specs.Reaction.{command_heard}

-- a command is to the address held
abbrev pub is_to_held : Option ℕ → Option Commanded → Bool
is_to_held held None = false
is_to_held held (Some command) = is_held held command.address

-- what is said makes whole a command for this NAME, to the address that it holds
abbrev pub is_commanded_to_stay : NodeValue → Group → Bool
is_commanded_to_stay node (DataTransfer source destination bytes) = is_to_held node.claimer.held (command_heard node source destination bytes)
is_commanded_to_stay node _ = false
