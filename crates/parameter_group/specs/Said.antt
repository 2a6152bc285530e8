-- What the program's answer says, in the words of the definition.
use Rattle.std.specs.Prelude.{◌<◌}
use Rattle.can_frame.specs.declared.address.TheConstants.{NULL_ADDRESS}
use Rattle.transport.specs.ControlMessage.{HasLawfulSize}
use Rattle.parameter_group.specs.Group as group
use Rattle.parameter_group.specs.Group.{Group}
use Rattle.parameter_group.specs.declared.ParameterGroup.{ParameterGroup}
use Rattle.parameter_group.specs.declared.ParameterGroup.TheVariants.{AddressClaimed, CannotClaim, Request, Acknowledgment, Diagnostic, ConnectionManagement, DataTransfer, Other}

-- the group that is said
abbrev pub said : ParameterGroup → Group
said (AddressClaimed source name) = group.AddressClaimed source name
said (CannotClaim name) = group.CannotClaim name
said (Request r) = group.Request r.pgn r.dest r.source
said (Acknowledgment a) = group.Acknowledgment a.control a.requester a.pgn a.dest a.source
said (Diagnostic kind source bytes) = group.Diagnostic kind source bytes.now
said (ConnectionManagement source dest control) = group.ConnectionManagement source dest control
said (DataTransfer source dest bytes) = group.DataTransfer source dest bytes.now
said Other = group.Other

-- an address claimed can be held, and a message with a size has one that is carried in packets
abbrev pub IsLawfulGroup : ParameterGroup → Type 0
IsLawfulGroup (AddressClaimed source name) = source < NULL_ADDRESS
IsLawfulGroup (ConnectionManagement source dest control) = HasLawfulSize control
IsLawfulGroup _ = Unit {0}
