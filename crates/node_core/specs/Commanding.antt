-- A commanded address (SAE J1939-81): nine bytes, broadcast in two packets.
use Rattle.std.specs.Prelude.{ℕ, Bool, true, false, ◌&&◌, ◌==◌, nat_le, List, [], ◌∷◌, length, slice_index_or, Option, Some, None, if◌then◌else◌}
use Rattle.can_frame.specs.declared.address.TheConstants.{GREATEST_ADDRESS, GLOBAL_ADDRESS}
use Rattle.can_frame.specs.declared.group_numbers.TheConstants.{COMMANDED_ADDRESS}
use Rattle.requests.specs.Layouts.{commanded_of}
use Rattle.requests.specs.declared.commanded.Commanded.{Commanded}
use Rattle.transport.specs.Assembling.{with_part}
use Rattle.transport.specs.Pieces.{joined, packet_count}
use Rattle.node_core.specs.declared.commanding.TheConstants.{COMMAND_SIZE}
use Rattle.node_core.specs.declared.commanding.PartialCommand.{PartialCommand}
use Rattle.node_core.specs.declared.commanding.PartialCommand.TheVariants.{Nothing, Started, First}

-- what an announced broadcast starts: a commanded address, if it is one
abbrev pub command_started : ℕ → ℕ → PartialCommand
command_started size pgn = if (size == COMMAND_SIZE) && (pgn == COMMANDED_ADDRESS) then Started else Nothing

-- the pieces of a commanded address that were taken
abbrev pub taken_of : PartialCommand → Option (List (List ℕ))
taken_of Nothing = None
taken_of Started = Some []
taken_of (First piece) = Some (piece ∷ [])

-- what is half joined where these pieces were taken: more than one are all
abbrev pub partial_of : Option (List (List ℕ)) → PartialCommand
partial_of (Some (piece ∷ [])) = First piece
partial_of _ = Nothing

-- the command that these pieces are, where they are all
abbrev pub command_of : Option (List (List ℕ)) → Option Commanded
command_of None = None
command_of (Some taken) = if length taken == packet_count COMMAND_SIZE then Some (commanded_of (joined COMMAND_SIZE taken)) else None

-- the pieces with a packet more, as packets of any message are joined (SAE J1939-21): none where it is not the next one
abbrev pub taken_with : PartialCommand → List ℕ → Option (List (List ℕ))
taken_with partial bytes = with_part COMMAND_SIZE (taken_of partial) bytes

-- what is half joined after a packet: one that is not the next one drops it, and so does the last one
abbrev pub continued : PartialCommand → List ℕ → PartialCommand
continued partial bytes = partial_of (taken_with partial bytes)

-- the command that a packet makes whole
abbrev pub completed : PartialCommand → List ℕ → Option Commanded
completed partial bytes = command_of (taken_with partial bytes)

-- the command is for this NAME, and its address can be held
abbrev pub is_command_for : ℕ → Commanded → Bool
is_command_for name c = (c.name == name) && nat_le c.address GREATEST_ADDRESS

-- a command counts only where it is for this NAME
abbrev pub for_name : ℕ → Option Commanded → Option Commanded
for_name name None = None
for_name name (Some c) = if is_command_for name c then Some c else None

-- what is half joined from the source
abbrev pub partial_from : List PartialCommand → ℕ → PartialCommand
partial_from partials source = slice_index_or partials source Nothing

-- to all, from an address that can be held
abbrev pub is_to_all : ℕ → ℕ → Bool
is_to_all destination source = (destination == GLOBAL_ADDRESS) && nat_le source GREATEST_ADDRESS

-- there is something half joined
abbrev pub is_partial : PartialCommand → Bool
is_partial Nothing = false
is_partial Started = true
is_partial (First piece) = true

-- a packet goes on with what is half joined from its source
abbrev pub goes_on : List PartialCommand → ℕ → ℕ → Bool
goes_on partials source destination = is_to_all destination source && is_partial (partial_from partials source)
