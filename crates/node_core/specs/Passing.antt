-- Which frames a unit hears quietly, and how it may find that by what was found once for all units.
use Rattle.std.specs.Prelude.{◌≡◌, ℕ, Bool, true, false, slice_set, None}
use Rattle.can_frame.specs.FrameValue.{FrameValue}
use Rattle.fault_memory.specs.Memory.{MemoryValue}
use Rattle.node_core.specs.NodeValue.{NodeValue}
use Rattle.node_core.specs.Commanding.{completed, continued, for_name, partial_from}
use Rattle.node_core.specs.Deed.{Nothing}
use Rattle.node_core.specs.Reaction.{node_after, noted_from, on_claim, question, reaction}
use Rattle.node_core.specs.Requested.{is_addressed}
use Rattle.node_core.specs.declared.commanding.PartialCommand.{PartialCommand}
use Rattle.node_core.specs.declared.commanding.PartialCommand.TheVariants as partial
use Rattle.node_core.specs.declared.heard.Answer.{Answer}
use Rattle.node_core.specs.declared.acceptance.Acceptance.{Acceptance}
use Rattle.node_core.specs.declared.acceptance.Acceptance.TheVariants.{Ignored, Addressed, Claim, Announcement, Packet}
use Rattle.parameter_group.specs.Group.{AddressClaimed}

-- the frame asks nothing of the unit, but may tell it something to keep: nothing is put to it; and, whatever its memory is, it
-- does nothing, and keeps exactly this afterwards
pub record IsHeardQuietly (node : NodeValue) (f : FrameValue) (node' : NodeValue) : Type 0 where
  pub unasked : question node f ≡ None
  pub idle : (memory : MemoryValue) (answer : Answer) → reaction node memory answer f ≡ Nothing
  pub keeps : (memory : MemoryValue) (answer : Answer) → node_after node memory answer f ≡ node'

-- the unit with this half joined from a source
abbrev pub with_partial : NodeValue → ℕ → PartialCommand → NodeValue
with_partial node source partial = record node { partial_commands = slice_set node.partial_commands source partial }

-- what an announcement leaves half joined: that of a commanded address starts one, any other drops what there was
abbrev pub begun_partial : Bool → PartialCommand
begun_partial true = partial.Started
begun_partial false = partial.Nothing

-- the unit absorbs a frame of this acceptance, and keeps exactly this afterwards: it is concerned by no frame to that address; it neither
-- contests the claim nor ends a session by it; it takes the announcement or the packet, and no command for it gets whole
abbrev pub Absorbs : Acceptance → NodeValue → NodeValue → Type 0
Absorbs Ignored node node' = node' ≡ node
Absorbs (Addressed address) node node' = (is_addressed node.claimer.held address ≡ false) × (node' ≡ node)
Absorbs (Claim source name) node node' = (on_claim node source name ≡ Nothing) × (node' ≡ noted_from node (AddressClaimed source name))
Absorbs (Announcement source starts) node node' = node' ≡ with_partial node source (begun_partial starts)
Absorbs (Packet source frame) node node' =
    (for_name node.claimer.name (completed (partial_from node.partial_commands source) frame.bytes) ≡ None)
    × (node' ≡ with_partial node source (continued (partial_from node.partial_commands source) frame.bytes))

-- that is the acceptance of the frame: whoever absorbs it has heard the frame quietly
pub record IsAcceptance (s : Acceptance) (f : FrameValue) : Type 0 where
  pub heard : (node node' : NodeValue) → Absorbs s node node' → IsHeardQuietly node f node'
