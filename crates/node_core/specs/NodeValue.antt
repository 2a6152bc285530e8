-- What a unit on the bus keeps.
use Rattle.std.specs.Prelude.{ℕ, Bool, false, List, replicate, Option, Some, None}
use Rattle.can_frame.specs.declared.address.TheConstants.{HOLDABLE_ADDRESSES}
use Rattle.address_claim.specs.Claiming.{ClaimerValue, new_claimer, is_held}
use Rattle.dm_messages.specs.declared.kind.Kind.{Kind}
use Rattle.node_core.specs.declared.commanding.PartialCommand.{PartialCommand}
use Rattle.node_core.specs.declared.commanding.PartialCommand.TheVariants.{Nothing}
use Rattle.node_core.specs.declared.session.OpenSession.{OpenSession}
use Rattle.dm_messages.specs.View.{same_kind}

-- its NAME, the address it holds and the claims it has noted; what it has of a commanded address from each source
-- (0 to 253); and its open session
pub record NodeValue : Type 0 where
  pub claimer : ClaimerValue
  pub partial_commands : List PartialCommand
  pub session : Option OpenSession

-- a session of that kind is open
abbrev pub is_open : Option OpenSession → Kind → Bool
is_open None kind = false
is_open (Some s) kind = same_kind s.kind kind

-- the address with which a session is open
abbrev pub open_address : Option OpenSession → Option ℕ
open_address None = None
open_address (Some s) = Some s.sending.dest

-- the address is the destination of the open session
abbrev pub is_destination : Option OpenSession → ℕ → Bool
is_destination session address = is_held (open_address session) address

-- a unit of that NAME that holds the address it wants, and has heard nothing
abbrev pub new_node : ℕ → ℕ → NodeValue
new_node name want = record { claimer = new_claimer name want; partial_commands = replicate HOLDABLE_ADDRESSES Nothing; session = None }
