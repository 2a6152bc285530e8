-- What a unit owes to a frame that it hears, by what the frame says; a frame that no case names owes nothing.
-- `answer` is the unit's own: whether it clears or holds the address, where that is put to it.
use Rattle.std.specs.Prelude.{◌≡◌, ℕ, Bool, ◌&&◌, ◌==◌, not, false, nat_le, is_some, List, length, slice_index_or, slice_set, Option, Some, None, if◌then◌else◌}
use Rattle.can_frame.specs.FrameValue.{FrameValue}
use Rattle.can_frame.specs.declared.address.TheConstants.{GREATEST_ADDRESS, GLOBAL_ADDRESS}
use Rattle.can_frame.specs.declared.group_numbers.TheConstants.{ADDRESS_CLAIMED}
use Rattle.requests.specs.declared.acknowledgment.TheConstants.Ack.{POSITIVE, NEGATIVE, CANNOT_RESPOND}
use Rattle.transport.specs.declared.control.TheConstants.Control.{RESOURCES_NEEDED}
use Rattle.transport.specs.declared.control.Control.{Control}
use Rattle.transport.specs.declared.control.Control.TheVariants.{Rts, Cts, EndAck, Bam, Abort}
use Rattle.transport.specs.Messages.{control_frame}
use Rattle.transport.specs.Pieces.{packet_count}
use Rattle.transport.specs.Sending.{SendingValue, packets_granted}
use Rattle.address_claim.specs.Claiming.{claim_step, after_claim, held_after, is_held}
use Rattle.address_claim.specs.Frames.{claim_frame_value}
use Rattle.address_claim.specs.declared.claimer.ClaimStep.{ClaimStep}
use Rattle.address_claim.specs.declared.claimer.ClaimStep.TheVariants as step
use Rattle.requests.specs.declared.commanded.Commanded.{Commanded}
use Rattle.parameter_group.specs.Group.{Group, AddressClaimed, Request, ConnectionManagement, DataTransfer, group_of}
use Rattle.fault_memory.specs.Memory.{MemoryValue}
use Rattle.dm_messages.specs.declared.kind.Kind.{Kind}
use Rattle.unit_trait.specs.declared.question.Question.{Question}
use Rattle.unit_trait.specs.declared.question.Question.TheVariants.{Hold}
use Rattle.node_core.specs.NodeValue.{NodeValue, is_open, is_destination}
use Rattle.dm_messages.specs.View.{payload_of}
use Rattle.node_core.specs.Deed.{Deed, Nothing, Replies, Begins, Sends, EndsSession, Claims, heard_of, after_deed}
use Rattle.node_core.specs.Commanding.{command_started, continued, completed, partial_from, is_to_all, for_name}
use Rattle.node_core.specs.Requested.{wanted_by, is_addressed, may_answer, put_by, acknowledgment}
use Rattle.node_core.specs.Asking.{is_agreed, memory_answered, IsAnswerTo}
use Rattle.node_core.specs.declared.commanding.PartialCommand.{PartialCommand}
use Rattle.node_core.specs.declared.commanding.PartialCommand.TheVariants as partial
use Rattle.node_core.specs.declared.session.OpenSession.{OpenSession}
use Rattle.node_core.specs.declared.heard.Answer.{Answer}
use Rattle.node_core.specs.declared.heard.Heard.{Heard}
use Rattle.node_core.specs.declared.requested.Wanted.{Wanted}
use Rattle.node_core.specs.declared.requested.Wanted.TheVariants as wanted

-- ---- claims

-- one that is not contested ends the session of which it claims the destination
abbrev pub on_uncontested : Option OpenSession → ℕ → Deed
on_uncontested session source = if is_destination session source then EndsSession else Nothing

-- contested, the unit defends its address, moves, or has none
abbrev pub on_step : NodeValue → ℕ → ClaimStep → Deed
on_step node source step.Nothing = on_uncontested node.session source
on_step node source step = Claims node.claimer.name (held_after step node.claimer.held)

abbrev pub on_claim : NodeValue → ℕ → ℕ → Deed
on_claim node source name = on_step node source (claim_step source name node.claimer)

-- ---- requests

-- a diagnostic message asked for at the unit's address: not while a session of that kind is open; one frame to all if eight bytes
-- suffice; else a session, one at a time
abbrev pub asked_for_message : Option OpenSession → Kind → MemoryValue → ℕ → ℕ → ℕ → Deed
asked_for_message session kind memory pgn address source =
    if is_open session kind then Replies (acknowledgment CANNOT_RESPOND source pgn address)
    else if length (payload_of kind memory) == 8 then Begins kind memory address GLOBAL_ADDRESS
    else if is_some session then Replies (acknowledgment CANNOT_RESPOND source pgn address)
    else Begins kind memory address source

-- asked at the unit's own address
abbrev pub asked_at_address : NodeValue → MemoryValue → Answer → ℕ → ℕ → ℕ → Wanted → Deed
asked_at_address node memory answer pgn address source (wanted.Message kind) = asked_for_message node.session kind memory pgn address source
asked_at_address node memory answer pgn address source (wanted.Clear which) = Replies (acknowledgment (if is_agreed answer then POSITIVE else NEGATIVE) source pgn address)
asked_at_address node memory answer pgn address source wanted.Unsupported = Replies (acknowledgment NEGATIVE source pgn address)

-- asked of all: a message, but not while a session of that kind is open; a clear is not answered
abbrev pub asked_of_all : NodeValue → MemoryValue → ℕ → Wanted → Deed
asked_of_all node memory address (wanted.Message kind) = if is_open node.session kind then Nothing else Begins kind memory address GLOBAL_ADDRESS
asked_of_all node memory address _ = Nothing

-- asked for more than the claim: only by who may hold another address
abbrev pub asked_for_more : NodeValue → MemoryValue → Answer → ℕ → ℕ → ℕ → Option ℕ → Deed
asked_for_more node memory answer pgn destination source None = Nothing
asked_for_more node memory answer pgn destination source (Some address) =
    if may_answer address source
    then (if destination == GLOBAL_ADDRESS then asked_of_all node memory address (wanted_by pgn) else asked_at_address node memory answer pgn address source (wanted_by pgn))
    else Nothing

-- a request for the claim is answered with it, or with cannot claim
abbrev pub on_request : NodeValue → MemoryValue → Answer → ℕ → ℕ → ℕ → Deed
on_request node memory answer pgn destination source =
    if not (is_addressed node.claimer.held destination) then Nothing
    else if pgn == ADDRESS_CLAIMED then Replies (claim_frame_value node.claimer.name node.claimer.held)
    else asked_for_more node memory answer pgn destination source node.claimer.held

-- what a request for more than the claim puts to the unit
abbrev pub put_with : ℕ → ℕ → Option ℕ → Option Question
put_with pgn source None = None
put_with pgn source (Some address) = if may_answer address source then put_by (wanted_by pgn) else None

-- what a request puts to the unit: a clear, asked at its address or of all, by who may hold another
abbrev pub put_by_request : NodeValue → ℕ → ℕ → ℕ → Option Question
put_by_request node pgn destination source =
    if not (is_addressed node.claimer.held destination) then None
    else if pgn == ADDRESS_CLAIMED then None
    else put_with pgn source node.claimer.held

-- ---- sessions

-- from the session's destination, about its group
abbrev pub is_with : OpenSession → ℕ → ℕ → Bool
is_with s source pgn = (s.sending.dest == source) && (s.sending.pgn == pgn)

-- a clear to send: the packets that it grants are queued, none where it is not honoured
abbrev pub on_cts : Option OpenSession → ℕ → ℕ → ℕ → ℕ → ℕ → Deed
on_cts None address source granted next pgn = Nothing
on_cts (Some s) address source granted next pgn =
    if is_with s source pgn then Sends s address (packets_granted s.sending granted next) else Nothing

-- every packet was queued
abbrev pub is_all_queued : SendingValue → Bool
is_all_queued s = s.queued == packet_count (length s.payload)

-- a session with the source about the group is open
abbrev pub is_open_with : Option OpenSession → ℕ → ℕ → Bool
is_open_with None source pgn = false
is_open_with (Some s) source pgn = is_with s source pgn

-- such a session is open, and every packet of it was queued
abbrev pub is_all_queued_with : Option OpenSession → ℕ → ℕ → Bool
is_all_queued_with None source pgn = false
is_all_queued_with (Some s) source pgn = is_with s source pgn && is_all_queued s.sending

-- an end of message acknowledgment ends the session once every packet was queued
abbrev pub on_end_ack : Option OpenSession → ℕ → ℕ → Deed
on_end_ack session source pgn = if is_all_queued_with session source pgn then EndsSession else Nothing

-- an abort ends it at once
abbrev pub on_abort : Option OpenSession → ℕ → ℕ → Deed
on_abort session source pgn = if is_open_with session source pgn then EndsSession else Nothing

-- a connection management message to the address held. A request to send, from an address that can be held, is refused
-- with reason 2, "resources needed elsewhere"
abbrev pub on_control : NodeValue → ℕ → ℕ → Control → Deed
on_control node source destination (Rts size packets most pgn) =
    if is_held node.claimer.held destination && nat_le source GREATEST_ADDRESS then Replies (control_frame (Abort RESOURCES_NEEDED pgn) destination source) else Nothing
on_control node source destination (Cts granted next pgn) =
    if is_held node.claimer.held destination then on_cts node.session destination source granted next pgn else Nothing
on_control node source destination (EndAck size packets pgn) =
    if is_held node.claimer.held destination then on_end_ack node.session source pgn else Nothing
on_control node source destination (Abort reason pgn) =
    if is_held node.claimer.held destination then on_abort node.session source pgn else Nothing
on_control node source destination (Bam size packets pgn) = Nothing

-- ---- commanded address

-- the command for this NAME that a packet to all makes whole
abbrev pub command_heard : NodeValue → ℕ → ℕ → List ℕ → Option Commanded
command_heard node source destination bytes =
    if is_to_all destination source then for_name node.claimer.name (completed (partial_from node.partial_commands source) bytes) else None

-- it is put to the unit
abbrev pub put_by_command : Option Commanded → Option Question
put_by_command None = None
put_by_command (Some command) = Some (Hold command.address)

-- it is obeyed, if the unit answer
abbrev pub on_command : NodeValue → Answer → Option Commanded → Deed
on_command node answer None = Nothing
on_command node answer (Some command) = if is_agreed answer then Claims node.claimer.name (Some command.address) else Nothing

abbrev pub on_packet : NodeValue → Answer → ℕ → ℕ → List ℕ → Deed
on_packet node answer source destination bytes = on_command node answer (command_heard node source destination bytes)

-- ---- all of it

-- the unit's deed, by what was said
abbrev pub reaction_to : NodeValue → MemoryValue → Answer → Group → Deed
reaction_to node memory answer (AddressClaimed source name) = on_claim node source name
reaction_to node memory answer (Request pgn destination source) = on_request node memory answer pgn destination source
reaction_to node memory answer (ConnectionManagement source destination control) = on_control node source destination control
reaction_to node memory answer (DataTransfer source destination bytes) = on_packet node answer source destination bytes
reaction_to node memory answer _ = Nothing

-- the deed of a unit of this value, with this memory, that hears this frame
abbrev pub reaction : NodeValue → MemoryValue → Answer → FrameValue → Deed
reaction node memory answer f = reaction_to node memory answer (group_of f)

-- an address was last claimed under another NAME
abbrev pub is_of_another : Option ℕ → ℕ → Bool
is_of_another None name = false
is_of_another (Some last) name = not (last == name)

-- a half command from such an address is dropped
abbrev pub halves_after_claim : NodeValue → ℕ → ℕ → List PartialCommand
halves_after_claim node source name =
    if is_of_another (slice_index_or node.claimer.noted source None) name then slice_set node.partial_commands source partial.Nothing
    else node.partial_commands

-- an announced broadcast drops what is half joined from its source, and may start a commanded address
abbrev pub announced : NodeValue → ℕ → ℕ → ℕ → ℕ → NodeValue
announced node source destination size pgn =
    if is_to_all destination source then record node { partial_commands = slice_set node.partial_commands source (command_started size pgn) } else node

-- a broadcast packet goes on with what is half joined from its source
abbrev pub packet_heard : NodeValue → ℕ → ℕ → List ℕ → NodeValue
packet_heard node source destination bytes =
    if is_to_all destination source
    then record node { partial_commands = slice_set node.partial_commands source (continued (partial_from node.partial_commands source) bytes) }
    else node

-- what the unit takes note of before any deed: who claims which address, and commanded addresses on their way
abbrev pub noted_from : NodeValue → Group → NodeValue
noted_from node (AddressClaimed source name) =
    record node { claimer = after_claim source name node.claimer; partial_commands = halves_after_claim node source name }
noted_from node (ConnectionManagement source destination (Bam size packets pgn)) = announced node source destination size pgn
noted_from node (DataTransfer source destination bytes) = packet_heard node source destination bytes
noted_from node _ = node

-- what the unit keeps afterwards
abbrev pub node_after : NodeValue → MemoryValue → Answer → FrameValue → NodeValue
node_after node memory answer f = after_deed (noted_from node (group_of f)) (reaction node memory answer f)

-- what the frame puts to the unit, if anything: to clear, or to hold a commanded address
abbrev pub put_to : NodeValue → Group → Option Question
put_to node (Request pgn destination source) = put_by_request node pgn destination source
put_to node (DataTransfer source destination bytes) = put_by_command (command_heard node source destination bytes)
put_to node _ = None

-- what this frame puts to a unit of this value
abbrev pub question : NodeValue → FrameValue → Option Question
question node f = put_to node (group_of f)

-- the unit's memory afterwards: only a clear changes it
abbrev pub memory_after : NodeValue → MemoryValue → Answer → FrameValue → MemoryValue
memory_after node memory answer f = memory_answered (question node f) answer memory

-- a frame heard, with what came of it: exactly what is owed, by what the unit answered to what the frame puts to it
pub record Reacts (f : FrameValue) (node : NodeValue) (memory : MemoryValue) (heard : Heard) (node' : NodeValue) (memory' : MemoryValue) : Type 0 where
  pub heard_is : heard ≡ heard_of heard.answer (reaction node memory heard.answer f)
  pub node_is : node' ≡ node_after node memory heard.answer f
  pub memory_is : memory' ≡ memory_after node memory heard.answer f
  pub answer_is : IsAnswerTo (question node f) heard.answer
