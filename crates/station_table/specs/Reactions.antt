-- What the station withdraws and queues in answer to each reading and order.
use Rattle.std.specs.Prelude.{ℕ, ◌+◌, ◌-◌, ◌%◌, min, List, [], ◌∷◌, Option, Some, None, true, false, ◌&&◌, ◌||◌, ◌==◌, nat_lt, length, slice_index, if◌then◌else◌}
use Rattle.can_frame.specs.FrameValue.{FrameValue}
use Rattle.can_frame.specs.declared.reading.Reading.{Reading}
use Rattle.can_frame.specs.declared.reading.Reading.TheVariants.{Frame, Gap, Empty}
use Rattle.can_frame.specs.declared.address.TheConstants.{NULL_ADDRESS, GLOBAL_ADDRESS}
use Rattle.can_frame.specs.declared.group_numbers.TheConstants.{ADDRESS_CLAIMED, DM1, DM2, DM3, DM6, DM11, COMMANDED_ADDRESS}
use Rattle.requests.specs.declared.acknowledgment.TheConstants.Ack.{NEGATIVE}
use Rattle.transport.specs.declared.control.TheConstants.Control.{RESOURCES_NEEDED}
use Rattle.address_claim.specs.Claiming.{ClaimerValue, is_held, claim_step}
use Rattle.address_claim.specs.Frames.{claim_frame_value, claim_source}
use Rattle.address_claim.specs.declared.claimer.ClaimStep.{ClaimStep}
use Rattle.address_claim.specs.declared.claimer.ClaimStep.TheVariants.{Nothing, Defend, Move, CannotClaim}
use Rattle.dm_messages.specs.View.{pgn_of_kind}
use Rattle.requests.specs.Layouts.{request_frame_value, ack_frame_value, commanded_bytes}
use Rattle.transport.specs.declared.control.Control.{Control}
use Rattle.transport.specs.declared.control.Control.TheVariants.{Rts, Cts, EndAck, Abort}
use Rattle.transport.specs.Messages.{control_frame, frames_of_message}
use Rattle.transport.specs.Pieces.{packet_count}
use Rattle.parameter_group.specs.Group.{Group, AddressClaimed, Request, ConnectionManagement, DataTransfer, group_of}
use Rattle.reassembly.specs.Partials.{is_whole, with_packet}
use Rattle.reassembly.specs.Tables.{at}
use Rattle.bus_model.specs.Heard.{Joining, kind_of, started}
use Rattle.station_table.specs.declared.reaction.Ask.{Ask}
use Rattle.station_table.specs.declared.reaction.Ask.TheVariants.{Dm1, Dm2, Dm3, Dm6, Dm11, Claim, Other}
use Rattle.station_table.specs.declared.reaction.Reaction.{Reaction}
use Rattle.station_table.specs.StationValue.{StationValue}
use Rattle.station_table.specs.Steps.{packets_at_once}

-- nothing is withdrawn, and nothing is queued
abbrev pub silent : Reaction
silent = record { withdraw = false; put = [] }

-- one frame is queued
abbrev pub answering : FrameValue → Reaction
answering f = record { withdraw = false; put = f ∷ [] }

-- all that waits is withdrawn, and one frame is queued
abbrev pub claiming_again : FrameValue → Reaction
claiming_again f = record { withdraw = true; put = f ∷ [] }

-- the station's claim, or where it holds no address its cannot claim
abbrev pub own_claim : ClaimerValue → FrameValue
own_claim c = claim_frame_value c.name c.held

-- a request from the station for the claims of all
abbrev pub request_for_claims : ClaimerValue → FrameValue
request_for_claims c = request_frame_value (record { pgn = ADDRESS_CLAIMED; dest = GLOBAL_ADDRESS; source = claim_source c.held })

-- a claim that is defended, or makes the station move or go without address, is answered by a claim in place of all that waits
abbrev pub claim_reaction : ClaimStep → ClaimerValue → Reaction
claim_reaction Nothing c = silent
claim_reaction Defend c = claiming_again (own_claim c)
claim_reaction (Move address) c = claiming_again (claim_frame_value c.name (Some address))
claim_reaction CannotClaim c = claiming_again (claim_frame_value c.name None)

-- a request for claims, to the station or to all, is answered by its claim; any other, to it from an address that can be
-- held, by a negative acknowledgment
abbrev pub request_reaction : ClaimerValue → ℕ → ℕ → ℕ → Reaction
request_reaction c pgn destination source =
    if pgn == ADDRESS_CLAIMED then (if is_held c.held destination || destination == GLOBAL_ADDRESS then answering (own_claim c) else silent)
    else if is_held c.held destination && nat_lt source NULL_ADDRESS
    then answering (ack_frame_value (record { control = NEGATIVE; requester = source; pgn = pgn; dest = GLOBAL_ADDRESS; source = destination }))
    else silent

-- an Rts that starts a session is granted the first packets; any other is aborted
abbrev pub start_reaction : Option Joining → ℕ → ℕ → ℕ → Control
start_reaction None at_once packets pgn = Abort RESOURCES_NEEDED pgn
start_reaction (Some j) at_once packets pgn = Cts (min at_once packets) 1 pgn

-- after the last packet that was granted the next ones are granted
abbrev pub next_grant : ℕ → Joining → Option Control
next_grant at_once j =
    if length j.pieces % at_once == 0
    then Some (Cts (min at_once (packet_count j.size - length j.pieces)) (length j.pieces + 1) (pgn_of_kind j.tag.kind))
    else None

-- a packet that is not the next one aborts the session, the last one ends it, any other is counted
abbrev pub packet_reply : ℕ → Joining → Option Joining → Option Control
packet_reply at_once before None = Some (Abort RESOURCES_NEEDED (pgn_of_kind before.tag.kind))
packet_reply at_once before (Some j) = if is_whole j then Some (EndAck j.size (packet_count j.size) (pgn_of_kind j.tag.kind)) else next_grant at_once j

-- a packet for the station is answered only within a session
abbrev pub reply_to : ℕ → Option Joining → List ℕ → Option Control
reply_to at_once None bytes = None
reply_to at_once (Some j) bytes = packet_reply at_once j (with_packet bytes (Some j))

-- how many packets one grant of the session from an address gives at most
abbrev pub granted_at_once : StationValue → ℕ → ℕ
granted_at_once s source = packets_at_once s.grant (slice_index s.most source)

-- a connection management message, if there is one to send
abbrev pub replying : Option Control → ℕ → ℕ → Reaction
replying None own source = silent
replying (Some control) own source = answering (control_frame control own source)

-- what one frame makes the station do
abbrev pub group_reaction : StationValue → Group → Reaction
group_reaction s (AddressClaimed source name) = claim_reaction (claim_step source name s.claimer) s.claimer
group_reaction s (Request pgn destination source) = request_reaction s.claimer pgn destination source
group_reaction s (ConnectionManagement source destination (Rts size packets most pgn)) =
    if is_held s.claimer.held destination && nat_lt source NULL_ADDRESS
    then answering (control_frame
    (start_reaction (started (kind_of pgn) size (at s.owners source)) (packets_at_once s.grant most) packets pgn) destination source)
    else silent
group_reaction s (DataTransfer source destination bytes) =
    if destination == GLOBAL_ADDRESS then silent
    else (if is_held s.claimer.held destination then replying (reply_to (granted_at_once s source) (at s.sessions source) bytes) destination source else silent)
group_reaction s _ = silent

-- what a reading makes the station do
abbrev pub station_reaction : StationValue → Reading → Reaction
station_reaction s Empty = silent
station_reaction s (Gap count) = record { withdraw = true; put = own_claim s.claimer ∷ request_for_claims s.claimer ∷ [] }
station_reaction s (Frame f) = group_reaction s (group_of f)

-- the parameter group that is asked for
abbrev pub group_asked : Ask → ℕ
group_asked Dm1 = DM1
group_asked Dm2 = DM2
group_asked Dm3 = DM3
group_asked Dm6 = DM6
group_asked Dm11 = DM11
group_asked Claim = ADDRESS_CLAIMED
group_asked (Other pgn) = pgn

-- the station asks one address, or all
abbrev pub asking : ℕ → Ask → ℕ → Reaction
asking own ask destination = answering (request_frame_value (record { pgn = group_asked ask; dest = destination; source = own }))

-- the station commands a NAME to hold an address: a broadcast of nine bytes
abbrev pub commanding : ℕ → ℕ → ℕ → Reaction
commanding own name address =
    record { withdraw = false; put = frames_of_message (commanded_bytes (record { name = name; address = address })) COMMANDED_ADDRESS own GLOBAL_ADDRESS }
