-- What is written is read back: each frame that this station and these units write says what it was written for.
use Rattle.std.specs.Prelude.{◌≡◌, ℕ, ◌<◌, ◌^◌, List, Some, None}
use Rattle.can_frame.specs.Fields.{pdu2_number}
use Rattle.can_frame.specs.FrameValue.{FrameValue, frame}
use Rattle.can_frame.specs.declared.address.TheConstants.{NULL_ADDRESS}
use Rattle.address_claim.specs.Frames.{claim_frame_value}
use Rattle.requests.specs.Layouts.{request_frame_value, ack_frame_value, IsRequest, IsAck}
use Rattle.requests.specs.declared.request.Request.{Request as RequestFields}
use Rattle.requests.specs.declared.acknowledgment.Ack.{Ack}
use Rattle.dm_messages.specs.View.{pgn_of_kind}
use Rattle.dm_messages.specs.declared.kind.Kind.{Kind}
use Rattle.transport.specs.ControlMessage.{control_bytes, control_of}
use Rattle.transport.specs.Messages.{control_frame, packet_frame}
use Rattle.transport.specs.declared.control.Control.{Control}
use Rattle.parameter_group.specs.Group.{AddressClaimed, CannotClaim, Request, Acknowledgment, Diagnostic, ConnectionManagement, DataTransfer, Group}

-- what a written frame must say
pub record ReadsBack (f : FrameValue) (g : Group) : Type 0 where
  pub claim : (name address : ℕ) → name < 2 ^ 64 → address < NULL_ADDRESS → f ≡ claim_frame_value name (Some address) → g ≡ AddressClaimed address name
  pub cannot_claim : (name : ℕ) → name < 2 ^ 64 → f ≡ claim_frame_value name None → g ≡ CannotClaim name
  pub request : (r : RequestFields) → IsRequest r → f ≡ request_frame_value r → g ≡ Request r.pgn r.dest r.source
  pub acknowledgment : (a : Ack) → IsAck a → f ≡ ack_frame_value a → g ≡ Acknowledgment a.control a.requester a.pgn a.dest a.source
  pub diagnostic : (kind : Kind) (source : ℕ) (bytes : List ℕ) → source < 256 → f ≡ frame (pdu2_number 6 (pgn_of_kind kind) source) bytes → g ≡ Diagnostic kind source bytes
  pub control : (c : Control) (source destination : ℕ) → source < 256 → destination < 256 → control_of (control_bytes c) ≡ Some c → f ≡ control_frame c source destination → g ≡ ConnectionManagement source destination c
  pub packet : (bytes : List ℕ) (source destination : ℕ) → source < 256 → destination < 256 → f ≡ packet_frame bytes source destination → g ≡ DataTransfer source destination bytes
