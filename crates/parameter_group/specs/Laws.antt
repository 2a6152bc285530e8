-- What is written is read back: the proofs.
use Rattle.std.proofs.Common.{◌≡◌, ℕ, Bool, true, false, ◌+◌, ◌*◌, ◌/◌, ◌%◌, ◌<◌, ◌^◌, ◌==◌, ◌&&◌, if◌then◌else◌, length, List, Option, Some, None, refl, arith, ◌∙◌}
use Rattle.std.specs.Prelude.{nat_lt, nat_le}
use Rattle.std.proofs.lemmas.Nat.{from_le_bytes-to_le_bytes_8}
use Rattle.std.proofs.lemmas.Bool.{lt-ltb}
use Rattle.can_frame.specs.Fields.{pgn_of, pdu_specific_of, source_of, pdu1_number, pdu2_number}
use Rattle.can_frame.specs.FrameValue.{FrameValue, frame}
use Rattle.address_claim.specs.Frames.{claim_frame_value}
use Rattle.requests.specs.Layouts.{request_frame_value, ack_frame_value, IsRequest, IsAck}
use Rattle.requests.specs.declared.request.Request.{Request as RequestValue}
use Rattle.requests.specs.declared.acknowledgment.Ack.{Ack}
use Rattle.dm_messages.specs.View.{pgn_of_kind}
use Rattle.dm_messages.specs.declared.kind.Kind.{Kind}
use Rattle.dm_messages.specs.declared.kind.Kind.TheVariants.{Dm1, Dm2, Dm6}
use Rattle.transport.specs.ControlMessage.{control_bytes, control_of}
use Rattle.transport.specs.Messages.{control_frame, packet_frame}
use Rattle.transport.specs.declared.control.Control.{Control}
use Rattle.parameter_group.specs.Written.{ReadsBack}
use Rattle.parameter_group.specs.Group.{Group, AddressClaimed, CannotClaim, Request, Acknowledgment, Diagnostic, ConnectionManagement, DataTransfer, Other, control_group, group_by, group_of}

-- by the fields of the identifier
by_fields : (id : ℕ) (bytes : List ℕ) (pgn destination source : ℕ) → pgn_of id ≡ pgn → pdu_specific_of id ≡ destination → source_of id ≡ source → group_of (frame id bytes) ≡ group_by pgn destination source bytes
unfolding group_of
by_fields id bytes pgn destination source e f g = rw (e, f, g) refl

-- the group of an identifier whose data pages are 0 and whose group goes to one address
pgn_from : (id format : ℕ) → id / 2 ^ 25 % 2 ≡ 0 → id / 2 ^ 24 % 2 ≡ 0 → id / 2 ^ 16 % 256 ≡ format → format < 240 → pgn_of id ≡ format * 256
pgn_from id format a b c l = rw (a, b, c, lt-ltb format 240 l) (omega arith)

-- the group of an identifier whose data pages are 0 and whose PDU format is 254
pgn_to_all : (id specific : ℕ) → id / 2 ^ 25 % 2 ≡ 0 → id / 2 ^ 24 % 2 ≡ 0 → id / 2 ^ 16 % 256 ≡ 254 → id / 2 ^ 8 % 256 ≡ specific → pgn_of id ≡ 65024 + specific
pgn_to_all id specific a b c d = rw (a, b, c, d) (omega arith)

claim_fields : (source : ℕ) → source < 256 → (pgn_of (pdu1_number 6 60928 255 source) ≡ 60928) × (pdu_specific_of (pdu1_number 6 60928 255 source) ≡ 255) × (source_of (pdu1_number 6 60928 255 source) ≡ source)
claim_fields source s = (pgn_from (pdu1_number 6 60928 255 source) 238 (omega arith) (omega arith) (omega arith) (omega arith), omega arith, omega arith)

-- a claim of an address that can be held
pub group_of-claim : (name address : ℕ) → name < 2 ^ 64 → address < 254 → group_of (claim_frame_value name (Some address)) ≡ AddressClaimed address name
group_of-claim name address n a =
    let fields = claim_fields address (omega arith) in
    by_fields _ _ 60928 255 address fields.0 fields.1 fields.2 ∙ rw (lt-ltb address 254 a, from_le_bytes-to_le_bytes_8 name n) refl

-- a cannot claim
pub group_of-cannot_claim : (name : ℕ) → name < 2 ^ 64 → group_of (claim_frame_value name None) ≡ CannotClaim name
group_of-cannot_claim name n =
    let fields = claim_fields 254 (omega arith) in
    by_fields _ _ 60928 255 254 fields.0 fields.1 fields.2 ∙ rw (from_le_bytes-to_le_bytes_8 name n) refl

-- three bytes carry a group back
pgn_read_back : (pgn : ℕ) → pgn < 2 ^ 24 → pgn % 256 + 256 * (pgn / 256 % 256) + 65536 * (pgn / 65536) ≡ pgn
pgn_read_back pgn p = omega arith

-- a request
pub group_of-request : (r : RequestValue) → IsRequest r → group_of (request_frame_value r) ≡ Request r.pgn r.dest r.source
group_of-request r h =
    by_fields _ _ 59904 r.dest r.source
    (pgn_from (pdu1_number 6 59904 r.dest r.source) 234 (omega (arith, h)) (omega (arith, h)) (omega (arith, h)) (omega arith))
    (omega (arith, h))
    (omega (arith, h))
    ∙ rw (pgn_read_back r.pgn h.pgn) refl

-- an acknowledgment
pub group_of-acknowledgment : (a : Ack) → IsAck a → group_of (ack_frame_value a) ≡ Acknowledgment a.control a.requester a.pgn a.dest a.source
group_of-acknowledgment a h =
    by_fields _ _ 59392 a.dest a.source
    (pgn_from (pdu1_number 6 59392 a.dest a.source) 232 (omega (arith, h)) (omega (arith, h)) (omega (arith, h)) (omega arith))
    (omega (arith, h))
    (omega (arith, h))
    ∙ rw (pgn_read_back a.pgn h.pgn) refl

-- a diagnostic message in one frame
pub group_of-diagnostic : (kind : Kind) (source : ℕ) (bytes : List ℕ) → source < 256 → group_of (frame (pdu2_number 6 (pgn_of_kind kind) source) bytes) ≡ Diagnostic kind source bytes
group_of-diagnostic Dm1 source bytes s =
    by_fields _ _ 65226 202 source (pgn_to_all (pdu2_number 6 65226 source) 202 (omega arith) (omega arith) (omega arith) (omega arith)) (omega arith) (omega arith)
group_of-diagnostic Dm2 source bytes s =
    by_fields _ _ 65227 203 source (pgn_to_all (pdu2_number 6 65227 source) 203 (omega arith) (omega arith) (omega arith) (omega arith)) (omega arith) (omega arith)
group_of-diagnostic Dm6 source bytes s =
    by_fields _ _ 65231 207 source (pgn_to_all (pdu2_number 6 65231 source) 207 (omega arith) (omega arith) (omega arith) (omega arith)) (omega arith) (omega arith)

-- a connection management message that is read back
pub group_of-control : (c : Control) (source destination : ℕ) → source < 256 → destination < 256 → control_of (control_bytes c) ≡ Some c → group_of (control_frame c source destination) ≡ ConnectionManagement source destination c
group_of-control c source destination s d e =
    by_fields _ _ 60416 destination source
    (pgn_from (pdu1_number 7 60416 destination source) 236 (omega arith) (omega arith) (omega arith) (omega arith))
    (omega arith)
    (omega arith)
    ∙ rw e refl

-- a packet
pub group_of-packet : (bytes : List ℕ) (source destination : ℕ) → source < 256 → destination < 256 → group_of (packet_frame bytes source destination) ≡ DataTransfer source destination bytes
group_of-packet bytes source destination s d =
    by_fields _ _ 60160 destination source
    (pgn_from (pdu1_number 7 60160 destination source) 235 (omega arith) (omega arith) (omega arith) (omega arith))
    (omega arith)
    (omega arith)

-- each written frame is read back
pub reads_back : (f : FrameValue) → ReadsBack f (group_of f)
reads_back f = record {
  claim = λ name address n a e. rw e (group_of-claim name address n a);
  cannot_claim = λ name n e. rw e (group_of-cannot_claim name n);
  request = λ r h e. rw e (group_of-request r h);
  acknowledgment = λ a h e. rw e (group_of-acknowledgment a h);
  diagnostic = λ kind source bytes s e. rw e (group_of-diagnostic kind source bytes s);
  control = λ c source destination s d k e. rw e (group_of-control c source destination s d k);
  packet = λ bytes source destination s d e. rw e (group_of-packet bytes source destination s d);
}

-- what a frame says comes from an address of one byte
abbrev pub sender : Group → ℕ
sender (AddressClaimed source name) = source
sender (CannotClaim name) = 254
sender (Request pgn destination source) = source
sender (Acknowledgment control requester pgn destination source) = source
sender (Diagnostic kind source bytes) = source
sender (ConnectionManagement source destination control) = source
sender (DataTransfer source destination bytes) = source
sender Other = 0

below_if : (b : Bool) (x y : Group) → sender x < 256 → sender y < 256 → sender (if b then x else y) < 256
below_if true x y p q = p
below_if false x y p q = q

below_control : (d src : ℕ) (o : Option Control) → src < 256 → sender (control_group d src o) < 256
below_control d src None lt = omega arith
below_control d src (Some c) lt = lt

below_group : (pgn d src : ℕ) (bytes : List ℕ) → src < 256 → sender (group_by pgn d src bytes) < 256
below_group pgn d src bytes lt =
    let zero_below : 0 < 256 = omega arith in
    let last_below : 254 < 256 = omega arith in
    below_if (pgn == 60928) _ _
    (below_if ((d == 255) && (length bytes == 8)) _ _ (below_if (nat_lt src 254) _ _ lt (below_if (src == 254) _ _ last_below zero_below)) zero_below)
    (below_if (pgn == 59904) _ _
    (below_if (nat_le 3 (length bytes)) _ _ lt zero_below)
    (below_if (pgn == 59392) _ _
    (below_if (length bytes == 8) _ _ lt zero_below)
    (below_if (pgn == 65226) _ _ lt (below_if (pgn == 65227) _ _ lt (below_if (pgn == 65231) _ _ lt
    (below_if (pgn == 60416) _ _ (below_control d src (control_of bytes) lt) (below_if (pgn == 60160) _ _ lt zero_below)))))))

pub sender_below : (f : FrameValue) → sender (group_of f) < 256
unfolding group_of
sender_below f = below_group (pgn_of f.id) (pdu_specific_of f.id) (source_of f.id) f.bytes (omega arith)
