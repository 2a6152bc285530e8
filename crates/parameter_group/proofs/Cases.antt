-- What a frame of each parameter group says.
use Rattle.std.proofs.Common.{◌≡◌, ◌≢◌, ℕ, ◌<◌, Some, refl, arith, ne_eqb}
use Rattle.can_frame.specs.Fields.{pgn_of, pdu_specific_of, source_of, destination_of}
use Rattle.can_frame.specs.FrameValue.{FrameValue}
use Rattle.transport.specs.ControlMessage.{control_of}
use Rattle.dm_messages.specs.declared.kind.Kind.TheVariants.{Dm1, Dm2, Dm6}
use Rattle.parameter_group.specs.Group.{Other, Diagnostic, DataTransfer, claim_group, request_group, acknowledgment_group, control_group, group_of}

pub of_claim : (f : FrameValue) → pgn_of f.id ≡ 60928 → group_of f ≡ claim_group (pdu_specific_of f.id) (source_of f.id) f.bytes
unfolding group_of
of_claim f e = rw e refl

pub of_request : (f : FrameValue) → pgn_of f.id ≡ 59904 → group_of f ≡ request_group (pdu_specific_of f.id) (source_of f.id) f.bytes
unfolding group_of
of_request f e = rw e refl

pub of_acknowledgment : (f : FrameValue) → pgn_of f.id ≡ 59392 → group_of f ≡ acknowledgment_group (pdu_specific_of f.id) (source_of f.id) f.bytes
unfolding group_of
of_acknowledgment f e = rw e refl

pub of_active_codes : (f : FrameValue) → pgn_of f.id ≡ 65226 → group_of f ≡ Diagnostic Dm1 (source_of f.id) f.bytes
unfolding group_of
of_active_codes f e = rw e refl

pub of_previous_codes : (f : FrameValue) → pgn_of f.id ≡ 65227 → group_of f ≡ Diagnostic Dm2 (source_of f.id) f.bytes
unfolding group_of
of_previous_codes f e = rw e refl

pub of_pending_codes : (f : FrameValue) → pgn_of f.id ≡ 65231 → group_of f ≡ Diagnostic Dm6 (source_of f.id) f.bytes
unfolding group_of
of_pending_codes f e = rw e refl

pub of_control : (f : FrameValue) → pgn_of f.id ≡ 60416 → group_of f ≡ control_group (pdu_specific_of f.id) (source_of f.id) (control_of f.bytes)
unfolding group_of
of_control f e = rw e refl

pub of_packet : (f : FrameValue) → pgn_of f.id ≡ 60160 → group_of f ≡ DataTransfer (source_of f.id) (pdu_specific_of f.id) f.bytes
unfolding group_of
of_packet f e = rw e refl

pub of_other : (f : FrameValue) → pgn_of f.id ≢ 60928 → pgn_of f.id ≢ 59904 → pgn_of f.id ≢ 59392 → pgn_of f.id ≢ 65226 → pgn_of f.id ≢ 65227 → pgn_of f.id ≢ 65231 → pgn_of f.id ≢ 60416 → pgn_of f.id ≢ 60160 → group_of f ≡ Other
unfolding group_of
of_other f a b c d e g h i = rw (ne_eqb _ 60928 a, ne_eqb _ 59904 b, ne_eqb _ 59392 c, ne_eqb _ 65226 d, ne_eqb _ 65227 e, ne_eqb _ 65231 g, ne_eqb _ 60416 h, ne_eqb _ 60160 i) refl

-- such a group goes to the address in the PDU specific byte
pub to_one : (id : ℕ) → pgn_of id < 61440 → destination_of id ≡ Some (pdu_specific_of id)
to_one id h = grind arith
