-- Which bytes carry a request, an acknowledgment and a commanded address (SAE J1939-21 and -81, in this project's profile).
use Rattle.std.specs.Prelude.{ℕ, ◌≡◌, ◌≤◌, ◌<◌, ◌^◌, ◌+◌, List, [], ◌∷◌, ◌++◌, length, take, slice_index}
use Rattle.std.specs.Int.{to_le_bytes, from_le_bytes, w64}
use Rattle.can_frame.specs.Fields.{source_of, pgn_of, pdu_specific_of, pdu1_number, pgn_bytes, pgn_of_bytes}
use Rattle.can_frame.specs.FrameValue.{FrameValue, frame}
use Rattle.can_frame.specs.declared.frame.TheConstants.{FILLER}
use Rattle.can_frame.specs.declared.group_numbers.TheConstants.{REQUEST, ACKNOWLEDGMENT}
use Rattle.requests.specs.declared.request.Request.{Request}
use Rattle.requests.specs.declared.acknowledgment.Ack.{Ack}
use Rattle.requests.specs.declared.commanded.Commanded.{Commanded}

-- the parameter group number in the three bytes from a place on
abbrev pub group_at : ℕ → List ℕ → ℕ
group_at i bytes = pgn_of_bytes (slice_index bytes i) (slice_index bytes (i + 1)) (slice_index bytes (i + 2))

-- a request as it is written: group 59904 of priority 6, with the group that is asked for
abbrev pub request_frame_value : Request → FrameValue
request_frame_value r = frame (pdu1_number 6 REQUEST r.dest r.source) (pgn_bytes r.pgn)

-- a frame that is read as a request: of that group, of any priority, with three bytes or more
pub record IsRequestFrame (f : FrameValue) : Type 0 where
  pub group : pgn_of f.id ≡ REQUEST
  pub len : 3 ≤ length f.bytes

-- what it asks for; only its first three bytes count
abbrev pub request_of : FrameValue → Request
request_of f = record { pgn = group_at 0 f.bytes; dest = pdu_specific_of f.id; source = source_of f.id }

-- its numbers fit their fields
pub record IsRequest (r : Request) : Type 0 where
  pub pgn : r.pgn < 2 ^ 24
  pub dest : r.dest < 256
  pub source : r.source < 256

-- an acknowledgment as it is written: group 59392 of priority 6, with eight bytes
abbrev pub ack_frame_value : Ack → FrameValue
ack_frame_value a = frame (pdu1_number 6 ACKNOWLEDGMENT a.dest a.source) (a.control ∷ FILLER ∷ FILLER ∷ FILLER ∷ a.requester ∷ pgn_bytes a.pgn)

-- a frame that is read as an acknowledgment: of that group, of any priority, with eight bytes
pub record IsAckFrame (f : FrameValue) : Type 0 where
  pub group : pgn_of f.id ≡ ACKNOWLEDGMENT
  pub len : length f.bytes ≡ 8

-- what it acknowledges; its bytes 2 to 4 are not looked at
abbrev pub ack_of : FrameValue → Ack
ack_of f = record {
  control = slice_index f.bytes 0;
  requester = slice_index f.bytes 4;
  pgn = group_at 5 f.bytes;
  dest = pdu_specific_of f.id;
  source = source_of f.id;
}

-- its numbers fit their fields
pub record IsAck (a : Ack) : Type 0 where
  pub pgn : a.pgn < 2 ^ 24
  pub dest : a.dest < 256
  pub source : a.source < 256

-- the nine bytes of a commanded address: the NAME, lowest byte first, and the address
abbrev pub commanded_bytes : Commanded → List ℕ
commanded_bytes c = to_le_bytes w64 c.name ++ c.address ∷ []

-- the command in nine bytes
abbrev pub commanded_of : List ℕ → Commanded
commanded_of bytes = record { name = from_le_bytes w64 (take 8 bytes); address = slice_index bytes 8 }
