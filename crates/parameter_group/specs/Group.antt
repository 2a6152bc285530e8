-- What one frame says, by its parameter group (SAE J1939-21 data link layer, -73 diagnostics, -81 network management).
use Rattle.std.specs.Prelude.{ℕ, ◌+◌, ◌*◌, ◌&&◌, ◌==◌, nat_le, nat_lt, if◌then◌else◌, List, length, slice_index, Option, Some, None}
use Rattle.std.specs.Int.{from_le_bytes, w64}
use Rattle.can_frame.specs.Fields.{pgn_of, pdu_specific_of, source_of}
use Rattle.can_frame.specs.FrameValue.{FrameValue}
use Rattle.can_frame.specs.declared.address.TheConstants.{NULL_ADDRESS, GLOBAL_ADDRESS}
use Rattle.can_frame.specs.declared.group_numbers.TheConstants.{ADDRESS_CLAIMED, REQUEST, ACKNOWLEDGMENT, DATA_TRANSFER, CONNECTION_MANAGEMENT}
use Rattle.dm_messages.specs.View.{pgn_of_kind}
use Rattle.transport.specs.ControlMessage.{control_of}
use Rattle.transport.specs.declared.control.Control.{Control}
use Rattle.dm_messages.specs.declared.kind.Kind.{Kind}
use Rattle.dm_messages.specs.declared.kind.Kind.TheVariants.{Dm1, Dm2, Dm6}

pub data Group : Type 0 where
  AddressClaimed : (source name : ℕ) → Group  -- from 0 to 253
  CannotClaim : (name : ℕ) → Group  -- the same from 254
  Request : (pgn destination source : ℕ) → Group
  Acknowledgment : (control requester pgn destination source : ℕ) → Group
  Diagnostic : (kind : Kind) (source : ℕ) (bytes : List ℕ) → Group  -- DM1, DM2 or DM6 in one frame
  ConnectionManagement : (source destination : ℕ) (control : Control) → Group  -- TP.CM that can be read
  DataTransfer : (source destination : ℕ) (bytes : List ℕ) → Group  -- TP.DT
  Other : Group

-- the number in three bytes from a place on, lowest first
abbrev pub group_number : List ℕ → ℕ → ℕ
group_number bytes i = slice_index bytes i + 256 * slice_index bytes (i + 1) + 65536 * slice_index bytes (i + 2)

-- an address from 0 to 253 is claimed; from 254 it is cannot claim; 255 claims nothing
abbrev pub claim_from : ℕ → ℕ → Group
claim_from source name = if nat_lt source NULL_ADDRESS then AddressClaimed source name else (if source == NULL_ADDRESS then CannotClaim name else Other)

-- a claim goes to all and has eight bytes, the NAME
abbrev pub claim_group : ℕ → ℕ → List ℕ → Group
claim_group destination source bytes = if (destination == GLOBAL_ADDRESS) && (length bytes == 8) then claim_from source (from_le_bytes w64 bytes) else Other

-- a request has at least three bytes, the group that is asked for
abbrev pub request_group : ℕ → ℕ → List ℕ → Group
request_group destination source bytes = if nat_le 3 (length bytes) then Request (group_number bytes 0) destination source else Other

-- an acknowledgment has eight bytes: its control, three that are not looked at, the requester's address, the group
abbrev pub acknowledgment_group : ℕ → ℕ → List ℕ → Group
acknowledgment_group destination source bytes =
    if length bytes == 8 then Acknowledgment (slice_index bytes 0) (slice_index bytes 4) (group_number bytes 5) destination source else Other

-- a connection management message that can be read
abbrev pub control_group : ℕ → ℕ → Option Control → Group
control_group destination source None = Other
control_group destination source (Some control) = ConnectionManagement source destination control

-- by the parameter group number, the destination, the source and the bytes
abbrev pub group_by : ℕ → ℕ → ℕ → List ℕ → Group
group_by pgn destination source bytes =
    if pgn == ADDRESS_CLAIMED then claim_group destination source bytes
    else if pgn == REQUEST then request_group destination source bytes
    else if pgn == ACKNOWLEDGMENT then acknowledgment_group destination source bytes
    else if pgn == pgn_of_kind Dm1 then Diagnostic Dm1 source bytes
    else if pgn == pgn_of_kind Dm2 then Diagnostic Dm2 source bytes
    else if pgn == pgn_of_kind Dm6 then Diagnostic Dm6 source bytes
    else if pgn == CONNECTION_MANAGEMENT then control_group destination source (control_of bytes)
    else if pgn == DATA_TRANSFER then DataTransfer source destination bytes
    else Other

-- what a frame says
unfoldable pub group_of : FrameValue → Group
group_of f = group_by (pgn_of f.id) (pdu_specific_of f.id) (source_of f.id) f.bytes
