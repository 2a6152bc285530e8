-- The frames that carry a message: one frame of eight bytes, or a broadcast or a session with its packets.
use Rattle.std.specs.Prelude.{ℕ, zero, suc, nat_eq, if◌then◌else◌, List, [], ◌∷◌, length}
use Rattle.can_frame.specs.Fields.{pdu1_number, pdu2_number}
use Rattle.can_frame.specs.FrameValue.{FrameValue, frame}
use Rattle.can_frame.specs.declared.address.TheConstants.{GLOBAL_ADDRESS}
use Rattle.can_frame.specs.declared.group_numbers.TheConstants.{DATA_TRANSFER, CONNECTION_MANAGEMENT}
use Rattle.transport.specs.Pieces.{packet_count, packet}
use Rattle.transport.specs.ControlMessage.{control_bytes}
use Rattle.transport.specs.declared.control.TheConstants.Control.{NO_LIMIT}
use Rattle.transport.specs.declared.control.Control.{Control}
use Rattle.transport.specs.declared.control.Control.TheVariants.{Rts, Bam}

-- the identifier of a connection management message (group 60416, priority 7)
abbrev pub control_id : ℕ → ℕ → ℕ
control_id source destination = pdu1_number 7 CONNECTION_MANAGEMENT destination source

-- and its frame
abbrev pub control_frame : Control → ℕ → ℕ → FrameValue
control_frame control source destination = frame (control_id source destination) (control_bytes control)

-- the identifier of a data transfer packet (group 60160, priority 7)
abbrev pub packet_id : ℕ → ℕ → ℕ
packet_id source destination = pdu1_number 7 DATA_TRANSFER destination source

-- and its frame
abbrev pub packet_frame : List ℕ → ℕ → ℕ → FrameValue
packet_frame bytes source destination = frame (packet_id source destination) bytes

-- what announces a payload: to all a Bam, else an Rts with no limit
abbrev pub announcement : ℕ → ℕ → ℕ → Control
announcement size pgn destination =
    if nat_eq destination GLOBAL_ADDRESS then Bam size (packet_count size) pgn else Rts size (packet_count size) NO_LIMIT pgn

-- part 0 of a message: the one frame to all if the payload has eight bytes, else the announcement
abbrev pub first_part : List ℕ → ℕ → ℕ → ℕ → FrameValue
first_part payload pgn source destination =
    if nat_eq (length payload) 8 then frame (pdu2_number 6 pgn source) payload
    else control_frame (announcement (length payload) pgn destination) source destination

-- the part of a message: part 0 comes first, part j is the packet of number j
abbrev pub part_of_message : List ℕ → ℕ → ℕ → ℕ → ℕ → FrameValue
part_of_message payload pgn source destination zero = first_part payload pgn source destination
part_of_message payload pgn source destination (suc j) = packet_frame (packet payload (suc j)) source destination

-- the number of a message's last part
abbrev pub last_part : List ℕ → ℕ
last_part payload = if nat_eq (length payload) 8 then 0 else packet_count (length payload)

-- the parts of a message from one on, this many of them
abbrev pub parts_from : List ℕ → ℕ → ℕ → ℕ → ℕ → ℕ → List FrameValue
parts_from payload pgn source destination j zero = []
parts_from payload pgn source destination j (suc count) =
    part_of_message payload pgn source destination j ∷ parts_from payload pgn source destination (suc j) count

-- all frames of a message, in order
abbrev pub frames_of_message : List ℕ → ℕ → ℕ → ℕ → List FrameValue
frames_of_message payload pgn source destination = parts_from payload pgn source destination 0 (suc (last_part payload))
