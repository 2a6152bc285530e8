-- The frames by which a group is sent again and again, or where it is asked for.
use Rattle.std.specs.Prelude.{ℕ, List, ◌≡◌, ◌≤◌, ◌*◌, length, nat_le, IfSome, if◌then◌else◌}
use Rattle.std.specs.List.{All, sum_by}
use Rattle.can_frame.specs.Fields.{pdu2_number}
use Rattle.can_frame.specs.FrameValue.{FrameValue, frame}
use Rattle.transport.specs.Messages.{part_of_message}
use Rattle.transport.specs.Pieces.{packet_count}
use Rattle.vehicle.specs.Moving.{IsUncovered, Shows, bit_of, value_at}
use Rattle.vehicle.specs.Checksum.{IsChecked}
use Rattle.vehicle.specs.declared.answer_line.AnswerLine.{AnswerLine}
use Rattle.vehicle.specs.declared.long_line.CyclicLine.{CyclicLine}
use Rattle.vehicle.specs.declared.long_line.CyclicLine.TheVariants.{Long, One}
use Rattle.vehicle.specs.declared.send_line.SendLine.{SendLine}

-- bit n is none of a field, and none of the checksum
abbrev pub IsStill : SendLine → ℕ → Type 0
IsStill s n = All (λ f. IsUncovered f.bits n) s.fields.items × IfSome s.checksum (λ c. IsUncovered c n)

-- the frame from an address before which so many went
pub record IsFrameOf (s : SendLine) (source count : ℕ) (f : FrameValue) : Type 0 where
  pub id_is : f.id ≡ pdu2_number s.priority s.pgn source
  pub size : length f.bytes ≡ length s.bytes.items
  -- the other bits are as the file has them
  pub still : (n : ℕ) → IsStill s n → bit_of f.bytes n ≡ bit_of s.bytes.items n
  pub moved : All (λ m. Shows m.bits (value_at m.motion count) f.bytes) s.fields.items
  pub checked : IfSome s.checksum (λ c. IsChecked c f.id f.bytes)

-- the number of the last frame of an answer: 0 where eight bytes are enough, else its number of packets
abbrev pub last_of_answer : List ℕ → ℕ
last_of_answer bytes = if nat_le (length bytes) 8 then 0 else packet_count (length bytes)

-- frame j of an answer: the one with all its bytes, to all; else frame 0 announces it, and frame j is the packet of number j
abbrev pub answer_frame : AnswerLine → ℕ → ℕ → ℕ → FrameValue
answer_frame a source destination j =
    if nat_le (length a.bytes.items) 8 then frame (pdu2_number a.priority a.pgn source) a.bytes.items
    else part_of_message a.bytes.items a.pgn source destination j

-- how many packets a group that is sent again and again has
abbrev pub packets_in : CyclicLine → ℕ
packets_in (One s) = 0
packets_in (Long s) = packet_count (length s.line.bytes.items)

-- twice the time that the packets of all of them take, each a gap behind the other, in milliseconds
abbrev pub least_period : ℕ → List CyclicLine → ℕ
least_period gap sends = sum_by (λ s. 2 * (gap * packets_in s)) sends

-- the period of one that goes in packets is not shorter
abbrev pub LastsFor : ℕ → CyclicLine → Type 0
LastsFor least (One s) = Unit {0}
LastsFor least (Long s) = least ≤ s.period

-- half of each period at least is left
abbrev pub LeavesHalf : ℕ → List CyclicLine → Type 0
LeavesHalf gap sends = All (LastsFor (least_period gap sends)) sends
