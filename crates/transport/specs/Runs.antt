-- A run: the parts of one message from a part to another, in order.
use Rattle.std.specs.Prelude.{ℕ, ◌+◌, ◌-◌, List, map}
use Rattle.std.specs.List.{range_with_len}
use Rattle.can_frame.specs.FrameValue.{FrameValue}
use Rattle.transport.specs.Messages.{part_of_message}

-- a frame of a message, and which part it is
pub record NumberedFrame : Type 0 where
  pub part : ℕ
  pub frame : FrameValue

abbrev pub frame_in : NumberedFrame → FrameValue
frame_in n = n.frame

abbrev pub part_in : NumberedFrame → ℕ
part_in n = n.part

-- part j of a message
abbrev pub numbered : List ℕ → ℕ → ℕ → ℕ → ℕ → NumberedFrame
numbered payload pgn source destination j = record { part = j; frame = part_of_message payload pgn source destination j }

-- the parts from `first` to `end`, both included; none where `first` is the one after `end`
abbrev pub run_of : List ℕ → ℕ → ℕ → ℕ → ℕ → ℕ → List NumberedFrame
run_of payload pgn source destination first end = map (numbered payload pgn source destination) (range_with_len first (end + 1 - first))
