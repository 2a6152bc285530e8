-- Each frame of an answer is from the address from which it is sent.
use Rattle.std.proofs.Common.{ℕ, zero, suc, ◌≡◌, ◌<◌, Bool, true, false, if◌then◌else◌, List, arith}
use Rattle.can_frame.specs.Fields.{source_of, pdu1_number, pdu2_number}
use Rattle.can_frame.specs.FrameValue.{FrameValue}
use Rattle.transport.specs.Messages.{part_of_message}
use Rattle.vehicle.specs.Frames.{answer_frame}
use Rattle.vehicle.specs.declared.answer_line.AnswerLine.{AnswerLine}

to_one : (priority pgn destination source : ℕ) → source < 256 → source_of (pdu1_number priority pgn destination source) ≡ source
to_one priority pgn destination source h = omega arith

to_all : (priority pgn source : ℕ) → source < 256 → source_of (pdu2_number priority pgn source) ≡ source
to_all priority pgn source h = omega arith

by_size : (P : FrameValue → Type 0) (b : Bool) (x y : FrameValue) → P x → P y → P (if b then x else y)
by_size P true x y p q = p
by_size P false x y p q = q

part_source : (payload : List ℕ) (pgn source destination j : ℕ) → source < 256 → source_of (part_of_message payload pgn source destination j).id ≡ source
part_source payload pgn source destination zero h =
    by_size (λ (f : FrameValue). source_of f.id ≡ source) _ _ _ (to_all 6 pgn source h) (to_one 7 60416 destination source h)
part_source payload pgn source destination (suc j) h = to_one 7 60160 destination source h

pub answer_source : (a : AnswerLine) (source destination j : ℕ) → source < 256 → source_of (answer_frame a source destination j).id ≡ source
answer_source a source destination j h =
    by_size (λ (f : FrameValue). source_of f.id ≡ source) _ _ _ (to_all a.priority a.pgn source h) (part_source a.bytes.items a.pgn source destination j h)
