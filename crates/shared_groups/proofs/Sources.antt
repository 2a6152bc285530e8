-- A frame that waits goes from the address that it is made for.
use Rattle.std.proofs.Common.{◌≡◌, ℕ, ◌<◌, arith}
use Rattle.can_frame.specs.Fields.{source_of, pdu1_number}
use Rattle.shared_groups.specs.Sharing.{frame_waiting}
use Rattle.shared_groups.specs.declared.waiting.Waiting.{Waiting}
use Rattle.shared_groups.specs.declared.waiting.Waiting.TheVariants as waiting

source_to_one : (priority pgn destination source : ℕ) → source < 256 → source_of (pdu1_number priority pgn destination source) ≡ source
source_to_one priority pgn destination source h = omega arith

pub frame_from : (own : ℕ) (w : Waiting) → own < 256 → source_of (frame_waiting own w).id ≡ own
frame_from own (waiting.Grant granted next pgn to) h = source_to_one 7 60416 to own h
frame_from own (waiting.End size packets pgn to) h = source_to_one 7 60416 to own h
frame_from own (waiting.Abort reason pgn to) h = source_to_one 7 60416 to own h
frame_from own (waiting.Request pgn to) h = source_to_one 6 59904 to own h
