-- A frame of an answer at a place.
use Rattle.std.proofs.Common.{ℕ, ◌≡◌, ◌≤◌, ◌<◌, Bool, true, List, Option, Some, None, IfSome, length, get_or, refl}
use Rattle.std.proofs.lemmas.Option.{slice_get_read}
use Rattle.can_frame.specs.FrameValue.{FrameValue}
use Rattle.can_frame.specs.declared.address.TheConstants.{GLOBAL_ADDRESS}
use Rattle.vehicle.specs.Frames.{answer_frame, last_of_answer}
use Rattle.live_lines.specs.Own.{BeginsAnswer, IsFrameAt, goes_now}
use Rattle.live_lines.specs.declared.answering.Answering.{Answering}

pub frame_there : (all : List Answering) (place source destination j : ℕ) (a : Answering) (r : Option FrameValue) → place < length all → a ≡ get_or all place a
    → IfSome r (λ f. (j ≤ last_of_answer a.line.bytes.items) × (f ≡ answer_frame a.line source destination j))
    → IfSome r (IsFrameAt all place source destination j)
frame_there all place source destination j a None l e h = tt
frame_there all place source destination j a (Some f) l e h =
    record { answering = a; at = slice_get_read all (length all) place a refl l e; within = h.0; frame = h.1 }

pub begins_there : (may_begin : Bool) (all : List Answering) (place source : ℕ) (a : Answering) (r : Option FrameValue) → place < length all → a ≡ get_or all place a
    → goes_now may_begin a ≡ true → IfSome r (λ f. (0 ≤ last_of_answer a.line.bytes.items) × (f ≡ answer_frame a.line source GLOBAL_ADDRESS 0))
    → IfSome r (BeginsAnswer may_begin all source)
begins_there may_begin all place source a None l e g h = tt
begins_there may_begin all place source a (Some f) l e g h = record {
  place = place;
  first = record { answering = a; at = slice_get_read all (length all) place a refl l e; within = h.0; frame = h.1 };
  asked = g;
}
