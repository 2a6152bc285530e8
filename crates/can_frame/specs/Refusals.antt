use Rattle.std.specs.Prelude.{ℕ}
use Rattle.can_frame.specs.declared.frame.FrameError.{FrameError}
use Rattle.can_frame.specs.declared.frame.FrameError.TheVariants.{IdTooLarge, TooLong}

-- the number of a frame's refusal
abbrev pub frame_error_number : FrameError → ℕ
frame_error_number IdTooLarge = 1
frame_error_number TooLong = 2
