-- What a line that was read says, in the words of its text.
use Rattle.std.specs.Prelude.{ℕ, List, Option, Some, None, option_map}
use Rattle.can_frame.specs.FrameValue.{FrameValue}
use Rattle.candump_line.specs.declared.line.Line.{Line}
use Rattle.candump_line.specs.declared.line.Line.TheVariants.{Dropped, Frame, Overflow}
use Rattle.candump_line.specs.declared.logged.Logged.{Logged}

abbrev pub logged_value : Logged → ℕ × List ℕ × FrameValue
logged_value l = (l.time, l.bus.now, l.frame)

-- the time, the bus and the frame of a line that has all three
abbrev pub frame_read : Line → Option (ℕ × List ℕ × FrameValue)
frame_read (Frame (Some time) (Some bus) f) = Some (time, bus.now, f)
frame_read _ = None

-- the frame of a line, with the time and the bus where it has them
abbrev pub frame_told : Line → Option (Option ℕ × Option (List ℕ) × FrameValue)
frame_told (Frame time bus f) = Some (time, option_map (λ b. b.now) bus, f)
frame_told _ = None

-- so of a line that tells of lost frames
abbrev pub overflow_told : Line → Option (Option ℕ × Option (List ℕ))
overflow_told (Overflow time bus) = Some (time, option_map (λ b. b.now) bus)
overflow_told _ = None

-- so of one that tells of dropped frames, with their number
abbrev pub dropped_told : Line → Option (Option (List ℕ) × ℕ)
dropped_told (Dropped bus count) = Some (option_map (λ b. b.now) bus, count)
dropped_told _ = None
