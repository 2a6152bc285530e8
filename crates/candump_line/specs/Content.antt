-- What a line says of its time, and whether it tells of frames.
use Rattle.std.specs.Prelude.{ℕ, Bool, true, false, Option, None}
use Rattle.candump_line.specs.declared.line.Line.{Line}
use Rattle.candump_line.specs.declared.line.Line.TheVariants.{Frame, Overflow, Note, Bad}

-- the time of a line
abbrev pub time_of : Line → Option ℕ
time_of (Frame time bus frame) = time
time_of (Overflow time bus) = time
time_of _ = None

-- the line without it
abbrev pub untimed : Line → Line
untimed (Frame time bus frame) = Frame None bus frame
untimed (Overflow time bus) = Overflow None bus
untimed line = line

-- it tells of a frame: one of J1939, another one, or one that was lost
abbrev pub is_of_frames : Line → Bool
is_of_frames Note = false
is_of_frames (Bad reason) = false
is_of_frames _ = true
