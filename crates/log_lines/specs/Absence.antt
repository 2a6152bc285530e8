-- Whether it is told of a line: it is a frame of SAE J1939, of the bus and at a time that are asked for.
use Rattle.std.specs.Prelude.{Bool, true, false}
use Rattle.candump_line.specs.declared.line.Line.{Line}
use Rattle.candump_line.specs.declared.line.Line.TheVariants as line
use Rattle.log_lines.specs.declared.absence.FrameFate.{FrameFate}
use Rattle.log_lines.specs.declared.absence.FrameFate.TheVariants as fate

abbrev pub is_fate_told : FrameFate → Bool
is_fate_told fate.Told = true
is_fate_told _ = false

abbrev pub is_frame_told : Line → FrameFate → Bool
is_frame_told (line.Frame time bus frame) f = is_fate_told f
is_frame_told _ f = false
