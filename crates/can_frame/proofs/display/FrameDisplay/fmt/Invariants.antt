use Rattle.std.proofs.Common.{◌++◌, take}
use Rattle.std.specs.List.{flat_map}
use Rattle.std.specs.Fmt.{HasWritten, IsPlainFormatter}
use Rattle.can_frame.specs.FrameText.{id_text, byte_text}
use Rattle.can_frame.proofs.display.FrameDisplay.fmt.Given as goal

abbrev pub invariant-loop-byte : goal.invariant-loop-byte
invariant-loop-byte g l =
    IsPlainFormatter l.fn.f → HasWritten g.W.Write.write_str_gives l.fn.f (id_text l.self.id ++ flat_map byte_text (take l.byte-index l.byte-items)) l.f
