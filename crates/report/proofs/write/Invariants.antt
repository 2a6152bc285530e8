use Rattle.std.proofs.Common.{take}
use Rattle.std.specs.List.{flat_map}
use Rattle.std.specs.Io.KnownBytes.{Appends}
use Rattle.report.specs.Text.{row_text}
use Rattle.report.proofs.write.Given as goal

abbrev pub invariant-loop-row : goal.invariant-loop-row
invariant-loop-row g l = Appends (g.W.Write.contents l.initial.writer) (g.W.Write.contents l.writer) (flat_map row_text (take l.row-index l.row-items))
