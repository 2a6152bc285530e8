use Rattle.std.proofs.Common.{take}
use Rattle.std.specs.Io.KnownBytes.{Appends}
use Rattle.unit_threads.specs.Written.{ends_text}
use Rattle.unit_threads.proofs.command.write_ends.Given as goal

-- the lines so far were written
abbrev pub invariant-loop-unit : goal.invariant-loop-unit
invariant-loop-unit g l = Appends (g.W.Write.contents l.fn.writer) (g.W.Write.contents l.writer) (ends_text l.garage 0 (take l.unit l.ended))
