use Rattle.std.specs.Io.KnownBytes.{Appends}
use Rattle.unit_threads.specs.Written.{reports_text}
use Rattle.unit_threads.proofs.command.write_reports.Given as goal

-- the reports so far were written
abbrev pub invariant-loop-station : goal.invariant-loop-station
invariant-loop-station g l = Appends (g.W.Write.contents l.fn.writer) (g.W.Write.contents l.writer) (reports_text l.garage l.station)
