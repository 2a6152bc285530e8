use Rattle.watch_reports.specs.Writing.{WroteSome}
use Rattle.watch_reports.proofs.value_rows.write_value_rows.Given as goal

abbrev pub invariant-loop-key : goal.invariant-loop-key
invariant-loop-key g l = WroteSome g.W.Write.contents l.initial.report l.report
