use Rattle.std.proofs.Common.{subst, sym}
use Rattle.candump_line.specs.LineForms.{IsMarkedText}
use Rattle.candump_line.proofs.read.read_any.Goals as goal

pub returns-in-Ok : goal.returns-in-Ok
returns-in-Ok c = λ text h. c.read_other.ensures text (subst (λ line. IsMarkedText line text) (sym c.in-Ok.ensures.cases.0) h.marked)

pub returns-in-Err : goal.returns-in-Err
returns-in-Err c = λ text h. absurd (c.in-Err.ensures.cases.0 h.utf8)
