use Rattle.std.proofs.Common.{arith}
use Rattle.candump_line.proofs.LineLemmas.{text_of_bus}
use Rattle.candump_line.proofs.logged.bus_name.Goals as goal

pub returns-then-is_empty-clause-reads_back : goal.returns-then-is_empty-clause-reads_back
returns-then-is_empty-clause-reads_back c = λ named. let some = named.some in absurd (grind arith)

pub returns-in-Ok-clause-reads_back : goal.returns-in-Ok-clause-reads_back
returns-in-Ok-clause-reads_back c = λ named. c.in-Ok.ensures.cases.0

pub returns-in-Err-clause-reads_back : goal.returns-in-Err-clause-reads_back
returns-in-Err-clause-reads_back c = λ named. absurd (c.in-Err.ensures.cases.0 (text_of_bus _ named))
