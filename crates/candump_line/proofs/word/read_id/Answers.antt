use Rattle.std.proofs.Common.{length, arith, ap, ◌∙◌}
use Rattle.candump_line.proofs.BytesLemmas.{bad_none, hex_id}
use Rattle.candump_line.proofs.LineLemmas.{length-id}
use Rattle.candump_line.proofs.word.read_id.Goals as goal

pub returns-in-Some-clause-reads : goal.returns-in-Some-clause-reads
returns-in-Some-clause-reads c = λ n small e. absurd (bad_none _ (c.in-Some.ensures (hex_id _ n e)))

pub returns-then-word-eq3-clause-reads : goal.returns-then-word-eq3-clause-reads
returns-then-word-eq3-clause-reads c = λ n small e. let len = ap length e ∙ length-id n in absurd (omega (arith, len, c.if-word-eq3.true))
