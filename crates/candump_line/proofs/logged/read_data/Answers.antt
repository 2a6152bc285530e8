use Rattle.std.proofs.Common.{length, arith, ap, ◌∙◌}
use Rattle.candump_line.proofs.LineLemmas.{length-data, data_made}
use Rattle.std.proofs.lemmas.Grind.{common_steps}
use Rattle.candump_line.proofs.logged.read_data.Goals as goal

pub returns-then-len-gt8-clause-reads_back : goal.returns-then-len-gt8-clause-reads_back
returns-then-len-gt8-clause-reads_back c = λ f lawful same ed. let len = ap length ed ∙ length-data f.bytes in absurd (omega (arith, lawful.len))

pub returns-then-not-read_pairs-clause-reads_back : goal.returns-then-not-read_pairs-clause-reads_back
returns-then-not-read_pairs-clause-reads_back c = λ f lawful same ed.
    let len = ap length ed ∙ length-data f.bytes in
    let done = c.read_pairs.ensures.reads_back f.bytes lawful.bytes (grind (arith, common_steps)) ed in
    cc

pub returns-clause-reads_back : goal.returns-clause-reads_back
returns-clause-reads_back c = λ f lawful same ed.
    let len = ap length ed ∙ length-data f.bytes in
    let done = c.read_pairs.ensures.reads_back f.bytes lawful.bytes (grind (arith, common_steps)) ed in
    data_made _ _ _ _ f _ c.data_frame.ensures.frame same done.1 (omega arith) lawful
