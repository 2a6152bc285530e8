use Rattle.std.proofs.Common.{Some, ap, ◌∙◌}
use Rattle.candump_line.proofs.TimeLemmas.{told_of, of_three, of_six, of_nine}
use Rattle.candump_line.proofs.time.fraction_micros.Goals as goal

pub returns-in-3-clause-reads : goal.returns-in-3-clause-reads
returns-in-3-clause-reads c = λ three small.
    let told = of_three _ _ c.in-3.is small in
    told_of _ _ _ c.below_a_second.ensures told.0 ∙ ap Some told.1

pub returns-in-6-clause-reads : goal.returns-in-6-clause-reads
returns-in-6-clause-reads c = λ three small.
    let told = of_six _ _ c.in-6.is small in
    told_of _ _ _ c.below_a_second-in-6.ensures told.0 ∙ ap Some told.1

pub returns-in-9-clause-reads : goal.returns-in-9-clause-reads
returns-in-9-clause-reads c = λ three small.
    let told = of_nine _ _ c.in-9.is small in
    told_of _ _ _ c.below_a_second-in-9.ensures told.0 ∙ ap Some told.1
