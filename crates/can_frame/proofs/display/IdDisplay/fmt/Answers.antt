use Rattle.can_frame.proofs.TextLemmas.{padded_id}
use Rattle.can_frame.proofs.display.IdDisplay.fmt.Goals as goal

pub returns-clause-writes : goal.returns-clause-writes
returns-clause-writes g c =
    let shown = rw (c.in_radix.ensures, c.laid_out.ensures, padded_id c.number-number.result c.number-number.ensures.bound) at c.write.ensures.writes in
    rw (← c.number-number.ensures.value) shown
