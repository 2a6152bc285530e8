use Rattle.live_unit.proofs.Lent.{on_err}
use Rattle.live_unit.proofs.node.LiveNode.hear.Goals as goal

pub returns-in_err-answer-clause-unasked : goal.returns-in_err-answer-clause-unasked
returns-in_err-answer-clause-unasked g c = on_err c.from_residual.result c.in_err-answer.ensures.unasked
