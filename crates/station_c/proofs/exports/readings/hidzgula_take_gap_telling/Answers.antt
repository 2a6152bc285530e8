use Rattle.std.proofs.Common.{sym, ◌∙◌}
use Rattle.station_c.proofs.Answered.{done_by_number}
use Rattle.station_c.proofs.exports.readings.hidzgula_take_gap_telling.Goals as goal

-- 0 is the number of no refusal
pub returns-clause-taken : goal.returns-clause-taken
returns-clause-taken c = λ done r grant h held. c.take.ensures.taken (done_by_number c.take.result (sym c.number.ensures ∙ done)) r grant h held

pub returns-clause-step : goal.returns-clause-step
returns-clause-step c = λ done. c.take.ensures.step (done_by_number c.take.result (sym c.number.ensures ∙ done))
