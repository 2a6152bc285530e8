use Rattle.std.proofs.Common.{sym, ◌∙◌}
use Rattle.station_c.proofs.Answered.{done_by_number}
use Rattle.station_c.proofs.exports.hearing.readings.hidzgula_listener_missed_at.Goals as goal

-- 0 is the number of no refusal
pub returns-clause-heard : goal.returns-clause-heard
returns-clause-heard c = λ done. c.take_gap.ensures.heard (done_by_number c.take_gap.result (sym c.number.ensures ∙ done))
