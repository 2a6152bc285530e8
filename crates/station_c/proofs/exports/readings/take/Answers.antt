use Rattle.std.proofs.Common.{◌∙◌}
use Rattle.station_c.proofs.Answered.{done_is_ok}
use Rattle.station_c.proofs.SeriesLemmas.{took, took_lifted}
use Rattle.station_c.proofs.Taken.{put_back, told_back}
use Rattle.station_c.proofs.exports.readings.take.Goals as goal

-- the station that was lifted took the reading, and was put back
pub returns-clause-taken : goal.returns-clause-taken
returns-clause-taken c = λ done r grant h held.
    let stands = done_is_ok _ _ _ c.take-taken.result c.tell.result c.tell.ensures.refused done c.take-taken.ensures.stands in
    let lists = done_is_ok _ _ _ c.take-taken.result c.tell.result c.tell.ensures.refused done c.take-taken.ensures.lists in
    let both = put_back _ _ _ _ c.args.reading (c.deref_mut.ensures.value ∙ c.in-Some.ensures.value) c.put.ensures.value stands lists r grant h held.1 held.2 in
    (c.put.ensures.open, both.0, both.1)

pub returns-clause-changed : goal.returns-clause-changed
returns-clause-changed c = λ done r grant h held.
    told_back c.take-taken.result c.tell.result _ _ _ _ _ _ c.args.reading (c.deref_mut.ensures.value ∙ c.in-Some.ensures.value) c.tell.ensures.refused c.tell.ensures.done
    c.take-taken.ensures.change done r grant h held.1

pub returns-clause-step : goal.returns-clause-step
returns-clause-step c = λ done.
    took_lifted _ _ _ _ c.args.reading _ _ (c.deref_mut.ensures.value ∙ c.in-Some.ensures.value) c.put.ensures.value
    (took _ _ _ c.take-taken.result c.tell.result c.tell.new.reply c.tell.new.change _ _ c.take-taken.ensures.stands c.take-taken.ensures.lists
    c.take-taken.ensures.keep c.take-taken.ensures.answer c.take-taken.ensures.change c.tell.ensures.refused c.tell.ensures.done done)
