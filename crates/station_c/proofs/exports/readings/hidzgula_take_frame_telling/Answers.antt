use Rattle.std.proofs.Common.{◌∷◌, sym, subst, ◌∙◌}
use Rattle.can_frame.specs.FrameValue.{FrameValue}
use Rattle.can_frame.specs.declared.reading.Reading.TheVariants.{Frame}
use Rattle.station_c.specs.Handles.{HoldsReadings}
use Rattle.station_c.specs.Series.{TakesReading, reaction_told}
use Rattle.station_c.proofs.Answered.{done_by_number}
use Rattle.station_c.proofs.exports.readings.hidzgula_take_frame_telling.Goals as goal

-- the frame that was taken is the one of the identifier and the bytes
pub returns-in-Ok-clause-taken : goal.returns-in-Ok-clause-taken
returns-in-Ok-clause-taken c = λ done r grant h held.
    subst (λ (f : FrameValue). HoldsReadings r grant c.take.new.handle (Frame f ∷ h)) c.in-Ok.ensures.ok
    (c.take.ensures.taken (done_by_number c.take.result (sym c.number.ensures ∙ done)) r grant h held)

pub returns-in-Ok-clause-step : goal.returns-in-Ok-clause-step
returns-in-Ok-clause-step c = λ done.
    subst (λ (f : FrameValue). TakesReading c.args.handle.now.value (Frame f) c.take.new.change (reaction_told c.take.new.reply) c.take.new.handle.value) c.in-Ok.ensures.ok
    (c.take.ensures.step (done_by_number c.take.result (sym c.number.ensures ∙ done)))
