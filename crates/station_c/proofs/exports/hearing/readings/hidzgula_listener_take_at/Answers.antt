use Rattle.std.proofs.Common.{sym, subst, ◌∙◌}
use Rattle.can_frame.specs.FrameValue.{FrameValue}
use Rattle.station_c.specs.HeardSeries.{OverhearsFrame, time_handed}
use Rattle.station_c.proofs.Answered.{done_by_number}
use Rattle.station_c.proofs.exports.hearing.readings.hidzgula_listener_take_at.Goals as goal

-- the frame that was taken is the one of the identifier and the bytes
pub returns-in-Ok-clause-heard : goal.returns-in-Ok-clause-heard
returns-in-Ok-clause-heard c = λ done.
    let it = c.take.ensures.heard (done_by_number c.take.result (sym c.number.ensures ∙ done)) in
    (it.0, subst (λ (f : FrameValue). OverhearsFrame c.args.handle.now.value (time_handed c.args.now) f c.take.new.heard c.take.new.handle.value) c.in-Ok.ensures.ok it.1)
