use Rattle.std.proofs.Common.{◌∷◌, sym, subst, ◌∙◌}
use Rattle.can_frame.specs.FrameValue.{FrameValue}
use Rattle.can_frame.specs.declared.reading.Reading.TheVariants.{Frame}
use Rattle.station_c.specs.LiveHandles.{HoldsLive}
use Rattle.station_c.proofs.Answered.{done_by_number}
use Rattle.station_c.proofs.exports.live.frames.hidzgula_live_hear.Goals as goal

-- the frame that was heard is the one of the identifier and the bytes
pub returns-in-Ok-clause-taken : goal.returns-in-Ok-clause-taken
returns-in-Ok-clause-taken c = λ done r grant keep h held.
    subst (λ (f : FrameValue). HoldsLive r grant keep c.hear.new.handle (Frame f ∷ h)) c.in-Ok.ensures.ok
    (c.hear.ensures.taken (done_by_number c.hear.result (sym c.number.ensures ∙ done)) r grant keep h held)
