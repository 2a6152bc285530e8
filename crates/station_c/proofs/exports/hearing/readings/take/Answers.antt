use Rattle.std.proofs.Common.{◌∙◌}
use Rattle.station_c.specs.HeardSeries.{time_handed}
use Rattle.station_c.proofs.Hearing.{heard_lifted}
use Rattle.station_c.proofs.exports.hearing.readings.take.Goals as goal

-- the listener that was lifted took the frame, and was put back
pub returns-clause-heard : goal.returns-clause-heard
returns-clause-heard c = λ done. (
  c.put.ensures.open,
  heard_lifted _ _ _ _ (time_handed c.args.now) c.args.frame.now _ (c.deref_mut.ensures.value ∙ c.in-Some.ensures.value) c.put.ensures.value (c.hear_frame-status.ensures.heard done),
)
