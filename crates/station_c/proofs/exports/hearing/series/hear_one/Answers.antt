use Rattle.std.proofs.Common.{subst}
use Rattle.can_frame.specs.FrameValue.{FrameValue}
use Rattle.station_c.specs.HeardSeries.{OverhearsFrame, time_handed}
use Rattle.station_c.proofs.exports.hearing.series.hear_one.Goals as goal

-- the frame that was taken is the one of the record
pub returns-in-Ok-clause-heard : goal.returns-in-Ok-clause-heard
returns-in-Ok-clause-heard c = λ done.
    let read = c.in-Ok.ensures.ok in
    (read.1, read.2, subst (λ (f : FrameValue). OverhearsFrame c.args.listener.now (time_handed c.args.now) f c.hear_frame.new.heard c.hear_frame.new.self) read.0 (c.hear_frame.ensures.heard done))
