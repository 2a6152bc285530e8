use Rattle.std.proofs.Common.{arith, ◌<◌, ◌≤◌, length}
use Rattle.station_c.proofs.RestoresLive.{hears_next, misses_one}
use Rattle.station_c.proofs.saving.restored_live.Goals as goal

pub loop-record-preserved : goal.loop-record-preserved
loop-record-preserved c =
    let low : c.loop-record.record-index < length c.args.frames.now = omega arith in
    hears_next _ _ _ _ _ _ _ _ low c.in-Ok-frame.ensures.ok.0 c.in-Ok-hear.ensures.stands c.loop-record.invariant

pub returns-in-Ok-missed-clause-stands : goal.returns-in-Ok-missed-clause-stands
returns-in-Ok-missed-clause-stands c =
    let all : length c.args.frames.now ≤ c.loop-record.record-index = omega arith in
    misses_one _ _ _ _ _ _ all c.in-Ok-missed.ensures.stands c.loop-record.invariant
