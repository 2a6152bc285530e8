use Rattle.std.proofs.Common.{◌∙◌}
use Rattle.station_c.proofs.Hearing.{gap_lifted}
use Rattle.station_c.proofs.exports.hearing.readings.take_gap.Goals as goal

-- the listener that was lifted was told of the frames that were missed, and was put back
pub returns-clause-heard : goal.returns-clause-heard
returns-clause-heard c = λ done. (
  c.put.ensures.open,
  gap_lifted _ _ _ _ c.args.count _ (c.deref_mut.ensures.value ∙ c.in-Some.ensures.value) c.put.ensures.value (c.hear_gap-status.ensures.heard done),
)
