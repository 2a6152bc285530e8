use Rattle.std.proofs.Common.{◌∷◌, ◌∙◌}
use Rattle.can_frame.specs.declared.reading.Reading.TheVariants.{Gap}
use Rattle.station_c.proofs.LiveKeeping.{stands_put_back}
use Rattle.station_c.proofs.exports.live.frames.hidzgula_live_missed.Goals as goal

pub returns-in-Ok-clause-taken : goal.returns-in-Ok-clause-taken
returns-in-Ok-clause-taken c = λ done r grant keep h held. (
  c.put.ensures.open,
  stands_put_back _ _ _ _ h (Gap c.args.count ∷ h) r grant keep (c.deref_mut.ensures.value ∙ c.in-Some.ensures.value) c.put.ensures.value
      (c.in-Ok.ensures.stands r grant keep h) held.1,
)
