use Rattle.std.proofs.Common.{◌∷◌, ◌∙◌}
use Rattle.can_frame.specs.declared.reading.Reading.TheVariants.{Frame}
use Rattle.station_c.proofs.LiveKeeping.{stands_put_back}
use Rattle.station_c.proofs.exports.live.frames.hear.Goals as goal

pub returns-in-Ok-clause-taken : goal.returns-in-Ok-clause-taken
returns-in-Ok-clause-taken c = λ done r grant keep h held. (
  c.put.ensures.open,
  stands_put_back _ _ _ _ h (Frame c.args.frame.now ∷ h) r grant keep (c.deref_mut.ensures.value ∙ c.in-Some.ensures.value) c.put.ensures.value
      (c.in-Ok.ensures.stands r grant keep h) held.1,
)
