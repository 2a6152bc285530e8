use Rattle.std.proofs.Common.{◌∙◌}
use Rattle.station_c.proofs.LiveKeeping.{stands_put_back}
use Rattle.station_c.proofs.exports.live.frames.hidzgula_live_next.Goals as goal

pub returns-clause-holds : goal.returns-clause-holds
returns-clause-holds c = λ done r grant keep h held. (
  c.put.ensures.open,
  stands_put_back _ _ _ _ h h r grant keep (c.deref_mut.ensures.value ∙ c.in-Some.ensures.value) c.put.ensures.value
      (c.pull-pulled.ensures.stands r grant keep h) held.1,
)
