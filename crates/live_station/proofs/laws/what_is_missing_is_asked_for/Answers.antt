use Rattle.live_station.proofs.Ears.{asked_is_missing}
use Rattle.live_station.proofs.laws.what_is_missing_is_asked_for.Goals as goal

pub returns : goal.returns
returns c = asked_is_missing
