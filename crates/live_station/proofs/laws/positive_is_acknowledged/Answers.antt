use Rattle.live_station.proofs.Found.{positive_by_acknowledgment}
use Rattle.live_station.proofs.laws.positive_is_acknowledged.Goals as goal

pub returns : goal.returns
returns c = positive_by_acknowledgment
