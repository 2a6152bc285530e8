use Rattle.station_c.proofs.LiveKeeping.{first_is}
use Rattle.station_c.proofs.listed_live.ListedLive.new.Goals as goal

pub returns-clause-value : goal.returns-clause-value
returns-clause-value c = first_is _ _ _ _ _ _ c.in_ok-live.ensures.value c.new-lists.ensures.value c.in_ok-shared.ensures
