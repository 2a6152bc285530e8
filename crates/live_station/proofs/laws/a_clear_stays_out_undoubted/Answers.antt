use Rattle.live_station.proofs.Staying.{stays_undoubted}
use Rattle.live_station.proofs.laws.a_clear_stays_out_undoubted.Goals as goal

pub returns : goal.returns
returns c = stays_undoubted
