use Rattle.journal.proofs.Headline.{station}
use Rattle.journal.proofs.laws.station_stands_for_its_readings.Goals as goal

pub returns : goal.returns
returns c = station
