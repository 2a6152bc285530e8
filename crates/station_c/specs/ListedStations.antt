-- A station, and the lists that it fills.
use Rattle.entry_lists.specs.Newest.{NewestLists}
use Rattle.station_table.specs.StationValue.{StationValue}

-- the station, and which entries are kept
pub record ListedStationValue : Type 0 where
  pub station : StationValue
  pub lists : NewestLists
