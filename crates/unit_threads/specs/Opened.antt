-- The garage in which the units of a vehicle run.
use Rattle.std.specs.Prelude.{◌∷◌, [], Option, Some, None}
use Rattle.garage.specs.Opening.{with_one}
use Rattle.journal.specs.State.{Settings, StationSetting}
use Rattle.vehicle.specs.declared.StationTable.{StationTable}
use Rattle.vehicle.specs.declared.StationSettings.{StationSettings}

-- how a station of a vehicle is to be opened
abbrev pub first_wanted : StationTable → StationSetting
first_wanted s = record { name = s.name; address = s.address; window = s.window; grant = s.grant }

-- and a second one
abbrev pub second_wanted : StationSettings → StationSetting
second_wanted s = record { name = s.name; address = s.address; window = s.window; grant = s.grant }

-- the stations of a vehicle, the first one's number first, and the limit of the journal, which the first one has
abbrev pub settings_wanted : StationTable → Option StationSettings → Settings
settings_wanted first None = with_one (first_wanted first) first.limit
settings_wanted first (Some second) = record { stations = first_wanted first ∷ second_wanted second ∷ []; limit = first.limit }
