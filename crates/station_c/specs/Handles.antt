-- What the handle of a C program holds, before and after a call.
use Rattle.std.specs.Prelude.{◌≡◌, ℕ, List, Bool, true}
use Rattle.can_frame.specs.declared.reading.Reading.{Reading}
use Rattle.bus_model.specs.Heard.{StationSettings}
use Rattle.entry_lists.specs.Newest.{KeepsNewest}
use Rattle.station_table.specs.Listing.{lists_heard}
use Rattle.station_table.specs.StandsFor.{StandsFor}
use Rattle.station_c.specs.Held.{is_there}
use Rattle.station_c.specs.declared.handle.StationHandle.{StationHandle}

-- it has a station: its pointer is not null, whatever its flag says
abbrev pub has_station : StationHandle → Bool
has_station handle = is_there handle.at

-- it holds what it held: none, or the same station with the same lists
abbrev pub HoldsSame : StationHandle → StationHandle → Type 0
HoldsSame before after = (has_station after ≡ has_station before) × (has_station before ≡ true → after.value ≡ before.value)

-- it holds a station that stands for these readings, and the newest entries of each list that was heard of them
abbrev pub HoldsReadings : StationSettings → ℕ → StationHandle → List Reading → Type 0
HoldsReadings r grant handle h =
    (has_station handle ≡ true) × StandsFor r grant handle.value.station h × KeepsNewest handle.value.lists (lists_heard r h)
