-- The settings with which a garage is opened.
use Rattle.std.specs.Prelude.{ℕ, ◌≢◌, ◌<◌, ◌≤◌, ◌^◌, List, [], ◌∷◌, map, length, slice_index_or}
use Rattle.std.specs.List.{All}
use Rattle.bus_ledger.specs.declared.bus.TheConstants.{MOST_STATIONS, MOST_UNREAD}
use Rattle.bus_ledger.specs.declared.traffic.StationSeat.{StationSeat}
use Rattle.can_frame.specs.declared.address.TheConstants.{GREATEST_ADDRESS}
use Rattle.journal.specs.State.{Settings, StationSetting, station_seat}
use Rattle.journal.specs.Journal.{GarageValue}
use Rattle.journal.specs.declared.tally.Tally.{Tally}
use Rattle.journal.specs.declared.notes.TheConstants.{MOST_EVENTS}
use Rattle.garage.specs.declared.opening.Setting.{Setting}

-- an address that can be held, a window of 1 to 4,096 frames, a grant of at least one packet, a journal of 1 to 2^24 events
pub record IsSetting (r : StationSetting) (most : ℕ) : Type 0 where
  pub address : r.address ≤ GREATEST_ADDRESS
  pub some_window : 1 ≤ r.window
  pub window : r.window ≤ MOST_UNREAD
  pub some_grant : 1 ≤ r.grant
  pub some_limit : 1 ≤ most
  pub limit : most ≤ MOST_EVENTS

-- a setting as the journal has it
abbrev pub setting_value : Setting → StationSetting
setting_value s = record { name = s.name; address = s.address; window = s.window; grant = s.grant }

-- and as the bus has it
abbrev pub station_seat_of : Setting → StationSeat
station_seat_of s = station_seat (setting_value s)

-- what stands at the number of no station
abbrev pub nothing_set : Setting
nothing_set = record { name = 0; address = 0; window = 0; grant = 0 }

abbrev pub setting_in : List Setting → ℕ → Setting
setting_in settings y = slice_index_or settings y nothing_set

-- with such a setting a station can start
abbrev pub CanStart : Setting → Type 0
CanStart s = (s.address ≤ GREATEST_ADDRESS) × (0 < s.grant)

-- the first n have NAMEs of 64 bits
abbrev pub HaveNames : List Setting → ℕ → Type 0
HaveNames settings n = (y : ℕ) → y < n → (setting_in settings y).name < 2 ^ 64

-- 1 to 8 stations, each with such a setting
pub record AreSettings (settings : List Setting) (most : ℕ) : Type 0 where
  pub some : 0 < length settings
  pub few : length settings ≤ MOST_STATIONS
  pub each : All (λ s. IsSetting (setting_value s) most) settings

-- none before the i-th has its NAME
abbrev pub IsApartBefore : List Setting → ℕ → Type 0
IsApartBefore settings i = (j : ℕ) → j < i → (setting_in settings j).name ≢ (setting_in settings i).name

-- no two have one NAME
abbrev pub HaveOwnNames : List Setting → Type 0
HaveOwnNames settings = (i : ℕ) → i < length settings → IsApartBefore settings i

-- a garage of one station
abbrev pub with_one : StationSetting → ℕ → Settings
with_one r limit = record { stations = r ∷ []; limit = limit }

-- a garage of these stations
abbrev pub with_stations : List Setting → ℕ → Settings
with_stations settings limit = record { stations = map setting_value settings; limit = limit }

-- nothing has happened
abbrev pub new_garage : Settings → GarageValue
new_garage r = record { settings = r; journal = [] }

-- what the journal tells of a seat that no unit was given
abbrev pub no_events : Tally
no_events = record { joined = 0; turned = 0; left = 0; events = 0 }
