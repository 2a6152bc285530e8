-- All that the journal says of the bus, its units and its stations.
use Rattle.std.specs.Prelude.{ℕ, suc, List, [], ◌∷◌, map, None, Some, ◌-◌, length, slice_index_or}
use Rattle.address_claim.specs.Frames.{claim_frame_value}
use Rattle.bus_ledger.specs.BusValue.{Traffic}
use Rattle.bus_ledger.specs.Changes.{new_traffic, queued, queued_frame}
use Rattle.bus_ledger.specs.declared.traffic.StationSeat.{StationSeat}
use Rattle.bus_model.specs.Messages.{Message}
use Rattle.bus_model.specs.Expected.{Reception}
use Rattle.node_core.specs.NodeValue.{NodeValue, new_node}
use Rattle.station_table.specs.StationValue.{StationValue}
use Rattle.station_table.specs.Steps.{new_station}

-- a station's NAME, first address and grant, and the window of its unread frames
pub record StationSetting : Type 0 where
  pub name : ℕ
  pub address : ℕ
  pub window : ℕ
  pub grant : ℕ

-- the stations in order of their seats, and the journal's limit
pub record Settings : Type 0 where
  pub stations : List StationSetting
  pub limit : ℕ

-- what stands at the number of no station
abbrev pub no_setting : StationSetting
no_setting = record { name = 0; address = 0; window = 0; grant = 0 }

abbrev pub setting_at : Settings → ℕ → StationSetting
setting_at r y = slice_index_or r.stations y no_setting

-- a station's tables, and newest first what became of carried frames there
pub record StationState : Type 0 where
  pub table : StationValue
  pub path : List Reception

-- a unit on the bus, and the number of the message of its last session
pub record UnitState : Type 0 where
  pub node : NodeValue
  pub session_message : ℕ

-- the bus, the stations, the units in order of their seats, those that are gone included; and, newest first, the messages begun
pub record State : Type 0 where
  pub traffic : Traffic
  pub stations : List StationState
  pub units : List UnitState
  pub begun : List Message

abbrev pub new_state_of : StationSetting → StationState
new_state_of r = record { table = new_station r.name r.address r.grant; path = [] }

abbrev pub no_station : StationState
no_station = new_state_of no_setting

abbrev pub station_at : State → ℕ → StationState
station_at s y = slice_index_or s.stations y no_station

abbrev pub table_at : State → ℕ → StationValue
table_at s y = (station_at s y).table

abbrev pub path_at : State → ℕ → List Reception
path_at s y = (station_at s y).path

-- the seat of a station
abbrev pub station_seat : StationSetting → StationSeat
station_seat r = record { name = r.name; window = r.window }

-- the claim of each of these stations is queued, the first of them on this seat
abbrev pub with_claims : ℕ → List StationSetting → Traffic → Traffic
with_claims y [] t = t
with_claims y (r ∷ rs) t = with_claims (suc y) rs (queued y (queued_frame (claim_frame_value r.name (Some r.address)) None) t)

-- nothing has happened; each station's claim is queued
abbrev pub new_state : Settings → State
new_state r = record {
  traffic = with_claims 0 r.stations (new_traffic (map station_seat r.stations));
  stations = map new_state_of r.stations;
  units = [];
  begun = [];
}

abbrev pub new_unit : ℕ → ℕ → UnitState
new_unit name address = record { node = new_node name address; session_message = 0 }

-- the unit on a seat: units sit behind the stations
abbrev pub unit_at : State → ℕ → UnitState
unit_at s k = slice_index_or s.units (k - length s.stations) (new_unit 0 0)
