-- A state in the words of the law: the world of the bus's machine that it is.
use Rattle.std.specs.Prelude.{ℕ, suc, List, [], ◌∷◌, map, reverse}
use Rattle.bus_ledger.specs.BusValue.{SeatValue, seat_at}
use Rattle.bus_ledger.specs.declared.traffic.QueuedFrame.{QueuedFrame}
use Rattle.bus_model.specs.Messages.{Message}
use Rattle.bus_model.specs.Traffic.{Item}
use Rattle.bus_model.specs.Heard.{StationSettings}
use Rattle.bus_model.specs.Machine.{Seat, Station, World}
use Rattle.journal.specs.State.{Settings, State, StationSetting, path_at, setting_at}
use Rattle.journal.specs.Steps.{item_of, part_of}

-- a station's NAME and the address that it claims first
abbrev pub law_settings : StationSetting → StationSettings
law_settings r = record { name = r.name; address = r.address }

abbrev pub stations_of : Settings → List StationSettings
stations_of r = map law_settings r.stations

abbrev pub station_of_at : Settings → ℕ → StationSettings
station_of_at r y = law_settings (setting_at r y)

-- those of station 0
abbrev pub station_of : Settings → StationSettings
station_of r = station_of_at r 0

-- the frames carried, the oldest first, each with the number and the NAME of its seat and the message that it is a part of
abbrev pub items_of : State → List Item
items_of s = map (item_of s) s.traffic.wire

-- a frame queued by the seat k likewise
abbrev pub queued_item : List Message → ℕ → ℕ → QueuedFrame → Item
queued_item begun k name q = record { seat = k; name = name; frame = q.frame; tag = part_of begun q.tag }

-- a seat's queue, newest first
abbrev pub queue_of : List Message → ℕ → SeatValue → List Item
queue_of begun k v = reverse (map (queued_item begun k v.name) v.queue)

-- a function of each element and its place, counted from 0
unfoldable pub by_place : {A B : Type 0} → (ℕ → A → B) → List A → List B
by_place f [] = []
by_place f (x ∷ xs) = f 0 x ∷ by_place (λ i. f (suc i)) xs

-- a station with its seat
abbrev pub world_station : State → ℕ → StationSetting → Station
world_station s y r = record { settings = law_settings r; asked = queue_of s.begun y (seat_at s.traffic y); path = path_at s y }

-- the state with these seats of units
abbrev pub world_of : Settings → State → List Seat → World
world_of r s seats = record {
  stations = by_place (world_station s) r.stations;
  wire = reverse (items_of s);
  seats = seats;
  begun = s.begun;
}
