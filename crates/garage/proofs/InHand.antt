-- What the journal's laws say of the fields of a garage.
use Rattle.std.proofs.Common.{ℕ, ◌≡◌, ◌<◌, true, length, ap, ◌∙◌, arith}
use Rattle.bus_ledger.specs.BusValue.{Traffic, IsLive, IsStation, seat_at}
use Rattle.journal.proofs.Living as living
use Rattle.journal.specs.Journal.{GarageValue}
use Rattle.garage.specs.Inside.{garage_value_of, settings_of, Stands}
use Rattle.garage.specs.declared.garage.Garage.TheInside.{Inside}
use Rattle.garage.proofs.Standing.{settings_are, station_below, windows_are}
use Rattle.garage.proofs.Traffics.{station_live}

-- the bus has a window for each station in every garage
pub bus_windows : (a : Inside) → Stands a → length a.bus.traffic.windows ≡ a.stations
bus_windows a stands = ap (λ (t : Traffic). length t.windows) stands.traffic ∙ windows_are a stands

-- a station's seat is live in every garage
pub station_lives : (a : Inside) → Stands a → (y : ℕ) → y < a.stations → (seat_at a.bus.traffic y).live ≡ true
station_lives a stands y h =
    ap (λ (t : Traffic). (seat_at t y).live) stands.traffic ∙ living.stations_live (settings_of a) a.journal y stands.fits (let n = settings_are a stands in omega arith)

pub stations_live : (a : Inside) → Stands a → (y : ℕ) → y < length a.bus.traffic.windows → (seat_at a.bus.traffic y).live ≡ true
stations_live a stands y h = station_lives a stands y (let w = bus_windows a stands in omega arith)

-- the same at what callers see
pub seat_of_station : (a : Inside) (v : GarageValue) (y : ℕ) → garage_value_of a ≡ v → Stands a → y < length v.settings.stations → IsLive a.bus.traffic y
seat_of_station a v y is stands h = station_live a.bus.traffic y (station_lives a stands y (station_below a v y is stands h))

pub station_on_bus : (a : Inside) (v : GarageValue) (y : ℕ) → garage_value_of a ≡ v → Stands a → y < length v.settings.stations → IsStation a.bus.traffic y
station_on_bus a v y is stands h = (let w = bus_windows a stands in let b = station_below a v y is stands h in omega arith)
