-- How the fields of a bus stand for its value.
use Rattle.std.specs.Prelude.{ℕ, suc, ◌≡◌, ◌<◌, ◌≤◌, ◌^◌, List, [], ◌∷◌, map, length, cond, slice_index, slice_index_or}
use Rattle.bus_ledger.specs.BusValue.{SeatValue, SeatBook, Traffic, BusValue, book_at}
use Rattle.bus_ledger.specs.Changes.{seat_of_station}
use Rattle.bus_ledger.specs.Ledger.{IsSound}
use Rattle.bus_ledger.specs.Window.{WindowValue, size_of, window, window_in, window_of}
use Rattle.bus_ledger.specs.declared.traffic.StationSeat.{StationSeat}
use Rattle.bus_ledger.specs.declared.bus.Bus.TheInside.{Inside}

abbrev pub seat_of : SeatBook → SeatValue
seat_of b = b.seat

abbrev pub spare_of : SeatBook → ℕ
spare_of b = b.spare

abbrev pub traffic_of : Inside → Traffic
traffic_of b = record { wire = b.wire.carried; seats = map seat_of b.seats.items; windows = map size_of b.receive_windows.items }

abbrev pub tap_at : Inside → ℕ → WindowValue
tap_at b y = window_in b.receive_windows.items y

abbrev pub bus_value_of : Inside → BusValue
bus_value_of b = record { traffic = traffic_of b; spares = map spare_of b.seats.items }

-- the numbers of the live seats, counted from the first number
abbrev pub live_numbers : ℕ → List SeatBook → List ℕ
live_numbers n [] = []
live_numbers n (b ∷ bs) = cond b.seat.live (n ∷ live_numbers (suc n) bs) (live_numbers (suc n) bs)

pub record IsKept (b : Inside) : Type 0 where
  pub sound : IsSound (traffic_of b)
  pub receive_windows : (y : ℕ) → y < length b.receive_windows.items → tap_at b y ≡ window_of (traffic_of b) y
  pub live : b.live.items ≡ live_numbers 0 b.seats.items
  pub few_seats : length b.seats.items < 2 ^ 32
  pub few_frames : length b.wire.carried < 2 ^ 32

-- what stands at a number of no station
abbrev pub no_station_seat : StationSeat
no_station_seat = record { name = 0; window = 0 }

abbrev pub station_seat_at : List StationSeat → ℕ → StationSeat
station_seat_at stations y = slice_index_or stations y no_station_seat

-- the seats of the first n of these stations, each with room for a frame
abbrev pub AreSeatsOf : List SeatBook → List StationSeat → ℕ → Type 0
AreSeatsOf seats stations n = (length seats ≡ n) × ((y : ℕ) → y < n → ((book_at seats y).seat ≡ seat_of_station (station_seat_at stations y)) × (1 ≤ (book_at seats y).spare))

-- the windows of the first n of these stations, with no frame in them
abbrev pub AreTapsOf : List WindowValue → List StationSeat → ℕ → Type 0
AreTapsOf ws stations n = (length ws ≡ n) × ((y : ℕ) → y < n → window_in ws y ≡ window (station_seat_at stations y).window [] 0)

-- the numbers below n, in order
abbrev pub AreNumbers : List ℕ → ℕ → Type 0
AreNumbers numbers n = (length numbers ≡ n) × ((y : ℕ) → y < n → slice_index numbers y ≡ y)
