-- The bus as contracts see it.
use Rattle.std.specs.Prelude.{ℕ, Bool, false, ◌≡◌, ◌<◌, ◌≤◌, List, [], length, true, slice_index_or}
use Rattle.bus_ledger.specs.declared.traffic.QueuedFrame.{QueuedFrame}
use Rattle.bus_ledger.specs.declared.traffic.CarriedFrame.{CarriedFrame}

-- a seat: how many frames of the wire it has heard, what it wants carried, first in first out, and what became of the rest
pub record SeatValue : Type 0 where
  pub name : ℕ
  pub live : Bool
  pub heard : ℕ
  pub queue : List QueuedFrame
  pub queued : ℕ
  pub carried : ℕ
  pub withdrawn : ℕ

-- the wire, the oldest frame first, the seats ever given in order of their numbers, and the window of each station: stations have the
-- first seats
pub record Traffic : Type 0 where
  pub wire : List CarriedFrame
  pub seats : List SeatValue
  pub windows : List ℕ

-- the traffic, and for each seat how many frames it can queue with no allocation
pub record BusValue : Type 0 where
  pub traffic : Traffic
  pub spares : List ℕ

-- what stands at a number that was never given
abbrev pub nobody : SeatValue
nobody = record { name = 0; live = false; heard = 0; queue = []; queued = 0; carried = 0; withdrawn = 0 }

abbrev pub seat_at : Traffic → ℕ → SeatValue
seat_at t k = slice_index_or t.seats k nobody

abbrev pub spare_at : BusValue → ℕ → ℕ
spare_at b k = slice_index_or b.spares k 0

-- no seat has less room than before
abbrev pub KeepsSpares : BusValue → BusValue → Type 0
KeepsSpares old new = (k : ℕ) → spare_at old k ≤ spare_at new k

-- the seat of a station
abbrev pub IsStation : Traffic → ℕ → Type 0
IsStation t y = y < length t.windows

-- a seat that was given and is not gone, a station's included
abbrev pub IsLive : Traffic → ℕ → Type 0
IsLive t k = (k < length t.seats) × ((seat_at t k).live ≡ true)

-- a live seat of a unit: units sit behind the stations
abbrev pub IsUnit : Traffic → ℕ → Type 0
IsUnit t k = (length t.windows ≤ k) × (k < length t.seats) × ((seat_at t k).live ≡ true)

-- what was carried, and for how many frames more the wire has room
pub record WireBook : Type 0 where
  pub carried : List CarriedFrame
  pub spare : ℕ

-- a seat, and how many frames it can queue with no allocation
pub record SeatBook : Type 0 where
  pub seat : SeatValue
  pub spare : ℕ

-- what stands at a number that was never given
abbrev pub no_book : SeatBook
no_book = record { seat = nobody; spare = 0 }

abbrev pub book_at : List SeatBook → ℕ → SeatBook
book_at books k = slice_index_or books k no_book
