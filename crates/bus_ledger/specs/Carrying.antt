-- Which frame is carried: the lowest identifier wins the bus.
use Rattle.std.specs.Prelude.{ℕ, ◌≡◌, ◌<◌, ◌≤◌, ◌⊎◌, ◌&&◌, ◌==◌, [], length, Option, Some, None, slice_get, if◌then◌else◌}
use Rattle.bus_ledger.specs.declared.traffic.QueuedFrame.{QueuedFrame}
use Rattle.bus_ledger.specs.declared.traffic.Carried.{Carried}
use Rattle.bus_ledger.specs.declared.traffic.Carried.TheVariants.{Frame, Idle, Waiting}
use Rattle.bus_ledger.specs.BusValue.{SeatValue, Traffic, seat_at}
use Rattle.bus_ledger.specs.Changes.{carried_from}

-- the frame that a seat offers: the first of its queue, once the seat has heard the whole wire
abbrev pub offered : ℕ → SeatValue → Option QueuedFrame
offered wire_len s = if s.live && (s.heard == wire_len) then slice_get s.queue 0 else None

abbrev pub offer : Traffic → ℕ → Option QueuedFrame
offer t k = offered (length t.wire) (seat_at t k)

-- a frame wins against another by the lower identifier, and among equal ones by the lower seat
abbrev pub Wins : ℕ → QueuedFrame → ℕ → QueuedFrame → Type 0
Wins k q j r = (q.frame.id < r.frame.id) ⊎ ((q.frame.id ≡ r.frame.id) × (k ≤ j))

-- the frame that is carried next, and its seat
pub record IsCarriedNext (t : Traffic) (k : ℕ) (q : QueuedFrame) : Type 0 where
  pub offers : offer t k ≡ Some q
  pub wins : (j : ℕ) (r : QueuedFrame) → offer t j ≡ Some r → Wins k q j r

-- some seat has a frame to carry, and has heard the whole wire
abbrev pub CanCarry : Traffic → Type 0
CanCarry t = (k : ℕ) × (q : QueuedFrame) × IsCarriedNext t k q

-- no seat wants a frame carried
abbrev pub IsIdle : Traffic → Type 0
IsIdle t = (k : ℕ) → (seat_at t k).queue ≡ []

-- some seat wants a frame carried, and none of those has heard the whole wire
abbrev pub IsWaiting : Traffic → Type 0
IsWaiting t = ((k : ℕ) × (0 < length (seat_at t k).queue)) × ((k : ℕ) → offer t k ≡ None)

-- what is carried
abbrev pub IsChoice : Traffic → Carried → Type 0
IsChoice t (Frame seat frame) = (q : QueuedFrame) × IsCarriedNext t seat q × (q.frame ≡ frame)
IsChoice t Idle = IsIdle t
IsChoice t Waiting = IsWaiting t

-- what a carry with this answer does
abbrev pub Carries : Traffic → Carried → Traffic → Type 0
Carries old (Frame seat frame) new = (q : QueuedFrame) × IsCarriedNext old seat q × (q.frame ≡ frame) × (new ≡ carried_from seat q old)
Carries old Idle new = IsIdle old × (new ≡ old)
Carries old Waiting new = IsWaiting old × (new ≡ old)
