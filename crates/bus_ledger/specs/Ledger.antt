-- What becomes of every frame.
use Rattle.std.specs.Prelude.{ℕ, ◌≡◌, ◌≢◌, ◌+◌, ◌<◌, ◌≤◌, Bool, false, true, ◌==◌, List, [], drop, length, Option, Some, None}
use Rattle.std.specs.List.{All, count_by}
use Rattle.bus_ledger.specs.declared.bus.TheConstants.{MOST_STATIONS}
use Rattle.bus_ledger.specs.declared.traffic.Counts.{Counts}
use Rattle.bus_ledger.specs.declared.traffic.CarriedFrame.{CarriedFrame}
use Rattle.bus_ledger.specs.BusValue.{IsStation, SeatValue, Traffic, seat_at}
use Rattle.bus_ledger.specs.Changes.{HasWindow}
use Rattle.bus_ledger.specs.Reception.{window_at}

abbrev pub counts_of : SeatValue → Counts
counts_of s = record { queued = s.queued; carried = s.carried; withdrawn = s.withdrawn; waiting = length s.queue }

abbrev pub is_seat : ℕ → Option ℕ → Bool
is_seat k None = false
is_seat k (Some j) = j == k

abbrev pub is_from : ℕ → CarriedFrame → Bool
is_from k c = is_seat k c.seat

-- a frame's seat is one of those given; one from outside has none
abbrev pub IsGiven : ℕ → Option ℕ → Type 0
IsGiven seats None = Unit {0}
IsGiven seats (Some k) = k < seats

-- each frame queued was carried, was withdrawn or waits; those carried stand on the wire; nothing waits after a leave;
-- a seat has heard a front of the wire, and its own frames are among that
pub record IsBalanced (wire : List CarriedFrame) (k : ℕ) (s : SeatValue) : Type 0 where
  pub ledger : s.queued ≡ s.carried + s.withdrawn + length s.queue
  pub carried : s.carried ≡ count_by (is_from k) wire
  pub gone : s.live ≡ false → s.queue ≡ []
  pub heard : s.heard ≤ length wire
  pub own : All (λ c. c.seat ≢ Some k) (drop s.heard wire)

-- what holds of every bus
pub record IsSound (t : Traffic) : Type 0 where
  pub some : 0 < length t.windows
  pub few : length t.windows ≤ MOST_STATIONS
  pub stations : (y : ℕ) → IsStation t y → (seat_at t y).live ≡ true
  pub windows : (y : ℕ) → IsStation t y → HasWindow (window_at t y)
  pub senders : All (λ c. IsGiven (length t.seats) c.seat) t.wire
  pub seats : (k : ℕ) → k < length t.seats → IsBalanced t.wire k (seat_at t k)
