-- The best offer among the live seats, in order of their numbers.
use Rattle.std.specs.Prelude.{ℕ, ◌≡◌, ◌<◌, ◌≤◌, List, length, Option, Some, None, slice_index}
use Rattle.bus_ledger.specs.declared.traffic.QueuedFrame.{QueuedFrame}
use Rattle.bus_ledger.specs.declared.queued.TheConstants.{NO_FRONT}
use Rattle.bus_ledger.specs.BusValue.{SeatBook, book_at}
use Rattle.bus_ledger.specs.Carrying.{offered, Wins}

-- the live numbers are those of seats that were given, in ascending order
pub record IsInOrder (seats : List SeatBook) (live : List ℕ) : Type 0 where
  pub within : (i : ℕ) → i < length live → slice_index live i < length seats
  pub ascending : (i j : ℕ) → i ≤ j → j < length live → slice_index live i ≤ slice_index live j

abbrev pub offer_at : ℕ → List SeatBook → List ℕ → ℕ → Option QueuedFrame
offer_at wire_len seats live i = offered wire_len (book_at seats (slice_index live i)).seat

-- this seat's frame wins against the offers of the first n live seats
pub record IsBest (wire_len : ℕ) (seats : List SeatBook) (live : List ℕ) (n k : ℕ) (q : QueuedFrame) : Type 0 where
  pub offers : offered wire_len (book_at seats k).seat ≡ Some q
  pub wins : (i : ℕ) (r : QueuedFrame) → i < n → offer_at wire_len seats live i ≡ Some r → Wins k q (slice_index live i) r
  pub before : (i : ℕ) → n ≤ i → i < length live → k ≤ slice_index live i

-- what is known of the first n live seats: the best offer, or that there is none
abbrev pub IsBestSoFar : ℕ → List SeatBook → List ℕ → ℕ → Option (ℕ × QueuedFrame) → Type 0
IsBestSoFar wire_len seats live n (Some b) = IsBest wire_len seats live n b.0 b.1
IsBestSoFar wire_len seats live n None = (i : ℕ) → i < n → offer_at wire_len seats live i ≡ None

-- a frame is offered, of an identifier below this number
abbrev pub OffersBelow : ℕ → Option QueuedFrame → Type 0
OffersBelow lowest None = ⊥
OffersBelow lowest (Some q) = q.frame.id < lowest

-- no frame of an identifier below this number is offered
abbrev pub OffersNoneBelow : ℕ → Option QueuedFrame → Type 0
OffersNoneBelow lowest None = Unit {0}
OffersNoneBelow lowest (Some q) = (lowest ≤ q.frame.id) × (q.frame.id < NO_FRONT)

-- the seats from one number to another offer nothing below this number
abbrev pub NoneBelow : ℕ → ℕ → List SeatBook → ℕ → ℕ → Type 0
NoneBelow lowest wire_len seats from end = (k : ℕ) → from ≤ k → k < end → OffersNoneBelow lowest (offered wire_len (book_at seats k).seat)

-- the seat of the best offer of the first n live seats, and the number of that offer's identifier; or that there is none
abbrev pub IsBestSeatSoFar : ℕ → List SeatBook → List ℕ → ℕ → ℕ → Option ℕ → Type 0
IsBestSeatSoFar wire_len seats live n lowest (Some k) = (k < length seats) × ((q : QueuedFrame) × (q.frame.id ≡ lowest) × IsBest wire_len seats live n k q)
IsBestSeatSoFar wire_len seats live n lowest None = (lowest ≡ NO_FRONT) × ((i : ℕ) → i < n → offer_at wire_len seats live i ≡ None)

-- this seat's frame wins against the offers of the first n seats
pub record WinsAll (wire_len : ℕ) (seats : List SeatBook) (n k : ℕ) (q : QueuedFrame) : Type 0 where
  pub offers : offered wire_len (book_at seats k).seat ≡ Some q
  pub wins : (j : ℕ) (r : QueuedFrame) → j < n → offered wire_len (book_at seats j).seat ≡ Some r → Wins k q j r

-- the same of the first n seats, live or not
abbrev pub IsBestOfAll : ℕ → List SeatBook → ℕ → ℕ → Option ℕ → Type 0
IsBestOfAll wire_len seats n lowest (Some k) = (k < n) × ((q : QueuedFrame) × (q.frame.id ≡ lowest) × WinsAll wire_len seats n k q)
IsBestOfAll wire_len seats n lowest None = (lowest ≡ NO_FRONT) × ((k : ℕ) → k < n → offered wire_len (book_at seats k).seat ≡ None)
