-- When a call of a unit's seat answers what. A garage and a plug say it with the same words.
use Rattle.std.specs.Prelude.{ℕ, ◌≡◌, ◌⊎◌, ◌↔◌, Result, Ok, Some, None, IsErrOf, IsNone, IsSome, true, false}
use Rattle.bus_ledger.specs.Newcomers.{join_refusal}
use Rattle.bus_ledger.specs.declared.error.BusError.TheVariants as bus
use Rattle.journal.specs.Journal.{GarageValue, state_of}
use Rattle.journal.specs.Steps.{next_for}
use Rattle.garage.specs.Causes.{held_at, has_open_dm1}
use Rattle.garage.specs.Room.{IsFull, IsFullForJoin}
use Rattle.garage.specs.declared.error.GarageError.{GarageError}
use Rattle.garage.specs.declared.error.GarageError.TheVariants.{BookFull, OutOfMemory, Unclaimed}
use Rattle.garage.specs.declared.answers.HeardOne.{HeardOne}
use Rattle.garage.specs.declared.answers.HeardOne.TheVariants as heard
use Rattle.garage.specs.declared.answers.Begin.{Begin}
use Rattle.garage.specs.declared.answers.Begin.TheVariants as begin

-- why a unit of this NAME gets no seat: a live seat has the NAME; 64 units are live; nothing but that the journal has no room
abbrev pub HasNameInUse : GarageValue → ℕ → Type 0
HasNameInUse g name = join_refusal name (state_of g).traffic ≡ Some bus.NameInUse

abbrev pub HasTooMany : GarageValue → ℕ → Type 0
HasTooMany g name = join_refusal name (state_of g).traffic ≡ Some bus.TooManySeats

abbrev pub HasNoRoomFor : GarageValue → ℕ → Type 0
HasNoRoomFor g name = (join_refusal name (state_of g).traffic ≡ None) × IsFullForJoin g

-- a hearing answers that there was nothing, exactly where the seat has heard the whole wire
abbrev pub HearsNothing : GarageValue → ℕ → Result HeardOne GarageError → Type 0
HearsNothing g k r = (r ≡ Ok heard.Nothing) ↔ (next_for (state_of g) k ≡ None)

-- and is refused for room exactly where there is a frame and the journal is full
abbrev pub HearsFull : GarageValue → ℕ → Result HeardOne GarageError → Type 0
HearsFull g k r = IsErrOf r BookFull ↔ (IsSome (next_for (state_of g) k) × IsFull g)

-- a beginning is refused exactly where the unit holds no address
abbrev pub BeginsUnclaimed : GarageValue → ℕ → Result Begin GarageError → Type 0
BeginsUnclaimed g k r = IsErrOf r Unclaimed ↔ IsNone (held_at g k)

-- else it answers that a session is open, exactly where one of a DM1 is
abbrev pub BeginsHeld : GarageValue → ℕ → Result Begin GarageError → Type 0
BeginsHeld g k r = (r ≡ Ok begin.Held) ↔ (IsSome (held_at g k) × (has_open_dm1 g k ≡ true))

-- and else it is refused for room exactly where the journal is full
abbrev pub BeginsFull : GarageValue → ℕ → Result Begin GarageError → Type 0
BeginsFull g k r = IsErrOf r BookFull ↔ (IsSome (held_at g k) × (has_open_dm1 g k ≡ false) × IsFull g)

-- the journal has no room, or there is no memory
abbrev pub IsNoMemoryOrFull : GarageError → Type 0
IsNoMemoryOrFull e = (e ≡ BookFull) ⊎ (e ≡ OutOfMemory)

-- what a beginning may be refused with
abbrev pub IsBeginRefusal : GarageError → Type 0
IsBeginRefusal e = (e ≡ Unclaimed) ⊎ (e ≡ BookFull) ⊎ (e ≡ OutOfMemory)
