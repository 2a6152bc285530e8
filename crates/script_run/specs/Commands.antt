-- What each command of a script does that changes something, at the bench: the garage, and the units in the order of their seats.
use Rattle.std.specs.Prelude.{◌≡◌, ◌⊎◌, ℕ, ◌<◌, ◌≤◌, List, [], ◌∷◌, ◌++◌, Option, Some, IfSome, Result, Ok, Err, slice_get, slice_set}
use Rattle.std.specs.List.{remove}
use Rattle.can_frame.specs.declared.address.TheConstants.{GREATEST_ADDRESS}
use Rattle.unit_trait.specs.declared.question.Question.{Question}
use Rattle.node_core.specs.declared.heard.Answer.{Answer as UnitAnswer}
use Rattle.journal.specs.Journal.{Adds, GarageValue}
use Rattle.journal.specs.declared.event.Event.TheVariants.{Join, Leave}
use Rattle.garage.specs.Calls.{HasNameInUse, HasNoRoomFor, HasTooMany}
use Rattle.garage.specs.Crew.{Sitting}
use Rattle.garage.specs.declared.error.GarageError.{GarageError}
use Rattle.garage.specs.declared.error.GarageError.TheVariants.{BookFull, NameInUse, NotAnAddress, OutOfMemory, Stranger, TooManySeats}
use Rattle.script_answer.specs.declared.answer.LineAnswer.{LineAnswer}
use Rattle.script_answer.specs.declared.answer.LineAnswer.TheVariants as answer
use Rattle.script_answer.specs.declared.refusal.Refusal.{Refusal}
use Rattle.script_answer.specs.declared.refusal.Refusal.TheVariants.{Garage, NoSeat}
use Rattle.script_line.specs.declared.command.Command.{Command}
use Rattle.script_line.specs.declared.command.Command.TheVariants as command
use Rattle.script_run.specs.Steps.{Asks, CarriesSo, Commands, Injects, ReadsSo, RunsRounds}
use Rattle.script_run.specs.Queries.{query_answer}
use Rattle.script_run.specs.UnitSteps.{UnitDoes, UnitStep}

-- what a command does to a garage and to the units of the bench
abbrev pub BenchStep : Type 0 → Type 1
BenchStep P = Result LineAnswer Refusal → GarageValue → List P → GarageValue → List P → Type 0

-- the unit of a seat did, where it stands, and all others are as they were
pub record DoesAt {P : Type 0} (sitting : P → Sitting) (k : ℕ) (does : UnitStep P) (r : Result LineAnswer Refusal) (g : GarageValue) (us : List P) (g' : GarageValue) (us' : List P) : Type 0 where
  pub place : ℕ
  pub before : P
  pub after : P
  pub there : slice_get us place ≡ Some before
  pub its : (sitting before).seat ≡ k
  pub put : us' ≡ slice_set us place after
  pub did : does r g before g' after

-- the unit of a seat is taken from the bench
pub record IsTaken {P : Type 0} (sitting : P → Sitting) (k : ℕ) (us us' : List P) : Type 0 where
  pub place : ℕ
  pub before : P
  pub there : slice_get us place ≡ Some before
  pub its : (sitting before).seat ≡ k
  pub rest : us' ≡ remove us place

-- no unit of the seat was found, and nothing changed; or the garage does not know it, and it is let go
abbrev pub IsNotThere : {P : Type 0} → (P → Sitting) → ℕ → BenchStep P
IsNotThere sitting k r g us g' us' =
    ((r ≡ Err NoSeat) × (g' ≡ g) × (us' ≡ us)) ⊎ ((r ≡ Err (Garage Stranger)) × (g' ≡ g) × IsTaken sitting k us us')

-- the unit of a seat did so
abbrev pub ActsSo : {P : Type 0} → (P → Sitting) → ℕ → UnitStep P → BenchStep P
ActsSo sitting k does r g us g' us' = DoesAt sitting k does r g us g' us' ⊎ IsNotThere sitting k r g us g' us'

-- the unit of a seat left the bus and the bench
abbrev pub Leaves : {P : Type 0} → (P → Sitting) → ℕ → BenchStep P
Leaves sitting k r g us g' us' =
    ((r ≡ Ok answer.Done) × Adds g (Leave k) g' × IsTaken sitting k us us') ⊎ IsNotThere sitting k r g us g' us'

-- why no unit of this NAME joins at this address: that can be held by none; a live seat has the NAME; 64 units are live; the journal has no
-- room; or there is no memory
abbrev pub JoinsNone : ℕ → ℕ → GarageValue → GarageError → Type 0
JoinsNone name address g e = ((e ≡ NotAnAddress) × (GREATEST_ADDRESS < address)) ⊎ ((e ≡ NameInUse) × (address ≤ GREATEST_ADDRESS) × HasNameInUse g name)
    ⊎ ((e ≡ TooManySeats) × (address ≤ GREATEST_ADDRESS) × HasTooMany g name) ⊎ ((e ≡ BookFull) × (address ≤ GREATEST_ADDRESS) × HasNoRoomFor g name)
    ⊎ (e ≡ OutOfMemory)

-- a unit of this NAME, which wants this address, joined and stands behind all others; or it was refused for such a reason, and nothing changed
abbrev pub Joins : {P : Type 0} → (P → Sitting) → ℕ → ℕ → BenchStep P
Joins {P} sitting name address (Ok (answer.Seat k)) g us g' us' =
    Adds g (Join k name address) g' × ((p : P) × (us' ≡ us ++ p ∷ []) × ((sitting p).seat ≡ k) × ((sitting p).name ≡ name))
Joins sitting name address (Ok a) g us g' us' = ⊥
Joins sitting name address (Err (Garage e)) g us g' us' = JoinsNone name address g e × (g' ≡ g) × (us' ≡ us)
Joins sitting name address (Err r) g us g' us' = ⊥

-- the unit that the command is of did so
abbrev pub ActsBy : {P : Type 0} → (P → Sitting) → (P → P → Option Question → UnitAnswer → Type 0) → ℕ → Command → BenchStep P
ActsBy sitting asked k c r g us g' us' = ActsSo sitting k (UnitDoes sitting asked c) r g us g' us'

-- what a command does, of the station with this number where it is a station's; a query is answered by what the garage shows, and
-- changes nothing, nor does any other
abbrev pub Does : {P : Type 0} → (P → Sitting) → (P → P → Option Question → UnitAnswer → Type 0) → ℕ → Command → BenchStep P
Does sitting asked y (command.Carry most) r g us g' us' = CarriesSo most r g g' × (us' ≡ us)
Does sitting asked y (command.Read most) r g us g' us' = ReadsSo y most r g g' × (us' ≡ us)
Does sitting asked y (command.Round most) r g us g' us' = RunsRounds sitting asked most r g us g' us'
Does sitting asked y (command.Ask to what) r g us g' us' = Asks y to what r g g' × (us' ≡ us)
Does sitting asked y (command.Command name address) r g us g' us' = Commands y name address r g g' × (us' ≡ us)
Does sitting asked y (command.Inject frame) r g us g' us' = Injects frame r g g' × (us' ≡ us)
Does sitting asked y (command.Hear k most) r g us g' us' = ActsBy sitting asked k (command.Hear k most) r g us g' us'
Does sitting asked y (command.Dm1 k) r g us g' us' = ActsBy sitting asked k (command.Dm1 k) r g us g' us'
Does sitting asked y (command.Turn k) r g us g' us' = ActsBy sitting asked k (command.Turn k) r g us g' us'
Does sitting asked y (command.Change k c spn fmi count) r g us g' us' = ActsBy sitting asked k (command.Change k c spn fmi count) r g us g' us'
Does sitting asked y (command.Lamps k lamps) r g us g' us' = ActsBy sitting asked k (command.Lamps k lamps) r g us g' us'
Does sitting asked y (command.Think k) r g us g' us' = ActsBy sitting asked k (command.Think k) r g us g' us'
Does sitting asked y (command.Leave k) r g us g' us' = Leaves sitting k r g us g' us'
Does sitting asked y c r g us g' us' = IfSome (query_answer g y c) (λ a. r ≡ a) × (g' ≡ g) × (us' ≡ us)
