-- What a command of a script leaves of the garage, under the answer that tells it: which events were added.
use Rattle.std.specs.Prelude.{◌≡◌, ◌⊎◌, ℕ, ◌≤◌, ◌<◌, List, length, IsSome, Result, Ok, Err}
use Rattle.fault_memory.specs.Memory.{MemoryValue}
use Rattle.node_core.specs.declared.heard.Answer.{Answer as UnitAnswer}
use Rattle.journal.specs.Journal.{Adds, GarageValue, state_of}
use Rattle.journal.specs.Steps.{next_for}
use Rattle.journal.specs.declared.event.Event.{Event}
use Rattle.journal.specs.declared.event.Event.TheVariants.{Hear, Join, Leave, Turned}
use Rattle.garage.specs.Answers.{Begins}
use Rattle.garage.specs.Crew.{Comes, LeadTo}
use Rattle.garage.specs.Hearing.{HasHeardAll, IsNoMemoryOrFullAt}
use Rattle.garage.specs.declared.answers.Begin.TheVariants as begin
use Rattle.garage.specs.declared.error.GarageError.{GarageError}
use Rattle.garage.specs.declared.error.GarageError.TheVariants.{Stranger}
use Rattle.script_answer.specs.declared.answer.LineAnswer.{LineAnswer}
use Rattle.script_answer.specs.declared.answer.LineAnswer.TheVariants as answer
use Rattle.script_answer.specs.declared.refusal.Refusal.{Refusal}
use Rattle.script_answer.specs.declared.refusal.Refusal.TheVariants.{Fault, Garage, NoSeat}
use Rattle.script_line.specs.declared.command.Command.{Command}
use Rattle.script_line.specs.declared.command.Command.TheVariants as command
use Rattle.script_run.specs.Commands.{JoinsNone}
use Rattle.script_run.specs.Steps.{Asks, CarriesSo, Commands, EndsTold, Injects, ReadsSo}
use Rattle.script_run.specs.UnitSteps.{BeginsNone}

-- an event that tells of a frame that the unit of this seat heard
abbrev pub TellsHearing : ℕ → Event → Type 0
TellsHearing k e = (memory : MemoryValue) × (answered : UnitAnswer) × (e ≡ Hear k memory answered)

-- it heard so many frames, one after another
abbrev pub HeardBy : ℕ → ℕ → GarageValue → GarageValue → Type 0
HeardBy k n g g' = (events : List Event) × LeadTo (TellsHearing k) events g g' × (length events ≡ n)

-- no unit is found at the seat, or the garage does not know it
abbrev pub IsNoUnit : Refusal → Type 0
IsNoUnit r = (r ≡ NoSeat) ⊎ (r ≡ Garage Stranger)

-- as many as asked for, or fewer, since it has heard the whole wire; or fewer, and the next one was refused for this; or there is no such unit
abbrev pub MovesByHearing : ℕ → ℕ → Result LineAnswer Refusal → GarageValue → GarageValue → Type 0
MovesByHearing k most (Ok (answer.Heard n)) g g' = HeardBy k n g g' × (n ≤ most) × (n < most → HasHeardAll k g')
MovesByHearing k most (Ok a) g g' = ⊥
MovesByHearing k most (Err r) g g' = (IsNoUnit r × (g' ≡ g))
    ⊎ ((e : GarageError) × (n : ℕ) × (r ≡ Garage e) × (n < most) × HeardBy k n g g' × IsSome (next_for (state_of g') k) × IsNoMemoryOrFullAt g' e)

-- units heard, stations read and frames were carried, so many as is told, for the reason that is told; or rounds were cut short
abbrev pub MovesByRounds : ℕ → Result LineAnswer Refusal → GarageValue → GarageValue → Type 0
MovesByRounds most (Ok (answer.Carried n end)) g g' = Comes g g' × EndsTold most n end g'
MovesByRounds most (Ok a) g g' = ⊥
MovesByRounds most (Err (Garage e)) g g' = Comes g g'
MovesByRounds most (Err r) g g' = ⊥

-- a DM1 of the unit of this seat began, or one is under way; or there is no such unit; or it was refused for such a reason. Refused, nothing changed
abbrev pub MovesByBeginning : ℕ → Result LineAnswer Refusal → GarageValue → GarageValue → Type 0
MovesByBeginning k (Ok answer.Begun) g g' = (memory : MemoryValue) × Begins g k memory begin.Begun g'
MovesByBeginning k (Ok answer.Held) g g' = (memory : MemoryValue) × Begins g k memory begin.Held g'
MovesByBeginning k (Ok a) g g' = ⊥
MovesByBeginning k (Err (Garage e)) g g' = ((e ≡ Stranger) ⊎ BeginsNone k g e) × (g' ≡ g)
MovesByBeginning k (Err r) g g' = (r ≡ NoSeat) × (g' ≡ g)

-- its turn ended, which is answered by `ok`; or there is no such unit; or the journal has no room, or there is no memory. Refused, nothing changed
abbrev pub MovesByTurning : ℕ → Result LineAnswer Refusal → GarageValue → GarageValue → Type 0
MovesByTurning k (Ok a) g g' = (a ≡ answer.Done) × Adds g (Turned k) g'
MovesByTurning k (Err (Garage e)) g g' = ((e ≡ Stranger) ⊎ IsNoMemoryOrFullAt g e) × (g' ≡ g)
MovesByTurning k (Err r) g g' = (r ≡ NoSeat) × (g' ≡ g)

-- a unit left, which is answered by `ok`; or there is no such unit
abbrev pub MovesByLeaving : ℕ → Result LineAnswer Refusal → GarageValue → GarageValue → Type 0
MovesByLeaving k (Ok a) g g' = (a ≡ answer.Done) × Adds g (Leave k) g'
MovesByLeaving k (Err r) g g' = IsNoUnit r × (g' ≡ g)

-- the garage stays, under what a change of a unit's fault memory is answered: `ok`; or what that memory refuses it for; or there is no such unit
abbrev pub StaysByChanging : Result LineAnswer Refusal → GarageValue → GarageValue → Type 0
StaysByChanging (Ok a) g g' = (a ≡ answer.Done) × (g' ≡ g)
StaysByChanging (Err (Fault e)) g g' = g' ≡ g
StaysByChanging (Err r) g g' = IsNoUnit r × (g' ≡ g)

-- it stays, under what a unit that is lit, or thinks, is answered: `ok`; or there is no such unit
abbrev pub StaysByUnit : Result LineAnswer Refusal → GarageValue → GarageValue → Type 0
StaysByUnit (Ok a) g g' = (a ≡ answer.Done) × (g' ≡ g)
StaysByUnit (Err r) g g' = IsNoUnit r × (g' ≡ g)

-- a unit of this NAME, which wants this address, joined; or it was refused for such a reason, and nothing changed
abbrev pub MovesByJoining : ℕ → ℕ → Result LineAnswer Refusal → GarageValue → GarageValue → Type 0
MovesByJoining name address (Ok (answer.Seat k)) g g' = Adds g (Join k name address) g'
MovesByJoining name address (Ok a) g g' = ⊥
MovesByJoining name address (Err (Garage e)) g g' = JoinsNone name address g e × (g' ≡ g)
MovesByJoining name address (Err r) g g' = ⊥

-- what a command leaves, of the station with this number where it is a station's; any other leaves the garage as it was
abbrev pub Moves : ℕ → Command → Result LineAnswer Refusal → GarageValue → GarageValue → Type 0
Moves y (command.Carry most) r g g' = CarriesSo most r g g'
Moves y (command.Read most) r g g' = ReadsSo y most r g g'
Moves y (command.Round most) r g g' = MovesByRounds most r g g'
Moves y (command.Ask to what) r g g' = Asks y to what r g g'
Moves y (command.Command name address) r g g' = Commands y name address r g g'
Moves y (command.Inject frame) r g g' = Injects frame r g g'
Moves y (command.Hear k most) r g g' = MovesByHearing k most r g g'
Moves y (command.Dm1 k) r g g' = MovesByBeginning k r g g'
Moves y (command.Turn k) r g g' = MovesByTurning k r g g'
Moves y (command.Leave k) r g g' = MovesByLeaving k r g g'
Moves y (command.Change k c spn fmi count) r g g' = StaysByChanging r g g'
Moves y (command.Lamps k lamps) r g g' = StaysByUnit r g g'
Moves y (command.Think k) r g g' = StaysByUnit r g g'
Moves y _ r g g' = g' ≡ g
