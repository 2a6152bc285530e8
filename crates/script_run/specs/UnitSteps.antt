-- What a command for one unit does: of the unit and the garage, where it stands among the units of the bench.
use Rattle.std.specs.Prelude.{◌≡◌, ◌⊎◌, ℕ, suc, zero, ◌+◌, ◌-◌, ◌^◌, ◌<◌, ◌≤◌, min, Option, IsNone, IsSome, false, Result, Ok, Err}
use Rattle.unit_trait.specs.declared.question.Question.{Question}
use Rattle.node_core.specs.declared.heard.Answer.{Answer as UnitAnswer}
use Rattle.fault_memory.specs.Changes.{changed, Grows}
use Rattle.fault_memory.specs.Memory.{MemoryValue}
use Rattle.trouble_code.specs.LampBytes.{LampsValue}
use Rattle.fault_memory.specs.declared.change.FaultChange.{FaultChange}
use Rattle.fault_memory.specs.declared.change.FaultChange.TheVariants as fault
use Rattle.fault_memory.specs.declared.error.FaultError.{FaultError}
use Rattle.fault_memory.specs.declared.error.FaultError.TheVariants.{OutOfMemory}
use Rattle.journal.specs.Journal.{Adds, GarageValue}
use Rattle.journal.specs.declared.event.Event.TheVariants.{Turned}
use Rattle.garage.specs.Answers.{Begins}
use Rattle.garage.specs.Causes.{has_open_dm1, held_at}
use Rattle.garage.specs.Crew.{Sitting}
use Rattle.garage.specs.Hearing.{HasHeardAll, HearsMany, IsHearingCut, IsNoMemoryOrFullAt}
use Rattle.garage.specs.declared.answers.Begin.TheVariants as begin
use Rattle.garage.specs.declared.error.GarageError.{GarageError}
use Rattle.garage.specs.declared.error.GarageError.TheVariants.{Stranger, Unclaimed}
use Rattle.script_answer.specs.declared.answer.LineAnswer.{LineAnswer}
use Rattle.script_answer.specs.declared.answer.LineAnswer.TheVariants as answer
use Rattle.script_answer.specs.declared.refusal.Refusal.{Refusal}
use Rattle.script_answer.specs.declared.refusal.Refusal.TheVariants.{BadLine, Fault, Garage}
use Rattle.script_line.specs.declared.command.CodeChange.{CodeChange}
use Rattle.script_line.specs.declared.command.CodeChange.TheVariants as change
use Rattle.script_line.specs.declared.command.Command.{Command}
use Rattle.script_line.specs.declared.command.Command.TheVariants as command

-- what the fault memory of a unit is told of a code
abbrev pub change_meant : CodeChange → ℕ → ℕ → FaultChange
change_meant change.Set spn fmi = fault.Set spn fmi
change_meant change.Heal spn fmi = fault.Heal spn fmi
change_meant change.Pend spn fmi = fault.Pend spn fmi
change_meant change.Unpend spn fmi = fault.Unpend spn fmi

-- the first n codes from this SPN on were changed, one after another; no SPN is above the greatest number of 32 bits
unfoldable pub ChangesMany : CodeChange → ℕ → ℕ → ℕ → MemoryValue → MemoryValue → Type 0
ChangesMany c spn fmi zero m m' = m' ≡ m
ChangesMany c spn fmi (suc n) m m' = (k : MemoryValue) × ChangesMany c spn fmi n m k × (changed k (change_meant c (min (spn + n) (2 ^ 32 - 1)) fmi) ≡ Ok m')

-- a change was refused for this: there is no memory for a longer list; or it is no change of this fault memory
abbrev pub IsRefusedFor : FaultError → MemoryValue → FaultChange → Type 0
IsRefusedFor e m c = ((e ≡ OutOfMemory) × Grows (changed m c) m) ⊎ (changed m c ≡ Err e)

-- what a command does to the garage and to a unit P that it is of; `sitting` and `asked` as the garage has them
abbrev pub UnitStep : Type 0 → Type 1
UnitStep P = Result LineAnswer Refusal → GarageValue → P → GarageValue → P → Type 0

-- only the fault memory of the unit is another
abbrev pub IsElseSame : {P : Type 0} → (P → Sitting) → P → P → Type 0
IsElseSame sitting p p' = ((sitting p').seat ≡ (sitting p).seat) × ((sitting p').name ≡ (sitting p).name) × ((sitting p').events ≡ (sitting p).events)

-- it heard as many frames as asked for, or fewer, since it has heard the whole wire; or fewer, and the next one was refused for this
abbrev pub HearsSo : {P : Type 0} → (P → Sitting) → (P → P → Option Question → UnitAnswer → Type 0) → ℕ → UnitStep P
HearsSo sitting asked most (Ok (answer.Heard n)) g p g' p' = HearsMany sitting asked n g p g' p' × (n ≤ most) × (n < most → HasHeardAll (sitting p).seat g')
HearsSo sitting asked most (Err (Garage e)) g p g' p' = (n : ℕ) × (n < most) × IsHearingCut sitting asked n e g p g' p'
HearsSo sitting asked most r g p g' p' = ⊥

-- why no DM1 of the unit of this seat begins: it holds no address; or it does, no DM1 is under way, and the journal has no room, or there is no memory
abbrev pub BeginsNone : ℕ → GarageValue → GarageError → Type 0
BeginsNone k g e = ((e ≡ Unclaimed) × IsNone (held_at g k)) ⊎ (IsSome (held_at g k) × (has_open_dm1 g k ≡ false) × IsNoMemoryOrFullAt g e)

-- a DM1 of its fault memory began, or one is under way; or it was refused for such a reason, and nothing changed
abbrev pub BeginsSo : {P : Type 0} → (P → Sitting) → UnitStep P
BeginsSo sitting (Ok answer.Begun) g p g' p' = Begins g (sitting p).seat (sitting p).memory begin.Begun g'
BeginsSo sitting (Ok answer.Held) g p g' p' = Begins g (sitting p).seat (sitting p).memory begin.Held g'
BeginsSo sitting (Ok a) g p g' p' = ⊥
BeginsSo sitting (Err (Garage e)) g p g' p' = BeginsNone (sitting p).seat g e × (g' ≡ g) × (p' ≡ p)
BeginsSo sitting (Err r) g p g' p' = ⊥

-- its turn ended; or the journal has no room, or there is no memory, and nothing changed
abbrev pub TurnsSo : {P : Type 0} → (P → Sitting) → UnitStep P
TurnsSo sitting (Ok a) g p g' p' = (a ≡ answer.Done) × Adds g (Turned (sitting p).seat) g'
TurnsSo sitting (Err (Garage e)) g p g' p' = IsNoMemoryOrFullAt g e × (g' ≡ g) × (p' ≡ p)
TurnsSo sitting (Err r) g p g' p' = ⊥

-- so many codes were changed; or fewer, and the next one was refused for this
abbrev pub ChangesSo : {P : Type 0} → (P → Sitting) → CodeChange → ℕ → ℕ → ℕ → Result LineAnswer Refusal → P → P → Type 0
ChangesSo sitting c spn fmi count (Ok a) p p' = (a ≡ answer.Done) × IsElseSame sitting p p' × ChangesMany c spn fmi count (sitting p).memory (sitting p').memory
ChangesSo sitting c spn fmi count (Err (Fault e)) p p' =
    IsElseSame sitting p p' × ((n : ℕ) × (n < count) × ChangesMany c spn fmi n (sitting p).memory (sitting p').memory
    × IsRefusedFor e (sitting p').memory (change_meant c (min (spn + n) (2 ^ 32 - 1)) fmi))
ChangesSo sitting c spn fmi count (Err r) p p' = ⊥

-- its lamps are these
abbrev pub LightsSo : {P : Type 0} → (P → Sitting) → LampsValue → Result LineAnswer Refusal → P → P → Type 0
LightsSo sitting lamps (Ok a) p p' = (a ≡ answer.Done) × IsElseSame sitting p p' × ((sitting p').memory ≡ record (sitting p).memory { lamps = lamps })
LightsSo sitting lamps (Err r) p p' = ⊥

-- it did its own work
abbrev pub ThinksSo : {P : Type 0} → (P → Sitting) → Result LineAnswer Refusal → P → P → Type 0
ThinksSo sitting r p p' = (r ≡ Ok answer.Done) × IsElseSame sitting p p'

-- what a command does to the unit that it is of; one that is of none is refused, and changes nothing
abbrev pub UnitDoes : {P : Type 0} → (P → Sitting) → (P → P → Option Question → UnitAnswer → Type 0) → Command → UnitStep P
UnitDoes sitting asked (command.Hear k most) r g p g' p' = HearsSo sitting asked most r g p g' p'
UnitDoes sitting asked (command.Dm1 k) r g p g' p' = BeginsSo sitting r g p g' p'
UnitDoes sitting asked (command.Turn k) r g p g' p' = TurnsSo sitting r g p g' p'
UnitDoes sitting asked (command.Change k c spn fmi count) r g p g' p' = (g' ≡ g) × ChangesSo sitting c spn fmi count r p p'
UnitDoes sitting asked (command.Lamps k lamps) r g p g' p' = (g' ≡ g) × LightsSo sitting lamps r p p'
UnitDoes sitting asked (command.Think k) r g p g' p' = (g' ≡ g) × ThinksSo sitting r p p'
UnitDoes sitting asked c r g p g' p' = (r ≡ Err BadLine) × (g' ≡ g) × (p' ≡ p)

-- it did; or the garage does not know it, and nothing changed
abbrev pub DoesIfKnown : {P : Type 0} → UnitStep P → UnitStep P
DoesIfKnown does r g p g' p' = does r g p g' p' ⊎ ((r ≡ Err (Garage Stranger)) × (g' ≡ g) × (p' ≡ p))
