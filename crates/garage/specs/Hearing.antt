-- What a unit hears, frame after frame.
use Rattle.std.specs.Prelude.{◌≡◌, ◌⊎◌, ℕ, suc, zero, ◌+◌, ◌-◌, Option, Some, None, IsSome, length, slice_get}
use Rattle.std.specs.Option.{option_map}
use Rattle.can_frame.specs.FrameValue.{FrameValue}
use Rattle.unit_trait.specs.declared.question.Question.{Question}
use Rattle.node_core.specs.Passing.{IsAcceptance}
use Rattle.node_core.specs.Reaction.{memory_after, question}
use Rattle.node_core.specs.declared.heard.Answer.{Answer as UnitAnswer}
use Rattle.node_core.specs.declared.acceptance.Acceptance.{Acceptance}
use Rattle.journal.specs.State.{unit_at}
use Rattle.journal.specs.Steps.{next_for}
use Rattle.journal.specs.Journal.{GarageValue, Adds, state_of}
use Rattle.journal.specs.declared.event.Event.TheVariants as event
use Rattle.garage.specs.Crew.{Sitting}
use Rattle.garage.specs.declared.answers.HeardOne.{HeardOne}
use Rattle.garage.specs.declared.answers.HeardOne.TheVariants as heard
use Rattle.garage.specs.Room.{IsFull}
use Rattle.garage.specs.declared.error.GarageError.{GarageError}
use Rattle.garage.specs.declared.error.GarageError.TheVariants.{BookFull, OutOfMemory}

-- the seat has heard the whole wire
abbrev pub HasHeardAll : ℕ → GarageValue → Type 0
HasHeardAll k g = next_for (state_of g) k ≡ None

-- the last frame of the wire
abbrev pub last_frame : GarageValue → Option FrameValue
last_frame g = option_map (λ c. c.frame) (slice_get (state_of g).traffic.wire (length (state_of g).traffic.wire - 1))

-- it is this one, and tells this to the units that it asks nothing of
pub record IsLast (f : FrameValue) (acceptance : Acceptance) (g : GarageValue) : Type 0 where
  pub frame : last_frame g ≡ Some f
  pub tells : IsAcceptance acceptance f

-- why a step was refused: the journal has no room; or it has, and there is no memory
abbrev pub IsNoMemoryOrFullAt : GarageValue → GarageError → Type 0
IsNoMemoryOrFullAt g e = ((e ≡ BookFull) × IsFull g) ⊎ ((e ≡ OutOfMemory) × (¬ IsFull g))

-- A unit P heard this frame, its next one: the journal tells the memory that it had, and what it answered to what the frame put to it;
-- it was asked exactly that, and is else as it was. `sitting` tells what it is to a garage, and `asked` how it may be before and after a
-- question and its answer.
pub record HearsFrame {P : Type 0} (sitting : P → Sitting) (asked : P → P → Option Question → UnitAnswer → Type 0) (f : FrameValue) (g : GarageValue) (p : P) (g' : GarageValue) (p' : P) : Type 0 where
  pub next : next_for (state_of g) (sitting p).seat ≡ Some f
  pub answer : UnitAnswer
  pub adds : Adds g (event.Hear (sitting p).seat (sitting p).memory answer) g'
  pub memory : (sitting p').memory ≡ memory_after (unit_at (state_of g) (sitting p).seat).node (sitting p).memory answer f
  pub asked_it : asked p p' (question (unit_at (state_of g) (sitting p).seat).node f) answer
  pub seat : (sitting p').seat ≡ (sitting p).seat
  pub name : (sitting p').name ≡ (sitting p).name
  pub counted : (sitting p').events ≡ (sitting p).events + 1

-- its next frame, or the whole wire before
abbrev pub HearsNext : {P : Type 0} → (P → Sitting) → (P → P → Option Question → UnitAnswer → Type 0) → HeardOne → GarageValue → P → GarageValue → P → Type 0
HearsNext sitting asked (heard.Frame f) g p g' p' = HearsFrame sitting asked f g p g' p'
HearsNext sitting asked heard.Nothing g p g' p' = HasHeardAll (sitting p).seat g × (g' ≡ g) × (p' ≡ p)

-- it heard so many frames, one after another
unfoldable pub HearsMany : {P : Type 0} → (P → Sitting) → (P → P → Option Question → UnitAnswer → Type 0) → ℕ → GarageValue → P → GarageValue → P → Type 0
HearsMany sitting asked zero g p g' p' = (g' ≡ g) × (p' ≡ p)
HearsMany {P} sitting asked (suc n) g p g' p' = (f : FrameValue) × (h : GarageValue) × (q : P) × HearsMany sitting asked n g p h q × HearsFrame sitting asked f h q g' p'

-- it heard all that it had not heard
pub record HearsOut {P : Type 0} (sitting : P → Sitting) (asked : P → P → Option Question → UnitAnswer → Type 0) (g : GarageValue) (p : P) (g' : GarageValue) (p' : P) : Type 0 where
  pub count : ℕ
  pub heard : HearsMany sitting asked count g p g' p'
  pub all : HasHeardAll (sitting p).seat g'

-- it heard so many, and there is one more, whose hearing was refused for this
pub record IsHearingCut {P : Type 0} (sitting : P → Sitting) (asked : P → P → Option Question → UnitAnswer → Type 0) (n : ℕ) (e : GarageError) (g : GarageValue) (p : P) (g' : GarageValue) (p' : P) : Type 0 where
  pub heard : HearsMany sitting asked n g p g' p'
  pub left : IsSome (next_for (state_of g') (sitting p).seat)
  pub want : IsNoMemoryOrFullAt g' e
