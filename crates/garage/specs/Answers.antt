-- What a call with this answer did.
use Rattle.std.specs.Prelude.{◌≡◌, ℕ, Bool, true, Option, Some, None, ◌+◌}
use Rattle.can_frame.specs.FrameValue.{FrameValue}
use Rattle.can_frame.specs.declared.reading.Reading.{Reading}
use Rattle.can_frame.specs.declared.reading.Reading.TheVariants as reading
use Rattle.fault_memory.specs.Memory.{MemoryValue}
use Rattle.dm_messages.specs.declared.kind.Kind.TheVariants.{Dm1}
use Rattle.bus_ledger.specs.Reception.{next_reading}
use Rattle.node_core.specs.declared.heard.Answer.{Answer as UnitAnswer}
use Rattle.node_core.specs.declared.heard.Answer.TheVariants.{NotAsked}
use Rattle.node_core.specs.NodeValue.{is_open}
use Rattle.node_core.specs.declared.heard.Begun.{Begun}
use Rattle.unit_trait.specs.declared.question.Question.{Question}
use Rattle.node_core.specs.Asking.{IsAsked}
use Rattle.node_core.specs.Reaction.{memory_after, question}
use Rattle.journal.specs.State.{unit_at}
use Rattle.journal.specs.Steps.{next_for}
use Rattle.journal.specs.Journal.{GarageValue, Adds, state_of}
use Rattle.journal.specs.declared.event.Event.TheVariants as event
use Rattle.garage.specs.declared.answers.HeardOne.{HeardOne}
use Rattle.garage.specs.declared.answers.HeardOne.TheVariants as heard
use Rattle.garage.specs.declared.answers.Begin.{Begin}
use Rattle.garage.specs.declared.answers.Begin.TheVariants as begin

-- The next frame was heard, and the journal tells what the unit answered to what the frame put to it. The unit was asked
-- exactly that, in one call (`answers` tells what such a call may answer and leave of it), and is else as it was. Or the whole
-- wire was heard before.
abbrev pub Hears : {X : Type 0} → GarageValue → ℕ → MemoryValue → (Question → Bool → X → Type 0) → X → HeardOne → GarageValue → MemoryValue → X → Type 0
Hears old k memory answers unit (heard.Frame f) new memory' unit' =
    (next_for (state_of old) k ≡ Some f)
    × ((answered : UnitAnswer) × Adds old (event.Hear k memory answered) new × (memory' ≡ memory_after (unit_at (state_of old) k).node memory answered f)
    × IsAsked answers (question (unit_at (state_of old) k).node f) answered unit unit')
Hears old k memory answers unit heard.Nothing new memory' unit' = (next_for (state_of old) k ≡ None) × (new ≡ old) × (memory' ≡ memory) × (unit' ≡ unit)

-- the next frame was heard, and the unit was not asked: the frame puts nothing to it
pub record Passes (old : GarageValue) (k : ℕ) (memory : MemoryValue) (f : FrameValue) (new : GarageValue) : Type 0 where
  pub adds : Adds old (event.Hear k memory NotAsked) new
  pub unasked : question (unit_at (state_of old) k).node f ≡ None

-- its next frame was heard so
abbrev pub PassesNext : GarageValue → ℕ → MemoryValue → GarageValue → Type 0
PassesNext old k memory new = (f : FrameValue) × (next_for (state_of old) k ≡ Some f) × Passes old k memory f new

-- a DM1 of the memory began; or a session of a DM1 is open
abbrev pub Begins : GarageValue → ℕ → MemoryValue → Begin → GarageValue → Type 0
Begins old k memory begin.Begun new = Adds old (event.Begin k memory) new
Begins old k memory begin.Held new = (is_open (unit_at (state_of old) k).node.session Dm1 ≡ true) × (new ≡ old)

-- a station took its next reading; or there is none
abbrev pub Reads : ℕ → GarageValue → Reading → GarageValue → Type 0
Reads y old reading.Empty new = (next_reading (state_of old).traffic y ≡ reading.Empty) × (new ≡ old)
Reads y old r new = Adds old (event.Read y r) new

-- a unit's count of its own events after hearing: one more where a frame was heard
abbrev pub counted_hearing : ℕ → HeardOne → ℕ
counted_hearing n (heard.Frame f) = n + 1
counted_hearing n heard.Nothing = n

-- and after beginning: one more where a DM1 began
abbrev pub counted_beginning : ℕ → Begin → ℕ
counted_beginning n begin.Begun = n + 1
counted_beginning n begin.Held = n

-- how many messages have begun, with this one
abbrev pub count_with_begun : ℕ → Option Begun → ℕ
count_with_begun n None = n
count_with_begun n (Some b) = n + 1
