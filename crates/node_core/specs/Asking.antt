-- What a frame asks of a unit beyond its own deeds, and what the unit's answer makes of it.
use Rattle.std.specs.Prelude.{◌≡◌, ◌≢◌, Bool, true, false, Option, Some, None, if◌then◌else◌}
use Rattle.fault_memory.specs.Memory.{MemoryValue}
use Rattle.fault_memory.specs.Changes.{cleared_active, cleared_previous}
use Rattle.unit_trait.specs.declared.question.Clear.{Clear as Codes}
use Rattle.unit_trait.specs.declared.question.Clear.TheVariants.{Active, Previous}
use Rattle.unit_trait.specs.declared.question.Question.{Question}
use Rattle.unit_trait.specs.declared.question.Question.TheVariants.{Clear}
use Rattle.node_core.specs.declared.heard.Answer.{Answer}
use Rattle.node_core.specs.declared.heard.Answer.TheVariants.{NotAsked, Agreed}

-- it was asked, and agreed
abbrev pub is_agreed : Answer → Bool
is_agreed Agreed = true
is_agreed _ = false

-- the memory after the clear
abbrev pub cleared_by : Codes → MemoryValue → MemoryValue
cleared_by Active m = cleared_active m
cleared_by Previous m = cleared_previous m

-- the memory after an answer: only a clear to which the unit agreed changes it
abbrev pub memory_answered : Option Question → Answer → MemoryValue → MemoryValue
memory_answered (Some (Clear which)) answer m = if is_agreed answer then cleared_by which m else m
memory_answered _ answer m = m

-- there is an answer exactly where something was asked
abbrev pub IsAnswerTo : Option Question → Answer → Type 0
IsAnswerTo None answer = answer ≡ NotAsked
IsAnswerTo (Some question) answer = answer ≢ NotAsked

-- The unit was asked exactly this, in one call: `answers` tells what such a call may answer and leave of it. Where nothing was
-- asked it is as it was.
abbrev pub IsAsked : {X : Type 0} → (Question → Bool → X → Type 0) → Option Question → Answer → X → X → Type 0
IsAsked answers None answer unit unit' = unit' ≡ unit
IsAsked answers (Some question) answer unit unit' = answers question (is_agreed answer) unit'
