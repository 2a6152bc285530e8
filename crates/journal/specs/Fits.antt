-- When an event may happen.
use Rattle.std.specs.Prelude.{◌≡◌, ◌≢◌, ℕ, ◌<◌, ◌≤◌, ◌^◌, Option, Some, None, Ok, length}
use Rattle.can_frame.specs.FrameValue.{FrameValue}
use Rattle.can_frame.specs.declared.reading.Reading.TheVariants.{Empty}
use Rattle.can_frame.specs.declared.address.TheConstants.{GREATEST_ADDRESS}
use Rattle.fault_memory.specs.Memory.{IsLawfulMemory}
use Rattle.dm_messages.specs.declared.kind.Kind.TheVariants.{Dm1}
use Rattle.bus_ledger.specs.BusValue.{IsStation, IsUnit, seat_at}
use Rattle.bus_ledger.specs.Newcomers.{join_refusal}
use Rattle.bus_ledger.specs.Carrying.{IsCarriedNext}
use Rattle.bus_ledger.specs.Reception.{next_reading}
use Rattle.bus_ledger.specs.declared.traffic.QueuedFrame.{QueuedFrame}
use Rattle.node_core.specs.NodeValue.{NodeValue}
use Rattle.node_core.specs.Asking.{IsAnswerTo}
use Rattle.node_core.specs.Reaction.{question}
use Rattle.node_core.specs.Beginning.{begins}
use Rattle.node_core.specs.declared.heard.Answer.{Answer}
use Rattle.node_core.specs.declared.heard.Answer.TheVariants.{NotAsked}
use Rattle.node_core.specs.declared.heard.Started.TheVariants.{Held}
use Rattle.station_table.specs.declared.reaction.Reaction.{Reaction}
use Rattle.journal.specs.Steps.{order_answer, next_for}
use Rattle.journal.specs.State.{State, table_at, unit_at}
use Rattle.journal.specs.declared.event.Event.{Event}
use Rattle.journal.specs.declared.event.Event.TheVariants.{Join, Hear, Begin, Turned, Carry, Read, Ordered, Leave, Inject}

-- a unit answered to what the frame put to it, and to nothing else
abbrev pub IsAnswered : NodeValue → Option FrameValue → Answer → Type 0
IsAnswered node None answered = answered ≡ NotAsked
IsAnswered node (Some f) answered = IsAnswerTo (question node f) answered

abbrev pub Fits : State → Event → Type 0
Fits s (Join seat name address) = (seat ≡ length s.traffic.seats) × (join_refusal name s.traffic ≡ None) × (name < 2 ^ 64) × (address ≤ GREATEST_ADDRESS)
Fits s (Hear k memory answered) =
    IsUnit s.traffic k × ((seat_at s.traffic k).heard < length s.traffic.wire) × IsLawfulMemory memory × IsAnswered (unit_at s k).node (next_for s k) answered
Fits s (Begin k memory) =
    IsUnit s.traffic k × ((a : ℕ) × ((unit_at s k).node.claimer.held ≡ Some a) × (begins (unit_at s k).node.session Dm1 memory a ≢ Held)) × IsLawfulMemory memory
Fits s (Turned k) = IsUnit s.traffic k
Fits s (Carry k) = (q : QueuedFrame) × IsCarriedNext s.traffic k q
Fits s (Read y r) = IsStation s.traffic y × (r ≡ next_reading s.traffic y) × (r ≢ Empty)
Fits s (Ordered y order) = IsStation s.traffic y × ((r : Reaction) × (order_answer (table_at s y) order ≡ Ok r))
Fits s (Leave k) = IsUnit s.traffic k
Fits s (Inject frame) = Unit {0}
