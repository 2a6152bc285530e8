-- What a command does that changes something: garage and units are as the garage's own calls leave them, under the answer that tells it.
use Rattle.std.specs.Prelude.{◌≡◌, ◌⊎◌, ℕ, suc, zero, ◌<◌, ◌≤◌, List, Option, Some, None, IsNone, IsSome, Result, Ok, Err}
use Rattle.can_frame.specs.FrameValue.{FrameValue}
use Rattle.can_frame.specs.declared.frame.FrameError.{FrameError}
use Rattle.can_frame.specs.declared.pgn.PgnTooLarge.{PgnTooLarge}
use Rattle.can_frame.specs.declared.address.TheConstants.{GREATEST_ADDRESS}
use Rattle.can_frame.specs.declared.reading.Reading.{Reading}
use Rattle.name_field.specs.declared.error.NameError.{NameError}
use Rattle.unit_trait.specs.declared.question.Question.{Question}
use Rattle.node_core.specs.declared.heard.Answer.{Answer as UnitAnswer}
use Rattle.bus_ledger.specs.Carrying.{CanCarry}
use Rattle.bus_ledger.specs.declared.traffic.Carried.{Carried}
use Rattle.bus_ledger.specs.declared.traffic.Carried.TheVariants as carried
use Rattle.station_table.specs.declared.reaction.Ask.{Ask}
use Rattle.station_table.specs.declared.reaction.Ask.TheVariants as ask
use Rattle.journal.specs.Journal.{Adds, GarageValue, known_address_at, own_address_at, state_of}
use Rattle.journal.specs.declared.event.Event.{Event}
use Rattle.journal.specs.declared.event.Event.TheVariants.{Inject, Ordered}
use Rattle.journal.specs.declared.order.Order.{Order}
use Rattle.journal.specs.declared.order.Order.TheVariants as order
use Rattle.garage.specs.Answers.{Reads}
use Rattle.garage.specs.Carrying.{AddsCarry}
use Rattle.garage.specs.Crew.{Sitting}
use Rattle.garage.specs.Hearing.{IsNoMemoryOrFullAt}
use Rattle.garage.specs.Rounds.{EndsSo, HasReadAll, HaveRounds, IsRoundCut, IsUnread}
use Rattle.garage.specs.declared.error.GarageError.{GarageError}
use Rattle.garage.specs.declared.error.GarageError.TheVariants.{NoAddress, NotAnAddress, NotHeld, Stranger}
use Rattle.script_answer.specs.declared.answer.End.{End}
use Rattle.script_answer.specs.declared.answer.End.TheVariants.{Idle, Waiting}
use Rattle.script_answer.specs.declared.answer.LineAnswer.{LineAnswer}
use Rattle.script_answer.specs.declared.answer.LineAnswer.TheVariants as answer
use Rattle.script_answer.specs.declared.refusal.Refusal.{Refusal}
use Rattle.script_answer.specs.declared.refusal.Refusal.TheVariants.{Name, Pgn, Frame, Garage}
use Rattle.script_line.specs.declared.command.Asked.{Asked}
use Rattle.script_line.specs.declared.command.Asked.TheVariants as asked
use Rattle.script_line.specs.declared.command.Receiver.{Receiver}
use Rattle.script_line.specs.declared.command.Receiver.TheVariants.{All, Unit as OneUnit}

-- this event was added, which is answered by `ok`; or it was refused for such a reason, and nothing changed
abbrev pub AddsOr : Event → (GarageError → Type 0) → Result LineAnswer Refusal → GarageValue → GarageValue → Type 0
AddsOr e why (Ok a) g g' = (a ≡ answer.Done) × Adds g e g'
AddsOr e why (Err (Garage r)) g g' = why r × (g' ≡ g)
AddsOr e why (Err r) g g' = ⊥

-- why a station asks nobody: it holds no address; or the journal has no room, or there is no memory
abbrev pub AsksNobody : ℕ → GarageValue → GarageError → Type 0
AsksNobody y g e = ((e ≡ NotHeld) × IsNone (own_address_at g y)) ⊎ (IsSome (own_address_at g y) × IsNoMemoryOrFullAt g e)

-- why it does not ask the unit of this NAME: or it knows no address of it
abbrev pub AsksNone : ℕ → ℕ → GarageValue → GarageError → Type 0
AsksNone y name g e = ((e ≡ NotHeld) × IsNone (own_address_at g y)) ⊎ ((e ≡ NoAddress) × IsSome (own_address_at g y) × IsNone (known_address_at g y name))
    ⊎ (IsSome (own_address_at g y) × IsSome (known_address_at g y name) × IsNoMemoryOrFullAt g e)

-- why it commands no unit to this address: that can be held by none; or as it asks nobody
abbrev pub CommandsNone : ℕ → ℕ → GarageValue → GarageError → Type 0
CommandsNone y address g e = ((e ≡ NotAnAddress) × (GREATEST_ADDRESS < address)) ⊎ ((address ≤ GREATEST_ADDRESS) × AsksNobody y g e)

-- what the words of a request ask for
abbrev pub ask_meant : Asked → Result Ask PgnTooLarge
ask_meant asked.Dm1 = Ok ask.Dm1
ask_meant asked.Dm2 = Ok ask.Dm2
ask_meant asked.Dm3 = Ok ask.Dm3
ask_meant asked.Dm6 = Ok ask.Dm6
ask_meant asked.Dm11 = Ok ask.Dm11
ask_meant asked.Claim = Ok ask.Claim
ask_meant (asked.Other (Ok pgn)) = Ok (ask.Other pgn)
ask_meant (asked.Other (Err e)) = Err e

-- a station carried this order out, for what is meant
abbrev pub AsksFor : ℕ → (Ask → Order) → (GarageError → Type 0) → Result Ask PgnTooLarge → Result LineAnswer Refusal → GarageValue → GarageValue → Type 0
AsksFor y to why (Ok a) r g g' = AddsOr (Ordered y (to a)) why r g g'
AsksFor y to why (Err e) r g g' = (r ≡ Err (Pgn e)) × (g' ≡ g)

-- so many frames were carried, one after another
unfoldable pub CarriesMany : ℕ → GarageValue → GarageValue → Type 0
CarriesMany zero g g' = g' ≡ g
CarriesMany (suc n) g g' = (h : GarageValue) × (k : ℕ) × (f : FrameValue) × CarriesMany n g h × AddsCarry h (carried.Frame k f) g'

-- a station took so many readings, one after another
unfoldable pub ReadsMany : ℕ → ℕ → GarageValue → GarageValue → Type 0
ReadsMany y zero g g' = g' ≡ g
ReadsMany y (suc n) g g' = (h : GarageValue) × (r : Reading) × ReadsMany y n g h × IsUnread y h × Reads y h r g'

-- why no more frames were carried, as an answer tells it
abbrev pub end_told : Option Carried → Option End
end_told None = None
end_told (Some carried.Idle) = Some Idle
end_told (Some carried.Waiting) = Some Waiting
end_told (Some (carried.Frame k f)) = None

-- so many were carried of so many, and the answer tells why no more
abbrev pub EndsTold : ℕ → ℕ → Option End → GarageValue → Type 0
EndsTold most n end g = (why : Option Carried) × (end ≡ end_told why) × EndsSo most n why g

-- as many frames as asked for were carried, or fewer, since no more could be; or fewer, and the next one was refused for this
abbrev pub CarriesSo : ℕ → Result LineAnswer Refusal → GarageValue → GarageValue → Type 0
CarriesSo most (Ok (answer.Carried n end)) g g' = CarriesMany n g g' × EndsTold most n end g'
CarriesSo most (Err (Garage e)) g g' = (n : ℕ) × (n < most) × CarriesMany n g g' × CanCarry (state_of g').traffic × IsNoMemoryOrFullAt g' e
CarriesSo _ _ _ _ = ⊥

-- as many readings as asked for were taken, or fewer, since nothing is unread; or fewer, and the next one was refused for this
abbrev pub ReadsSo : ℕ → ℕ → Result LineAnswer Refusal → GarageValue → GarageValue → Type 0
ReadsSo y most (Ok (answer.Read n)) g g' = ReadsMany y n g g' × ((n ≡ most) ⊎ ((n < most) × HasReadAll y g'))
ReadsSo y most (Err (Garage e)) g g' = (n : ℕ) × (n < most) × ReadsMany y n g g' × IsUnread y g' × IsNoMemoryOrFullAt g' e
ReadsSo _ _ _ _ _ = ⊥

-- rounds were run, and cut short for this; a garage that does not know one of the units runs none
abbrev pub RunsRounds : {P : Type 0} → (P → Sitting) → (P → P → Option Question → UnitAnswer → Type 0) → ℕ → Result LineAnswer Refusal → GarageValue → List P → GarageValue → List P → Type 0
RunsRounds sitting asked most (Ok (answer.Carried n end)) g us g' us' = HaveRounds sitting asked n g us g' us' × EndsTold most n end g'
RunsRounds sitting asked most (Err (Garage e)) g us g' us' = ((e ≡ Stranger) × (g' ≡ g) × (us' ≡ us)) ⊎ IsRoundCut sitting asked most e g us g' us'
RunsRounds _ _ _ _ _ _ _ _ = ⊥

-- a station carried a request out
abbrev pub Asks : ℕ → Receiver → Asked → Result LineAnswer Refusal → GarageValue → GarageValue → Type 0
Asks y All what r g g' = AsksFor y order.AskAll (AsksNobody y g) (ask_meant what) r g g'
Asks y (OneUnit (Ok name)) what r g g' = AsksFor y (order.Ask name) (AsksNone y name g) (ask_meant what) r g g'
Asks y (OneUnit (Err e)) what r g g' = (r ≡ Err (Name e)) × (g' ≡ g)

-- a station commanded a unit to an address
abbrev pub Commands : ℕ → Result ℕ NameError → ℕ → Result LineAnswer Refusal → GarageValue → GarageValue → Type 0
Commands y (Ok name) address r g g' = AddsOr (Ordered y (order.Command name address)) (CommandsNone y address g) r g g'
Commands y (Err e) address r g g' = (r ≡ Err (Name e)) × (g' ≡ g)

-- a frame came from outside
abbrev pub Injects : Result FrameValue FrameError → Result LineAnswer Refusal → GarageValue → GarageValue → Type 0
Injects (Ok frame) r g g' = AddsOr (Inject frame) (IsNoMemoryOrFullAt g) r g g'
Injects (Err e) r g g' = (r ≡ Err (Frame e)) × (g' ≡ g)
