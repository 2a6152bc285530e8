-- Each call keeps what was listed.
use Rattle.std.proofs.Common.{ℕ, ◌≡◌, ◌<◌, ◌^◌, Bool, List, ◌∷◌, length, arith, ap, ◌∙◌, subst}
use Rattle.fault_memory.specs.Memory.{MemoryValue}
use Rattle.unit_trait.specs.declared.question.Question.{Question}
use Rattle.journal.specs.Fits.{Fits}
use Rattle.journal.specs.State.{Settings}
use Rattle.journal.specs.Journal.{GarageValue, Adds, state_of, with_event}
use Rattle.journal.specs.Promises.{KeepsLists}
use Rattle.journal.specs.declared.event.Event.{Event}
use Rattle.journal.specs.declared.event.Event.TheVariants as event
use Rattle.journal.proofs.Lifted.{keeps_adds, keeps_same}
use Rattle.garage.specs.Answers.{Hears, Begins, Reads}
use Rattle.can_frame.specs.declared.reading.Reading.{Reading}
use Rattle.can_frame.specs.declared.reading.Reading.TheVariants as reading
use Rattle.garage.specs.Inside.{settings_of, garage_value_of, Stands}
use Rattle.garage.specs.declared.garage.Garage.TheInside.{Inside}
use Rattle.garage.specs.declared.answers.HeardOne.{HeardOne}
use Rattle.garage.specs.declared.answers.HeardOne.TheVariants as heard
use Rattle.garage.specs.declared.answers.Begin.{Begin as Began}
use Rattle.garage.specs.declared.answers.Begin.TheVariants as began

-- a journal has room for 2^24 events at most
pub few_events : (a : Inside) (g : GarageValue) → garage_value_of a ≡ g → Stands a → length g.journal < 2 ^ 32
few_events a g is stands =
    let long : length a.journal ≡ length g.journal = ap (λ (v : GarageValue). length v.journal) is in
    let within = stands.within in
    let limit = stands.few in
    omega arith

-- nothing changed
pub lists_same : (old new : GarageValue) → new ≡ old → KeepsLists old new
lists_same old new e = keeps_same old new e

-- one event more
pub lists_added : (a : Inside) (old new : GarageValue) (e : Event) → garage_value_of a ≡ old → Stands a → Adds old e new → KeepsLists old new
lists_added a old new e is stands adds = keeps_adds old new e adds

pub lists_pushed : (a : Inside) (old : GarageValue) (r : Settings) (events : List Event) (e : Event) → garage_value_of a ≡ old → Stands a → r ≡ settings_of a → events ≡ e ∷ a.journal
    → Fits (state_of (garage_value_of a)) e → KeepsLists old (record { settings = r; journal = events })
lists_pushed a old r events e is stands settings journal fits =
    let v : GarageValue = record { settings = r; journal = events } in
    let next : v ≡ with_event e (garage_value_of a) = cc in
    lists_added a old v e is stands (record { adds = next ∙ ap (with_event e) is; fits = subst (λ (g : GarageValue). Fits (state_of g) e) is fits })

pub lists_of_event : (old new : GarageValue) (e : Event) → Adds old e new → KeepsLists old new
lists_of_event old new e adds = keeps_adds old new e adds

pub lists_heard : {X : Type 0} → (old new : GarageValue) (k : ℕ) (memory memory' : MemoryValue) (answers : Question → Bool → X → Type 0) (unit unit' : X) (h : HeardOne)
    → Hears old k memory answers unit h new memory' unit' → KeepsLists old new
lists_heard old new k memory memory' answers unit unit' (heard.Frame f) h = lists_of_event old new (event.Hear k memory h.1.0) h.1.1
lists_heard old new k memory memory' answers unit unit' heard.Nothing h = keeps_same old new h.1

pub lists_begun : (old new : GarageValue) (k : ℕ) (memory : MemoryValue) (b : Began) → Begins old k memory b new → KeepsLists old new
lists_begun old new k memory began.Begun h = lists_of_event old new (event.Begin k memory) h
lists_begun old new k memory began.Held h = keeps_same old new h.1

pub lists_read : (y : ℕ) (old : GarageValue) (r : Reading) (new : GarageValue) → Reads y old r new → KeepsLists old new
lists_read y old reading.Empty new h = keeps_same old new h.1
lists_read y old (reading.Frame f) new h = lists_of_event old new (event.Read y (reading.Frame f)) h
lists_read y old (reading.Gap n) new h = lists_of_event old new (event.Read y (reading.Gap n)) h
