-- What a turn and a reading add to the journal of a garage.
use Rattle.std.specs.Prelude.{ℕ, suc, zero, ◌≡◌, ◌≢◌, ◌⊎◌, ◌<◌, ◌≤◌, ◌&&◌, Bool, not, List, ◌++◌, Option, All, is_some, length, if◌then◌else◌}
use Rattle.std.specs.declared.alloc.Global.{Global}
use Rattle.std.specs.declared.dyn_box.DynBox.{DynBox}
use Rattle.fault_memory.specs.Memory.{MemoryValue}
use Rattle.unit_trait.specs.declared.question.Question.{Question}
use Rattle.node_core.specs.Asking.{IsAsked}
use Rattle.node_core.specs.declared.heard.Answer.{Answer as UnitAnswer}
use Rattle.bus_ledger.specs.Carrying.{IsIdle, IsWaiting}
use Rattle.bus_ledger.specs.Reception.{next_reading}
use Rattle.journal.specs.Journal.{GarageValue, IsSeated, state_of, with_event}
use Rattle.journal.specs.declared.event.Event.{Event}
use Rattle.journal.specs.declared.event.Event.TheVariants.{Hear, Begin, Turned, Carry, Leave}
use Rattle.garage.specs.Causes.{held_at, has_open_dm1}
use Rattle.garage.specs.Crew.{Sitting}
use Rattle.garage.specs.Hearing.{HasHeardAll, HearsMany}
use Rattle.garage.specs.Rounds.{HaveReadAll, IsReadOf}

-- these events more, the newest first
abbrev pub with_events : List Event → GarageValue → GarageValue
with_events es g = record g { journal = es ++ g.journal }

-- events of one kind alone were added
pub record GrowsBy (P : Event → Type 0) (old new : GarageValue) : Type 0 where
  pub events : List Event
  pub kind : All P events
  pub added : new ≡ with_events events old

-- the unit on the seat heard a frame
abbrev pub IsHearOf : ℕ → Event → Type 0
IsHearOf k (Hear j memory answered) = j ≡ k
IsHearOf k _ = ⊥

abbrev pub IsCarry : Event → Type 0
IsCarry (Carry k) = Unit {0}
IsCarry _ = ⊥

-- the first n stations read, one after another
abbrev pub ReadInTurn : ℕ → GarageValue → GarageValue → Type 0
ReadInTurn zero old new = new ≡ old
ReadInTurn (suc n) old new = (before : GarageValue) × ReadInTurn n old before × GrowsBy (IsReadOf n) before new

-- what the other stations read next is as it was, and so are the settings
pub record LeavesOthers (y : ℕ) (old new : GarageValue) : Type 0 where
  pub settings : new.settings ≡ old.settings
  pub next : (j : ℕ) → j ≢ y → next_reading (state_of new).traffic j ≡ next_reading (state_of old).traffic j

-- a DM1 of the memory begins where the unit wants one, its seat holds an address and has no session of a DM1 open
abbrev pub begun_by : ℕ → Bool → MemoryValue → GarageValue → GarageValue
begun_by k wants memory g = if wants && (is_some (held_at g k) && not (has_open_dm1 g k)) then with_event (Begin k memory) g else g

-- in its seat the unit heard the whole wire, then began a DM1 where it could, then ended its turn
pub record IsTurnInSeat (k : ℕ) (wants : Bool) (memory : MemoryValue) (old new : GarageValue) : Type 0 where
  pub heard : GarageValue
  pub hears : GrowsBy (IsHearOf k) old heard
  pub all : HasHeardAll k heard
  pub turned : new ≡ with_event (Turned k) (begun_by k wants memory heard)

-- no queue has a frame, or no seat with one has heard the whole wire
abbrev pub CannotCarry : GarageValue → Type 0
CannotCarry g = IsIdle (state_of g).traffic ⊎ IsWaiting (state_of g).traffic

-- frames were carried: eight, or fewer where no more could be
pub record CarriesAll (old new : GarageValue) : Type 0 where
  pub carries : GrowsBy IsCarry old new
  pub most : length carries.events ≤ 8
  pub all : (length carries.events ≡ 8) ⊎ CannotCarry new

-- fewer than eight were carried
pub record CarriesSome (old new : GarageValue) : Type 0 where
  pub carries : GrowsBy IsCarry old new
  pub fewer : length carries.events < 8

-- a turn in the seat, then carrying
pub record IsOneTurn (k : ℕ) (wants : Bool) (memory : MemoryValue) (old new : GarageValue) : Type 0 where
  pub turned : GarageValue
  pub turn : IsTurnInSeat k wants memory old turned
  pub carries : CarriesAll turned new

-- the whole wire was heard and what began, if anything did; but the turn was not ended
pub record IsBegunTurn (k : ℕ) (old new : GarageValue) : Type 0 where
  pub heard : GarageValue
  pub wants : Bool
  pub memory : MemoryValue
  pub hears : GrowsBy (IsHearOf k) old heard
  pub all : HasHeardAll k heard
  pub begun : new ≡ begun_by k wants memory heard

-- the turn was ended, but fewer than eight frames carried
pub record IsTurnCarrying (k : ℕ) (old new : GarageValue) : Type 0 where
  pub turned : GarageValue
  pub wants : Bool
  pub memory : MemoryValue
  pub turn : IsTurnInSeat k wants memory old turned
  pub carries : CarriesSome turned new

-- a turn as far as it came
abbrev pub IsPartOfTurn : ℕ → GarageValue → GarageValue → Type 0
IsPartOfTurn k old new = GrowsBy (IsHearOf k) old new ⊎ (IsBegunTurn k old new ⊎ IsTurnCarrying k old new)

-- a turn as far as it came, and then the unit left
pub record LeftTurn (k : ℕ) (old new : GarageValue) : Type 0 where
  pub last : GarageValue
  pub part : IsPartOfTurn k old last
  pub left : new ≡ with_event (Leave k) last

-- fewer than eight frames carried, and then the unit left
pub record LeavesAfterSome (k : ℕ) (old new : GarageValue) : Type 0 where
  pub last : GarageValue
  pub carries : CarriesSome old last
  pub left : new ≡ with_event (Leave k) last

-- each station read until nothing was unread, in order of their numbers, then carrying
pub record IsOneRead (old new : GarageValue) : Type 0 where
  pub read : GarageValue
  pub reads : ReadInTurn (length old.settings.stations) old read
  pub all : HaveReadAll (length old.settings.stations) read
  pub carries : CarriesAll read new

-- all was read, but fewer than eight frames carried
pub record IsReadCarrying (old new : GarageValue) : Type 0 where
  pub read : GarageValue
  pub reads : ReadInTurn (length old.settings.stations) old read
  pub all : HaveReadAll (length old.settings.stations) read
  pub carries : CarriesSome read new

-- some stations read in turn
abbrev pub IsPartOfReading : GarageValue → GarageValue → Type 0
IsPartOfReading old new = (n : ℕ) × (n ≤ length old.settings.stations) × ReadInTurn n old new

-- a reading as far as it came
abbrev pub IsPartOfRead : GarageValue → GarageValue → Type 0
IsPartOfRead old new = IsPartOfReading old new ⊎ IsReadCarrying old new

-- who was seated still is
pub record KeepsSeats (old new : GarageValue) : Type 0 where
  pub still : (k name events : ℕ) → IsSeated old k name events → IsSeated new k name events

-- ---- the box of a unit

-- a unit and its count of events, as they are to a garage
abbrev pub sitting_at : {X : Type 0} → ℕ → (X → ℕ) → (X → MemoryValue) → X × ℕ → Sitting
sitting_at k name_of memory_of p = record { seat = k; name = name_of p.0; events = p.1; memory = memory_of p.0 }

abbrev pub asked_at : {X : Type 0} → (X → Question → Bool → X → Type 0) → X × ℕ → X × ℕ → Option Question → UnitAnswer → Type 0
asked_at answers p q question answer = IsAsked (answers p.0) question answer p.0 q.0

-- the unit in the box heard some frames, one after another: it was asked exactly what each puts to it, and is else as it was
abbrev pub BoxHeard : {I : Type 0} → {D : I → Type 0} → ((i : I) → D i → ℕ) → ((i : I) → D i → MemoryValue) → ((i : I) → D i → Question → Bool → D i → Type 0)
    → ℕ → GarageValue → DynBox I Global D → ℕ → GarageValue → DynBox I Global D → ℕ → Type 0
BoxHeard {I} {D} name_of memory_of answers k a b e a' b' e' =
    (u : D b.vtable) × (n : ℕ) × (b' ≡ record b { value = u }) × HearsMany (sitting_at k (name_of b.vtable) (memory_of b.vtable)) (asked_at (answers b.vtable)) n a (b.value, e) a' (u, e')

-- so it heard the whole wire, then began a DM1 where it could, then ended its turn
pub record IsTurnInBox {I : Type 0} {D : I → Type 0} (name_of : (i : I) → D i → ℕ) (wants : (i : I) → D i → Bool) (memory_of : (i : I) → D i → MemoryValue) (answers : (i : I) → D i → Question → Bool → D i → Type 0) (k : ℕ) (old : GarageValue) (b : DynBox I Global D) (e : ℕ) (new : GarageValue) (b' : DynBox I Global D) : Type 0 where
  pub heard : GarageValue
  pub events : ℕ
  pub box : BoxHeard name_of memory_of answers k old b e heard b' events
  pub all : HasHeardAll k heard
  pub turned : new ≡ with_event (Turned k) (begun_by k (wants b'.vtable b'.value) (memory_of b'.vtable b'.value) heard)
