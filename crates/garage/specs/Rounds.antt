-- What rounds come to: in each of them every unit hears all, every station reads all, and a frame is carried.
use Rattle.std.specs.Prelude.{◌≡◌, ◌≢◌, ◌⊎◌, ◌<◌, ◌≤◌, ℕ, suc, zero, List, Option, Some, None, length, slice_get, slice_set}
use Rattle.can_frame.specs.FrameValue.{FrameValue}
use Rattle.can_frame.specs.declared.reading.Reading.TheVariants.{Empty}
use Rattle.unit_trait.specs.declared.question.Question.{Question}
use Rattle.node_core.specs.declared.heard.Answer.{Answer as UnitAnswer}
use Rattle.bus_ledger.specs.Carrying.{CanCarry, IsIdle, IsWaiting}
use Rattle.bus_ledger.specs.Reception.{next_reading}
use Rattle.bus_ledger.specs.declared.traffic.Carried.{Carried}
use Rattle.bus_ledger.specs.declared.traffic.Carried.TheVariants as carried
use Rattle.journal.specs.Journal.{GarageValue, state_of}
use Rattle.journal.specs.declared.event.Event.{Event}
use Rattle.journal.specs.declared.event.Event.TheVariants.{Read}
use Rattle.garage.specs.Carrying.{AddsCarry}
use Rattle.garage.specs.Crew.{LeadTo, Sitting}
use Rattle.garage.specs.Hearing.{HearsOut, IsHearingCut, IsNoMemoryOrFullAt}
use Rattle.garage.specs.declared.error.GarageError.{GarageError}

-- a station has nothing left to read; or it has
abbrev pub HasReadAll : ℕ → GarageValue → Type 0
HasReadAll y g = next_reading (state_of g).traffic y ≡ Empty

abbrev pub IsUnread : ℕ → GarageValue → Type 0
IsUnread y g = next_reading (state_of g).traffic y ≢ Empty

-- the first n stations have nothing left to read
abbrev pub HaveReadAll : ℕ → GarageValue → Type 0
HaveReadAll n g = (y : ℕ) → y < n → HasReadAll y g

-- the station with this number read
abbrev pub IsReadOf : ℕ → Event → Type 0
IsReadOf y (Read j r) = j ≡ y
IsReadOf y _ = ⊥

-- it took readings, one after another
abbrev pub TakesReadings : ℕ → GarageValue → GarageValue → Type 0
TakesReadings y old new = (events : List Event) × LeadTo (IsReadOf y) events old new

-- the first n stations read all, in turn
unfoldable pub EachReads : ℕ → GarageValue → GarageValue → Type 0
EachReads zero old new = new ≡ old
EachReads (suc n) old new = (before : GarageValue) × EachReads n old before × TakesReadings n before new × HasReadAll n new

-- some did; this one then took readings, and there is one more, which was refused for this
pub record IsReadingCut (e : GarageError) (old new : GarageValue) : Type 0 where
  pub station : ℕ
  pub one : station < length old.settings.stations
  pub before : GarageValue
  pub turn : EachReads station old before
  pub reads : TakesReadings station before new
  pub left : IsUnread station new
  pub want : IsNoMemoryOrFullAt new e

-- the unit with this number heard all, and the others are as they were
pub record HearsAt {P : Type 0} (sitting : P → Sitting) (asked : P → P → Option Question → UnitAnswer → Type 0) (i : ℕ) (g : GarageValue) (us : List P) (g' : GarageValue) (us' : List P) : Type 0 where
  pub before : P
  pub after : P
  pub there : slice_get us i ≡ Some before
  pub put : us' ≡ slice_set us i after
  pub heard : HearsOut sitting asked g before g' after

-- the first n units heard all, in turn
unfoldable pub HearInTurn : {P : Type 0} → (P → Sitting) → (P → P → Option Question → UnitAnswer → Type 0) → ℕ → GarageValue → List P → GarageValue → List P → Type 0
HearInTurn sitting asked zero g us g' us' = (g' ≡ g) × (us' ≡ us)
HearInTurn {P} sitting asked (suc n) g us g' us' = (h : GarageValue) × (vs : List P) × HearInTurn sitting asked n g us h vs × HearsAt sitting asked n h vs g' us'

-- whenever the first n have heard all, so have the first m then
abbrev pub HearOnward : {P : Type 0} → (P → Sitting) → (P → P → Option Question → UnitAnswer → Type 0) → ℕ → ℕ → GarageValue → List P → GarageValue → List P → Type 0
HearOnward {P} sitting asked n m g us g' us' = (v : GarageValue) (vs : List P) → HearInTurn sitting asked n v vs g us → HearInTurn sitting asked m v vs g' us'

-- some did; this one then heard some frames, and there is one more, which was refused for this
pub record IsTurnCut {P : Type 0} (sitting : P → Sitting) (asked : P → P → Option Question → UnitAnswer → Type 0) (e : GarageError) (g : GarageValue) (us : List P) (g' : GarageValue) (us' : List P) : Type 0 where
  pub number : ℕ
  pub count : ℕ
  pub here : GarageValue
  pub others : List P
  pub before : P
  pub after : P
  pub turn : HearInTurn sitting asked number g us here others
  pub there : slice_get others number ≡ Some before
  pub put : us' ≡ slice_set others number after
  pub cut : IsHearingCut sitting asked count e here before g' after

-- each unit heard all, and each station read all
pub record Listens {P : Type 0} (sitting : P → Sitting) (asked : P → P → Option Question → UnitAnswer → Type 0) (g : GarageValue) (us : List P) (g' : GarageValue) (us' : List P) : Type 0 where
  pub heard : GarageValue
  pub hears : HearInTurn sitting asked (length us) g us heard us'
  pub reads : EachReads (length g.settings.stations) heard g'

-- that was cut short where a unit heard, or where a station read
pub record IsReadingTurnCut {P : Type 0} (sitting : P → Sitting) (asked : P → P → Option Question → UnitAnswer → Type 0) (e : GarageError) (g : GarageValue) (us : List P) (g' : GarageValue) (us' : List P) : Type 0 where
  pub heard : GarageValue
  pub hears : HearInTurn sitting asked (length us) g us heard us'
  pub cut : IsReadingCut e heard g'

abbrev pub IsListeningCut : {P : Type 0} → (P → Sitting) → (P → P → Option Question → UnitAnswer → Type 0) → GarageError → GarageValue → List P → GarageValue → List P → Type 0
IsListeningCut sitting asked e g us g' us' = IsTurnCut sitting asked e g us g' us' ⊎ IsReadingTurnCut sitting asked e g us g' us'

-- so often all heard and read, and then a frame was carried
unfoldable pub AreRounds : {P : Type 0} → (P → Sitting) → (P → P → Option Question → UnitAnswer → Type 0) → ℕ → GarageValue → List P → GarageValue → List P → Type 0
AreRounds sitting asked zero g us g' us' = (g' ≡ g) × (us' ≡ us)
AreRounds {P} sitting asked (suc n) g us g' us' =
    (h i : GarageValue) × (vs : List P) × (k : ℕ) × (f : FrameValue)
    × AreRounds sitting asked n g us h vs × Listens sitting asked h vs i us' × AddsCarry i (carried.Frame k f) g'

-- so many rounds, and then all heard and read once more
pub record HaveRounds {P : Type 0} (sitting : P → Sitting) (asked : P → P → Option Question → UnitAnswer → Type 0) (n : ℕ) (g : GarageValue) (us : List P) (g' : GarageValue) (us' : List P) : Type 0 where
  pub here : GarageValue
  pub others : List P
  pub rounds : AreRounds sitting asked n g us here others
  pub listens : Listens sitting asked here others g' us'

-- why it ended: so many were carried as were asked for; or fewer, and no queue has a frame, or none of a seat that has heard all
abbrev pub EndsSo : ℕ → ℕ → Option Carried → GarageValue → Type 0
EndsSo most n None g = n ≡ most
EndsSo most n (Some carried.Idle) g = (n < most) × IsIdle (state_of g).traffic
EndsSo most n (Some carried.Waiting) g = (n < most) × IsWaiting (state_of g).traffic
EndsSo most n (Some (carried.Frame k f)) g = ⊥

-- fewer rounds than asked for, all heard and read once more, and a frame can be carried, which was refused for this
pub record IsCarryCut {P : Type 0} (sitting : P → Sitting) (asked : P → P → Option Question → UnitAnswer → Type 0) (most : ℕ) (e : GarageError) (g : GarageValue) (us : List P) (g' : GarageValue) (us' : List P) : Type 0 where
  pub count : ℕ
  pub fewer : count < most
  pub rounds : HaveRounds sitting asked count g us g' us'
  pub left : CanCarry (state_of g').traffic
  pub want : IsNoMemoryOrFullAt g' e

-- no more rounds than asked for, and then the listening was cut short
pub record IsListeningLeft {P : Type 0} (sitting : P → Sitting) (asked : P → P → Option Question → UnitAnswer → Type 0) (most : ℕ) (e : GarageError) (g : GarageValue) (us : List P) (g' : GarageValue) (us' : List P) : Type 0 where
  pub count : ℕ
  pub few : count ≤ most
  pub here : GarageValue
  pub others : List P
  pub rounds : AreRounds sitting asked count g us here others
  pub cut : IsListeningCut sitting asked e here others g' us'

-- rounds that were cut short
abbrev pub IsRoundCut : {P : Type 0} → (P → Sitting) → (P → P → Option Question → UnitAnswer → Type 0) → ℕ → GarageError → GarageValue → List P → GarageValue → List P → Type 0
IsRoundCut sitting asked most e g us g' us' = IsListeningLeft sitting asked most e g us g' us' ⊎ IsCarryCut sitting asked most e g us g' us'
