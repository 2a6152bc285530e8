-- The journal, newest event first, and what it says.
use Rattle.std.specs.Prelude.{◌≡◌, ℕ, ◌+◌, ◌==◌, List, [], ◌∷◌, Option, reverse, if◌then◌else◌}
use Rattle.bus_ledger.specs.BusValue.{IsUnit, seat_at}
use Rattle.dm_messages.specs.declared.kind.Kind.{Kind}
use Rattle.dm_messages.specs.declared.shown.Shown.{Shown}
use Rattle.bus_model.specs.Expected.{expected}
use Rattle.bus_model.specs.Heard.{address_heard, address_known, entries_heard}
use Rattle.bus_model.specs.Machine.{AreFit}
use Rattle.journal.specs.Worlds.{station_of_at, stations_of}
use Rattle.can_frame.specs.declared.reading.Reading.{Reading}
use Rattle.journal.specs.State.{State, Settings, new_state, path_at}
use Rattle.journal.specs.Steps.{after}
use Rattle.journal.specs.Fits.{Fits}
use Rattle.journal.specs.declared.event.Event.{Event}
use Rattle.journal.specs.declared.event.Event.TheVariants.{Join, Hear, Begin, Turned, Carry, Read, Ordered, Leave, Inject}
use Rattle.journal.specs.declared.tally.Tally.{Tally}

-- a garage as contracts see it
pub record GarageValue : Type 0 where
  pub settings : Settings
  pub journal : List Event

-- the state that the events lead to
unfoldable pub state_after : Settings → List Event → State
state_after r [] = new_state r
state_after r (e ∷ older) = after e (state_after r older)

abbrev pub state_of : GarageValue → State
state_of g = state_after g.settings g.journal

-- the settings fit, no two stations have one NAME, and each event fits what came before
unfoldable pub AllFit : Settings → List Event → Type 0
AllFit r [] = AreFit (stations_of r)
AllFit r (e ∷ older) = Fits (state_after r older) e × AllFit r older

-- one event more
abbrev pub with_event : Event → GarageValue → GarageValue
with_event e g = record g { journal = e ∷ g.journal }

-- a call that adds this event
pub record Adds (old : GarageValue) (e : Event) (new : GarageValue) : Type 0 where
  pub adds : new ≡ with_event e old
  pub fits : Fits (state_of old) e

-- how many units have joined
unfoldable pub joins : List Event → ℕ
joins [] = 0
joins (Join seat name address ∷ older) = joins older + 1
joins (_ ∷ older) = joins older

abbrev pub one_more : Tally → Tally
one_more t = record t { events = t.events + 1 }

-- a seat's own events are its join, what it hears and begins, its turns and its leave
abbrev pub tallied : ℕ → Event → Tally → Tally
tallied k (Join j name address) t = if j == k then one_more (record t { joined = t.joined + 1 }) else t
tallied k (Hear j memory answered) t = if j == k then one_more t else t
tallied k (Begin j memory) t = if j == k then one_more t else t
tallied k (Turned j) t = if j == k then one_more (record t { turned = t.turned + 1 }) else t
tallied k (Carry j) t = t
tallied k (Read y r) t = t
tallied k (Ordered y order) t = t
tallied k (Leave j) t = if j == k then one_more (record t { left = t.left + 1 }) else t
tallied k (Inject frame) t = t

-- what the journal tells of a seat
unfoldable pub tally_of : ℕ → List Event → Tally
tally_of k [] = record { joined = 0; turned = 0; left = 0; events = 0 }
tally_of k (e ∷ older) = tallied k e (tally_of k older)

-- a live seat of a unit with this number, NAME and count of its own events
pub record IsSeated (g : GarageValue) (k name events : ℕ) : Type 0 where
  pub unit : IsUnit (state_of g).traffic k
  pub named : (seat_at (state_of g).traffic k).name ≡ name
  pub counted : (tally_of k g.journal).events ≡ events

-- the readings that the station with this number took, newest first
unfoldable pub readings_at : ℕ → List Event → List Reading
readings_at y [] = []
readings_at y (Read j reading ∷ older) = if j == y then reading ∷ readings_at y older else readings_at y older
readings_at y (_ ∷ older) = readings_at y older

-- those of station 0
abbrev pub readings_of : List Event → List Reading
readings_of events = readings_at 0 events

-- how many frames were put on the bus from outside
unfoldable pub injected_of : List Event → ℕ
injected_of [] = 0
injected_of (Inject frame ∷ older) = injected_of older + 1
injected_of (_ ∷ older) = injected_of older

-- the address that a station holds, as its readings tell
abbrev pub own_address_at : GarageValue → ℕ → Option ℕ
own_address_at g y = address_heard (station_of_at g.settings y) (readings_at y g.journal)

-- the address that its readings tell of a NAME
abbrev pub known_address_at : GarageValue → ℕ → ℕ → Option ℕ
known_address_at g y n = address_known (station_of_at g.settings y) n (readings_at y g.journal)

-- what a station lists under a NAME: what was heard of the readings that it took, whoever sent the frames, the oldest first
abbrev pub listed_at : GarageValue → ℕ → ℕ → Kind → List Shown
listed_at g y n k = reverse (entries_heard (station_of_at g.settings y) n k (readings_at y g.journal))

-- what a garage is to show at a station of a NAME: of its messages of that kind, those that came to the station on a clear path, in
-- the order begun, each as the view of the fault memory with which it began
abbrev pub shown_at : GarageValue → ℕ → ℕ → Kind → List Shown
shown_at g y n k = reverse (expected (station_of_at g.settings y) n k (state_of g).begun (path_at (state_of g) y))

-- each of them for station 0
abbrev pub own_address : GarageValue → Option ℕ
own_address g = own_address_at g 0

abbrev pub known_address : GarageValue → ℕ → Option ℕ
known_address g n = known_address_at g 0 n

abbrev pub listed_of : GarageValue → ℕ → Kind → List Shown
listed_of g n k = listed_at g 0 n k

abbrev pub shown_of : GarageValue → ℕ → Kind → List Shown
shown_of g n k = shown_at g 0 n k
