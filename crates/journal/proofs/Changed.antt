-- A state in which one unit's seat changed, and perhaps a message began, is the world with that seat changed.
use Rattle.std.proofs.Common.{ℕ, ◌≡◌, ◌+◌, ◌<◌, List, ◌∷◌, length, get_or, set, reverse, refl, sym, ap, ◌∙◌, subst, arith, inl, inr}
use Rattle.std.proofs.lemmas.List.{length-set, get_or-set_same, get_or-set_other}
use Rattle.bus_ledger.specs.BusValue.{SeatValue, nobody, seat_at}
use Rattle.bus_ledger.specs.Changes.{with_seat}
use Rattle.bus_ledger.proofs.Numbers.{same_or_not}
use Rattle.bus_model.specs.Messages.{Message}
use Rattle.bus_model.specs.Expected.{Reception}
use Rattle.bus_model.specs.Traffic.{Item}
use Rattle.bus_model.specs.Machine.{Seat, World}
use Rattle.journal.specs.State.{Settings, State, StationSetting, UnitState, new_unit, path_at, setting_at}
use Rattle.journal.specs.Worlds.{items_of, queue_of, world_of}
use Rattle.journal.proofs.Seated.{AreCarried, IsPost, IsSeat, Stands, no_seat}
use Rattle.journal.proofs.Posts.{stations_same, world_parts}
use Rattle.journal.proofs.Growth.{all_known_still, carried_still, items_same, items_still, numbers_set, queue_still, seat_still, seated_set}

-- unit j with this seat, and this that it keeps, and these messages begun
abbrev pub changed : State → ℕ → SeatValue → UnitState → List Message → State
changed s j v u begun = record s { traffic = with_seat s.traffic (length s.stations + j) v; units = set s.units j u; begun = begun }

pub names_changed : (s : State) (j : ℕ) (v : SeatValue) → v.name ≡ (seat_at s.traffic (length s.stations + j)).name → length s.stations + j < length s.traffic.seats
    → (k : ℕ) → (seat_at (with_seat s.traffic (length s.stations + j) v) k).name ≡ (seat_at s.traffic k).name
names_changed s j v e l k = elim (same_or_not (length s.stations + j) k) [
  | inl same ↦ subst (λ (i : ℕ). (seat_at (with_seat s.traffic (length s.stations + j) v) i).name ≡ (seat_at s.traffic i).name) same
      (ap (λ (x : SeatValue). x.name) (get_or-set_same s.traffic.seats (length s.stations + j) v nobody l) ∙ e)
  | inr other ↦ ap (λ (x : SeatValue). x.name) (get_or-set_other s.traffic.seats (length s.stations + j) k v nobody (λ e. other (sym e)))
]

-- a station's seat stays
pub station_changed : (s : State) (j : ℕ) (v : SeatValue) (y : ℕ) → y < length s.stations → seat_at (with_seat s.traffic (length s.stations + j) v) y ≡ seat_at s.traffic y
station_changed s j v y h = get_or-set_other s.traffic.seats (length s.stations + j) y v nobody (λ e. absurd (omega (arith, e, h)))

-- and has what it had with a message more
post_still : (r : StationSetting) (m : Message) (begun : List Message) (items : List Item) (v : SeatValue) (path : List Reception) → m.number ≡ length begun → IsPost r begun items v path → IsPost r (m ∷ begun) items v path
post_still r m begun items v path newest p = record { name = p.name; live = p.live; known = all_known_still m begun v.queue newest p.known; within = p.within; passed' = p.passed' }

-- one seat changed, and what was begun says the same of the others
stands_with : (r : Settings) (s : State) (seats : List Seat) (j : ℕ) (v : SeatValue) (u : UnitState) (x : Seat) (begun : List Message) → Stands r s seats → j < length s.units
    → items_of (changed s j v u begun) ≡ items_of s → ((y : ℕ) → y < length s.stations → IsPost (setting_at r y) begun (items_of s) (seat_at s.traffic y) (path_at s y)) → AreCarried begun (length s.traffic.seats) s.traffic.wire
    → ((i : ℕ) → i < length s.units → IsSeat begun (items_of s) (seat_at s.traffic (length s.stations + i)) (get_or s.units i (new_unit 0 0)) (get_or seats i no_seat))
    → IsSeat begun (items_of s) v u x → x.number ≡ length s.stations + j → Stands r (changed s j v u begun) (set seats j x)
stands_with r s seats j v u x begun st l items posts carried others seat number =
    let long = length-set s.traffic.seats (length s.stations + j) v in
    let units = length-set s.units j u in
    let places = length-set seats j x in
    record {
      settings = st.settings;
      windows = st.windows;
      posts = λ y h. rw (station_changed s j v y h, items) (posts y h);
      carried = rw long carried;
      count = (let n = st.count in omega arith);
      places = (let n = st.places in omega arith);
      numbers = λ i lt. numbers_set (length s.stations) seats j (length s.units) x st.places number st.numbers i (omega arith);
      seated = λ i lt. rw items (seated_set (IsSeat begun (items_of s)) (length s.stations) s.traffic.seats s.units seats j v u x st.count st.places seat others i (omega arith));
    }

-- ---- no message began

pub changed_items : (r : Settings) (s : State) (seats : List Seat) (j : ℕ) (v : SeatValue) (u : UnitState) → Stands r s seats → j < length s.units → v.name ≡ (seat_at s.traffic (length s.stations + j)).name
    → items_of (changed s j v u s.begun) ≡ items_of s
changed_items r s seats j v u st l e =
    let n = st.count in
    items_same s (changed s j v u s.begun) s.traffic.wire (λ k lt. names_changed s j v e (omega arith) k) refl st.carried

pub changed_stands : (r : Settings) (s : State) (seats : List Seat) (j : ℕ) (v : SeatValue) (u : UnitState) (x : Seat) → Stands r s seats → j < length s.units → v.name ≡ (seat_at s.traffic (length s.stations + j)).name
    → IsSeat s.begun (items_of s) v u x → x.number ≡ length s.stations + j → Stands r (changed s j v u s.begun) (set seats j x)
changed_stands r s seats j v u x st l e seat number =
    stands_with r s seats j v u x s.begun st l (changed_items r s seats j v u st l e) st.posts st.carried st.seated seat number

pub changed_world : (r : Settings) (s : State) (seats : List Seat) (j : ℕ) (v : SeatValue) (u : UnitState) (x : Seat) → Stands r s seats → j < length s.units → v.name ≡ (seat_at s.traffic (length s.stations + j)).name
    → ◌≡◌ {A = World} (world_of r (changed s j v u s.begun) (set seats j x)) (record (world_of r s seats) { seats = set seats j x })
changed_world r s seats j v u x st l e =
    world_parts (stations_same r s (changed s j v u s.begun) (λ y h. (let given : y < length s.stations = subst (λ (n : ℕ). y < n) (sym st.settings) h in record { asked = ap (queue_of s.begun y) (station_changed s j v y given); path = refl })))
    (changed_items r s seats j v u st l e) refl

-- ---- a message began

pub began_items : (r : Settings) (s : State) (seats : List Seat) (j : ℕ) (v : SeatValue) (u : UnitState) (m : Message) → Stands r s seats → j < length s.units → v.name ≡ (seat_at s.traffic (length s.stations + j)).name
    → m.number ≡ length s.begun → items_of (changed s j v u (m ∷ s.begun)) ≡ items_of s
began_items r s seats j v u m st l e newest =
    let n = st.count in
    items_still s (changed s j v u (m ∷ s.begun)) m s.traffic.wire (λ k lt. names_changed s j v e (omega arith) k) refl newest st.carried

pub began_stands : (r : Settings) (s : State) (seats : List Seat) (j : ℕ) (v : SeatValue) (u : UnitState) (x : Seat) (m : Message) → Stands r s seats → j < length s.units → v.name ≡ (seat_at s.traffic (length s.stations + j)).name
    → m.number ≡ length s.begun → IsSeat (m ∷ s.begun) (items_of s) v u x → x.number ≡ length s.stations + j → Stands r (changed s j v u (m ∷ s.begun)) (set seats j x)
began_stands r s seats j v u x m st l e newest seat number =
    stands_with r s seats j v u x (m ∷ s.begun) st l (began_items r s seats j v u m st l e newest)
    (λ y h. post_still (setting_at r y) m s.begun (items_of s) (seat_at s.traffic y) (path_at s y) newest (st.posts y h)) (carried_still m s.begun (length s.traffic.seats) s.traffic.wire newest st.carried)
    (λ i lt. seat_still m s.begun (items_of s) (seat_at s.traffic (length s.stations + i)) (get_or s.units i (new_unit 0 0)) (get_or seats i no_seat) newest (st.seated i lt)) seat number

pub began_world : (r : Settings) (s : State) (seats : List Seat) (j : ℕ) (v : SeatValue) (u : UnitState) (x : Seat) (m : Message) → Stands r s seats → j < length s.units → v.name ≡ (seat_at s.traffic (length s.stations + j)).name
    → m.number ≡ length s.begun → ◌≡◌ {A = World} (world_of r (changed s j v u (m ∷ s.begun)) (set seats j x)) (record (world_of r s seats) { seats = set seats j x; begun = m ∷ s.begun })
began_world r s seats j v u x m st l e newest =
    world_parts (stations_same r s (changed s j v u (m ∷ s.begun)) (λ y h. (let given : y < length s.stations = subst (λ (n : ℕ). y < n) (sym st.settings) h in record {
      asked =
          ap (queue_of (m ∷ s.begun) y) (station_changed s j v y given)
          ∙ ap reverse (queue_still m s.begun y (seat_at s.traffic y).name (seat_at s.traffic y).queue newest (st.posts y given).known);
      path = refl;
    })))
    (began_items r s seats j v u m st l e newest) refl
