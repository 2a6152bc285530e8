-- The stations of a state in the words of the law's machine.
use Rattle.std.proofs.Common.{ℕ, suc, zero, ◌≡◌, ◌≢◌, ◌<◌, List, [], ◌∷◌, ◌++◌, length, reverse, set, slice_get, option_map, Some, refl, sym, ap, ap₂, ◌∙◌, arith}
use Rattle.std.proofs.lemmas.List.{length-append, take-append-le}
use Rattle.std.proofs.lemmas.Option.{get_or_from_slice_get, slice_get_within}
use Rattle.bus_ledger.specs.BusValue.{SeatValue, seat_at}
use Rattle.bus_model.specs.Traffic.{Item}
use Rattle.bus_model.specs.Expected.{Reception}
use Rattle.bus_model.specs.Messages.{Message}
use Rattle.bus_model.specs.Machine.{Seat, Station, World}
use Rattle.journal.specs.State.{Settings, State, StationSetting, no_setting, path_at, setting_at}
use Rattle.journal.proofs.Seated.{IsPost}
use Rattle.journal.specs.Worlds.{by_place, law_settings, queue_of, world_station}

-- ---- a function of each element and its place

pub by_place_length : {A B : Type 0} (f : ℕ → A → B) (xs : List A) → length (by_place f xs) ≡ length xs
unfolding by_place
by_place_length f [] = refl
by_place_length f (x ∷ xs) = ap suc (by_place_length (λ i. f (suc i)) xs)

pub by_place_at : {A B : Type 0} (f : ℕ → A → B) (xs : List A) (y : ℕ) → slice_get (by_place f xs) y ≡ option_map (f y) (slice_get xs y)
unfolding by_place
by_place_at f [] y = refl
by_place_at f (x ∷ xs) zero = refl
by_place_at f (x ∷ xs) (suc y) = by_place_at (λ i. f (suc i)) xs y

pub by_place_same : {A B : Type 0} (f g : ℕ → A → B) (xs : List A) → ((i : ℕ) (x : A) → slice_get xs i ≡ Some x → g i x ≡ f i x) → by_place g xs ≡ by_place f xs
unfolding by_place
by_place_same f g [] h = refl
by_place_same f g (x ∷ xs) h = ap₂ (λ b bs. b ∷ bs) (h 0 x refl) (by_place_same (λ i. f (suc i)) (λ i. g (suc i)) xs (λ i z e. h (suc i) z e))

-- where one place alone changes, it is written over
pub by_place_set : {A B : Type 0} (f g : ℕ → A → B) (xs : List A) (y : ℕ) (v : B) → ((x : A) → slice_get xs y ≡ Some x → g y x ≡ v) → ((i : ℕ) (x : A) → i ≢ y → slice_get xs i ≡ Some x → g i x ≡ f i x)
    → by_place g xs ≡ set (by_place f xs) y v
unfolding by_place
by_place_set f g [] y v at h = refl
by_place_set f g (x ∷ xs) zero v at h = ap₂ (λ b bs. b ∷ bs) (at x refl) (by_place_same (λ i. f (suc i)) (λ i. g (suc i)) xs (λ i z e. h (suc i) z (λ no. absurd (omega (arith, no))) e))
by_place_set f g (x ∷ xs) (suc y) v at h =
    ap₂ (λ b bs. b ∷ bs) (h 0 x (λ no. absurd (omega (arith, no))) refl)
    (by_place_set (λ i. f (suc i)) (λ i. g (suc i)) xs y v at (λ i z n e. h (suc i) z (λ no. n (omega (arith, no))) e))

-- ---- the stations

-- a station with that queue and path
abbrev pub station_with : StationSetting → List Item → List Reception → Station
station_with r asked path = record { settings = law_settings r; asked = asked; path = path }

-- a station has the same queue and has the same of the wire
pub record IsSamePost (s t : State) (y : ℕ) : Type 0 where
  pub asked : queue_of t.begun y (seat_at t.traffic y) ≡ queue_of s.begun y (seat_at s.traffic y)
  pub path : path_at t y ≡ path_at s y

same_station : (s t : State) (y : ℕ) (r : StationSetting) → IsSamePost s t y → world_station t y r ≡ world_station s y r
same_station s t y r same = ap₂ (λ (q : List Item) (p : List Reception). station_with r q p) same.asked same.path

-- where each is so, the machine's stations are the same
pub stations_same : (r : Settings) (s t : State) → ((y : ℕ) → y < length r.stations → IsSamePost s t y) → by_place (world_station t) r.stations ≡ by_place (world_station s) r.stations
stations_same r s t h = by_place_same (world_station s) (world_station t) r.stations (λ i x e. same_station s t i x (h i (slice_get_within r.stations i x e)))

-- where all but one are so, that one is written over
pub stations_set : (r : Settings) (s t : State) (y : ℕ) (asked : List Item) (path : List Reception) → queue_of t.begun y (seat_at t.traffic y) ≡ asked → path_at t y ≡ path
    → ((i : ℕ) → i ≢ y → i < length r.stations → IsSamePost s t i)
    → by_place (world_station t) r.stations ≡ set (by_place (world_station s) r.stations) y (station_with (setting_at r y) asked path)
stations_set r s t y asked path q p h =
    by_place_set (world_station s) (world_station t) r.stations y (station_with (setting_at r y) asked path)
    (λ x e. ap₂ (λ (l : List Item) (w : List Reception). station_with x l w) q p ∙ ap (λ (z : StationSetting). station_with z asked path) (sym (get_or_from_slice_get r.stations y x no_setting e)))
    (λ i x n e. same_station s t i x (h i n (slice_get_within r.stations i x e)))

-- the station in a place
pub station_is : (r : Settings) (s : State) (y : ℕ) (x : StationSetting) → slice_get r.stations y ≡ Some x → slice_get (by_place (world_station s) r.stations) y ≡ Some (world_station s y x)
station_is r s y x e = by_place_at (world_station s) r.stations y ∙ ap (option_map (world_station s y)) e

-- ---- one frame more

-- a station's post with one item more on the wire, that it has not read
pub post_carried : {r : _} {begun : _} (items : List Item) (e : Item) (v : SeatValue) (path : List Reception) → IsPost r begun items v path → IsPost r begun (items ++ e ∷ []) v path
post_carried items e v path p = record {
  name = p.name;
  live = p.live;
  known = p.known;
  within = (let l = p.within in omega (arith, length-append items (e ∷ [])));
  passed' = p.passed' ∙ ap reverse (sym (take-append-le v.heard items (e ∷ []) p.within));
}

-- ---- the world

-- worlds are the same where their parts are
pub world_parts : {ss ss' : List Station} {seats : List Seat} {w w' : List Item} {b b' : List Message} → ss ≡ ss' → w ≡ w' → b ≡ b'
    → ◌≡◌ {A = World} (record { stations = ss; wire = reverse w; seats = seats; begun = b }) (record { stations = ss'; wire = reverse w'; seats = seats; begun = b' })
world_parts e f g = rw (e, f, g) refl
