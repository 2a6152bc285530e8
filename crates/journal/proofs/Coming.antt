-- A unit that joins, and one that goes, do what the law's machine allows.
use Rattle.std.proofs.Common.{ℕ, suc, ◌≡◌, ◌≢◌, ◌+◌, ◌-◌, ◌<◌, ◌≤◌, ◌^◌, ◌&&◌, ◌==◌, List, [], ◌∷◌, ◌++◌, reverse, length, get_or, set, Bool, true, false, Some, None, if◌then◌else◌, nat_le, refl, sym, ap, ◌∙◌, subst, arith, inl, inr}
use Rattle.std.proofs.lemmas.Bool.{ne_eqb}
use Rattle.std.proofs.lemmas.List.{length_push, length-map, get_or_push, get_or_append_left, set_at, set-get_or, take_all}
use Rattle.std.proofs.lemmas.List.Folds.{list_any_at}
use Rattle.std.proofs.lemmas.Option.{slice_get-get_or, slice_get_within, get_or_from_slice_get}
use Rattle.address_claim.specs.Frames.{claim_frame_value}
use Rattle.bus_ledger.specs.BusValue.{SeatValue, Traffic, IsUnit, nobody, seat_at}
use Rattle.bus_ledger.specs.Changes.{leaving, newcomer, queueing}
use Rattle.bus_ledger.specs.Newcomers.{is_in_use, join_refusal, live_units}
use Rattle.bus_ledger.specs.declared.error.BusError.TheVariants.{NameInUse, TooManySeats}
use Rattle.bus_ledger.proofs.Numbers.{same_or_not}
use Rattle.bus_model.specs.Heard.{StationSettings}
use Rattle.bus_model.specs.Machine.{IsFree, IsLiveSeat, Join, Leave, Seat, Station, Step, joined_seat, names_of}
use Rattle.bus_model.specs.Traffic.{is_station}
use Rattle.journal.specs.State.{Settings, State, StationSetting, UnitState, new_unit, no_setting, setting_at}
use Rattle.journal.specs.Steps.{after_join, after_leave, item_of, untagged}
use Rattle.journal.specs.Worlds.{by_place, items_of, law_settings, queue_of, world_of, world_station}
use Rattle.journal.proofs.Seated.{IsSeat, Stands, no_seat}
use Rattle.journal.proofs.Posts.{by_place_length, stations_same, world_parts}
use Rattle.journal.proofs.Growth.{carried_more, items_same}
use Rattle.journal.proofs.Changed.{changed, changed_stands, changed_world}

-- a live unit's place among the units, and its seat in the machine
pub place_within : (r : Settings) (s : State) (seats : List Seat) (j : ℕ) → Stands r s seats → IsUnit s.traffic (length s.stations + j) → j < length s.units
place_within r s seats j st u = let n = st.count in let l = u.1 in omega arith

-- a unit's seat is behind the stations
pub unit_place : (r : Settings) (s : State) (seats : List Seat) (k : ℕ) → Stands r s seats → IsUnit s.traffic k → length s.stations + (k - length s.stations) ≡ k
unit_place r s seats k st u = let w = st.windows in let l = u.0 in omega arith

pub live_seat : (r : Settings) (s : State) (seats : List Seat) (j : ℕ) → Stands r s seats → IsUnit s.traffic (length s.stations + j) → IsLiveSeat (world_of r s seats) j (get_or seats j no_seat)
live_seat r s seats j st u =
    let l = place_within r s seats j st u in
    let n = st.places in
    (slice_get-get_or seats j no_seat (omega arith), (st.seated j l).live ∙ u.2)

-- ---- leaving

pub leave_runs : (r : Settings) (s : State) (seats : List Seat) (j : ℕ) → Stands r s seats → IsUnit s.traffic (length s.stations + j)
    → (seats' : List Seat) × Step (world_of r s seats) (Leave j) (world_of r (after_leave (length s.stations + j) s) seats') × Stands r (after_leave (length s.stations + j) s) seats'
unfolding after_leave
leave_runs r s seats j st u =
    let l = place_within r s seats j st u in
    let x : Seat = get_or seats j no_seat in
    let v : SeatValue = seat_at s.traffic (length s.stations + j) in
    let unit : UnitState = get_or s.units j (new_unit 0 0) in
    let gone : Seat = record x { live = false; queue = [] } in
    let old = st.seated j l in
    let seat : IsSeat s.begun (items_of s) (leaving v) unit gone = record {
      unit = old.unit;
      live = refl;
      queue = refl;
      known = tt;
      heard = old.heard;
      within = old.within;
      session = old.session;
      owner = old.owner;
    } in
    let same : changed s j (leaving v) unit s.begun ≡ after_leave (length s.stations + j) s = rw (set-get_or s.units j (new_unit 0 0)) refl in (
      set seats j gone,
      (x, live_seat r s seats j st u, ap (λ (t : State). world_of r t (set seats j gone)) (sym same) ∙ changed_world r s seats j (leaving v) unit gone st l refl),
      subst (λ (t : State). Stands r t (set seats j gone)) same (changed_stands r s seats j (leaving v) unit gone st l refl seat (st.numbers j l)),
    )

-- ---- joining

-- a NAME that may join is no live seat's
not_in_use : (n : ℕ) (t : Traffic) → join_refusal n t ≡ None → is_in_use n t ≡ false
not_in_use n t e = go (is_in_use n t) e
  where
    go : (b : Bool) → (if b then Some NameInUse else (if nat_le 64 (live_units t) then Some TooManySeats else None)) ≡ None → b ≡ false
    go true e = absurd cc
    go false e = refl

other_name : (n : ℕ) (t : Traffic) (k : ℕ) → is_in_use n t ≡ false → k < length t.seats → (seat_at t k).live ≡ true → (seat_at t k).name ≢ n
other_name n t k none l live same =
    let this : ((seat_at t k).live && ((seat_at t k).name == n)) ≡ true = rw (live, same) (yes n) in
    let found = list_any_at (λ (s : SeatValue). s.live && (s.name == n)) t.seats k nobody l this in
    absurd (let e : is_in_use n t ≡ true = found in cc)
  where
    yes : (a : ℕ) → (a == a) ≡ true
    yes a = grind arith

-- the traffic with one seat more, its claim queued
newly : ℕ → ℕ → State → SeatValue
newly n a s = queueing (untagged (claim_frame_value n (Some a))) (newcomer n (length s.traffic.wire))

seats_joined : (n a : ℕ) (s : State) → (after_join n a s).traffic.seats ≡ s.traffic.seats ++ newly n a s ∷ []
unfolding after_join newly
seats_joined n a s =
    rw (get_or_push s.traffic.seats (newcomer n (length s.traffic.wire)) nobody (length s.traffic.seats) refl)
    (set_at s.traffic.seats (newcomer n (length s.traffic.wire)) [] _ (length s.traffic.seats) refl)

seat_before : (n a : ℕ) (s : State) (k : ℕ) → k < length s.traffic.seats → seat_at (after_join n a s).traffic k ≡ seat_at s.traffic k
seat_before n a s k l = rw (seats_joined n a s) (get_or_append_left s.traffic.seats (newly n a s ∷ []) nobody k l)

items_joined : (r : Settings) (s : State) (seats : List Seat) (n a : ℕ) → Stands r s seats → items_of (after_join n a s) ≡ items_of s
unfolding after_join
items_joined r s seats n a st = items_same s (after_join n a s) s.traffic.wire (λ k l. ap (λ (v : SeatValue). v.name) (seat_before n a s k l)) refl st.carried

new_seat : (r : Settings) (s : State) (seats : List Seat) (n a : ℕ) → n < 2 ^ 64 → a ≤ 253 → IsSeat s.begun (items_of s) (newly n a s) (new_unit n a) (joined_seat (world_of r s seats) n a)
unfolding newly
new_seat r s seats n a small fits =
    let long : length (items_of s) ≡ length s.traffic.wire = length-map s.traffic.wire (item_of s) in
    record {
      unit = record { name = refl; own = refl; small = small; held = refl; holdable = fits };
      live = refl;
      queue = refl;
      known = (tt, tt);
      heard = ap reverse (sym (take_all (length s.traffic.wire) (items_of s) (omega arith)));
      within = omega arith;
      session = tt;
      owner = λ t e. cc;
    }

-- no station has the NAME
no_station : (r : Settings) (s : State) (seats : List Seat) (n : ℕ) → Stands r s seats → is_in_use n s.traffic ≡ false → (xs : List StationSetting) (y : ℕ) → ((i : ℕ) → i < length xs → get_or xs i no_setting ≡ setting_at r (y + i)) → y + length xs ≤ length r.stations
    → (f : ℕ → StationSetting → Station) → ((i : ℕ) (x : StationSetting) → (f i x).settings ≡ law_settings x) → is_station (names_of (by_place f xs)) n ≡ false
unfolding by_place
no_station r s seats n st free [] y at few f same = refl
no_station r s seats n st free (x ∷ xs) y at few f same =
    let here : y < length s.stations = (let e = st.settings in omega arith) in
    let post = st.posts y here in
    let count = st.count in
    let first : x ≡ setting_at r y = at 0 (omega arith) ∙ (let z : y + 0 ≡ y = omega arith in ap (setting_at r) z) in
    let other : x.name ≢ n = (λ e. other_name n s.traffic y free (omega arith) post.live (post.name ∙ (ap (λ (z : StationSetting). z.name) (sym first) ∙ e))) in
    let named : (f 0 x).settings.name ≡ x.name = ap (λ (z : StationSettings). z.name) (same 0 x) in
    rw (named, ne_eqb n x.name (λ e. other (sym e)))
    (no_station r s seats n st free xs (suc y) (λ i l. at (suc i) (omega arith) ∙ (let z : y + suc i ≡ suc y + i = omega arith in ap (setting_at r) z)) (omega arith) (λ i. f (suc i)) (λ i z. same (suc i) z))

pub join_runs : (r : Settings) (s : State) (seats : List Seat) (n a : ℕ) → Stands r s seats → join_refusal n s.traffic ≡ None → n < 2 ^ 64 → a ≤ 253
    → (seats' : List Seat) × Step (world_of r s seats) (Join n a) (world_of r (after_join n a s) seats') × Stands r (after_join n a s) seats'
unfolding after_join
join_runs r s seats n a st may small fits =
    let free = not_in_use n s.traffic may in
    let count = st.count in
    let places = st.places in
    let items = items_joined r s seats n a st in
    let x : Seat = joined_seat (world_of r s seats) n a in
    let now : State = after_join n a s in
    let of_station : (y : ℕ) → y < length s.stations → seat_at now.traffic y ≡ seat_at s.traffic y = λ y h. seat_before n a s y (omega arith) in
    let stations_long : length (world_of r s seats).stations ≡ length s.stations = by_place_length (world_station s) r.stations ∙ sym st.settings in
    let number : x.number ≡ length s.stations + length seats = ap (λ (b : ℕ). b + length seats) stations_long in
    let is_free : IsFree (world_of r s seats) n = (
      no_station r s seats n st free r.stations 0 (λ i l. (let z : i ≡ 0 + i = omega arith in ap (setting_at r) z)) (omega arith) (world_station s) (λ i z. refl),
      (λ i y live e.
          let l = slice_get_within seats i y live.0 in
          let at = get_or_from_slice_get seats i y no_seat live.0 in
          let seat = st.seated i (omega arith) in
          let name : (seat_at s.traffic (length s.stations + i)).name ≡ n = sym seat.unit.name ∙ (ap (λ (z : Seat). z.name) at ∙ e) in
          let alive : (seat_at s.traffic (length s.stations + i)).live ≡ true = sym seat.live ∙ (ap (λ (z : Seat). z.live) at ∙ live.1) in
          other_name n s.traffic (length s.stations + i) free (omega arith) alive name),
    ) in
    let long : length now.traffic.seats ≡ length s.traffic.seats + 1 = rw (seats_joined n a s) (length_push s.traffic.seats (newly n a s)) in
    let units : length now.units ≡ length s.units + 1 = length_push s.units (new_unit n a) in
    let more : length (seats ++ x ∷ []) ≡ length seats + 1 = length_push seats x in
    let same : by_place (world_station now) r.stations ≡ by_place (world_station s) r.stations =
    stations_same r s now (λ y h. (let given : y < length s.stations = subst (λ (k : ℕ). y < k) (sym st.settings) h in record { asked = ap (queue_of s.begun y) (of_station y given); path = refl })) in (
      seats ++ x ∷ [],
      (is_free, small, fits, world_parts same items refl),
      record {
        settings = st.settings;
        windows = st.windows;
        posts = λ y h. rw (items, of_station y h) (st.posts y h);
        carried = carried_more s.begun (length s.traffic.seats) (length now.traffic.seats) s.traffic.wire (omega arith) st.carried;
        count = omega arith;
        places = omega arith;
        numbers = λ i l. elim (same_or_not i (length s.units)) [
          | inl e ↦ ap (λ (k : ℕ). (get_or (seats ++ x ∷ []) k no_seat).number) e ∙ (ap (λ (y : Seat). y.number) (get_or_push seats x no_seat (length s.units) places) ∙ (number ∙ ap (λ (k : ℕ). length s.stations + k) (places ∙ sym e)))
          | inr other ↦ (let lt : i < length s.units = omega arith in ap (λ (y : Seat). y.number) (get_or_append_left seats (x ∷ []) no_seat i (omega arith)) ∙ st.numbers i lt)
        ];
        seated = λ i l. elim (same_or_not i (length s.units)) [
          | inl e ↦ subst (λ (k : ℕ). IsSeat now.begun (items_of now) (seat_at now.traffic (length s.stations + k)) (get_or now.units k (new_unit 0 0)) (get_or (seats ++ x ∷ []) k no_seat)) (sym e)
              (rw (items, seats_joined n a s, get_or_push s.traffic.seats (newly n a s) nobody (length s.stations + length s.units) count, get_or_push s.units (new_unit n a) (new_unit 0 0) (length s.units) refl, get_or_push seats x no_seat (length s.units) places)
              (new_seat r s seats n a small fits))
          | inr other ↦ (let lt : i < length s.units = omega arith in
              rw (items, seat_before n a s (length s.stations + i) (omega arith), get_or_append_left s.units (new_unit n a ∷ []) (new_unit 0 0) i lt, get_or_append_left seats (x ∷ []) no_seat i (omega arith)) (st.seated i lt))
        ];
      },
    )
