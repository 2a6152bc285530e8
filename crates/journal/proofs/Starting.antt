-- Nothing has happened: the state is the world in which the machine starts. And one step more makes a longer run.
use Rattle.std.proofs.Common.{ℕ, suc, zero, ◌≡◌, ◌+◌, ◌<◌, ◌≤◌, List, [], ◌∷◌, ◌++◌, map, reverse, length, get_or, None, Some, slice_get, refl, sym, ap, ap₂, ◌∙◌, subst, subst₂, arith}
use Rattle.std.proofs.lemmas.List.{get_or-map, get_or-set_same, get_or-set_other, length-map, length-set}
use Rattle.std.proofs.lemmas.Option.{get_or_from_slice_get, slice_get_within}
use Rattle.address_claim.specs.Frames.{claim_frame_value}
use Rattle.bus_ledger.specs.BusValue.{SeatValue, Traffic, nobody, seat_at}
use Rattle.bus_ledger.specs.Changes.{newcomer, new_traffic, queued, queued_frame, queueing}
use Rattle.bus_ledger.specs.declared.traffic.CarriedFrame.{CarriedFrame}
use Rattle.bus_ledger.specs.declared.traffic.QueuedFrame.{QueuedFrame}
use Rattle.bus_model.specs.Traffic.{Item}
use Rattle.journal.specs.Steps.{item_of}
use Rattle.bus_model.specs.Machine.{Event, Run, Station, Step, World, claim_alone, new_stations, start}
use Rattle.journal.specs.State.{Settings, StationSetting, StationState, new_state as state_start, new_state_of, no_setting, station_seat, setting_at, with_claims}
use Rattle.journal.specs.Worlds.{by_place, items_of, law_settings, queue_of, stations_of, world_of, world_station}
use Rattle.journal.proofs.Seated.{IsPost, Stands}
use Rattle.journal.proofs.Posts.{by_place_same}
use Rattle.journal.proofs.Station.{new_at}

-- ---- the seats

-- the claim of a station
abbrev claim_of : StationSetting → QueuedFrame
claim_of r = queued_frame (claim_frame_value r.name (Some r.address)) None

-- a seat whose claim is queued
abbrev claiming : StationSetting → SeatValue
claiming r = queueing (claim_of r) (newcomer r.name 0)

abbrev started : Settings → Traffic
started r = with_claims 0 r.stations (new_traffic (map station_seat r.stations))

-- seats before the first that claims stay as they are
claims_before : (y : ℕ) (rs : List StationSetting) (t : Traffic) (k : ℕ) → k < y → seat_at (with_claims y rs t) k ≡ seat_at t k
claims_before y [] t k l = refl
claims_before y (r ∷ rs) t k l =
    claims_before (suc y) rs (queued y (claim_of r) t) k (omega arith)
    ∙ get_or-set_other t.seats y k (queueing (claim_of r) (seat_at t y)) nobody (λ e. absurd (omega (arith, e, l)))

claims_length : (y : ℕ) (rs : List StationSetting) (t : Traffic) → length (with_claims y rs t).seats ≡ length t.seats
claims_length y [] t = refl
claims_length y (r ∷ rs) t = claims_length (suc y) rs (queued y (claim_of r) t) ∙ length-set t.seats y (queueing (claim_of r) (seat_at t y))

pub claims_wire : (y : ℕ) (rs : List StationSetting) (t : Traffic) → (with_claims y rs t).wire ≡ t.wire
claims_wire y [] t = refl
claims_wire y (r ∷ rs) t = claims_wire (suc y) rs (queued y (claim_of r) t)

claims_windows : (y : ℕ) (rs : List StationSetting) (t : Traffic) → (with_claims y rs t).windows ≡ t.windows
claims_windows y [] t = refl
claims_windows y (r ∷ rs) t = claims_windows (suc y) rs (queued y (claim_of r) t)

-- the i-th that claims has its claim queued
claims_at : (y : ℕ) (rs : List StationSetting) (t : Traffic) (i : ℕ) → i < length rs → y + length rs ≤ length t.seats → seat_at (with_claims y rs t) (y + i) ≡ queueing (claim_of (get_or rs i no_setting)) (seat_at t (y + i))
claims_at y [] t i l few = absurd (omega arith)
claims_at y (r ∷ rs) t zero l few =
    let here : y + 0 ≡ y = omega arith in
    subst (λ (k : ℕ). seat_at (with_claims (suc y) rs (queued y (claim_of r) t)) k ≡ queueing (claim_of r) (seat_at t k)) (sym here)
    (claims_before (suc y) rs (queued y (claim_of r) t) y (omega arith) ∙ get_or-set_same t.seats y (queueing (claim_of r) (seat_at t y)) nobody (omega arith))
claims_at y (r ∷ rs) t (suc i) l few =
    let next : suc y + i ≡ y + suc i = omega arith in
    let long = length-set t.seats y (queueing (claim_of r) (seat_at t y)) in
    subst (λ (k : ℕ). seat_at (with_claims (suc y) rs (queued y (claim_of r) t)) k ≡ queueing (claim_of (get_or rs i no_setting)) (seat_at t k)) next
    (claims_at (suc y) rs (queued y (claim_of r) t) i (omega arith) (omega arith)
    ∙ ap (queueing (claim_of (get_or rs i no_setting))) (get_or-set_other t.seats y (suc y + i) (queueing (claim_of r) (seat_at t y)) nobody (λ e. absurd (omega (arith, e)))))

started_length : (r : Settings) → length (started r).seats ≡ length r.stations
started_length r = claims_length 0 r.stations _ ∙ (length-map (map station_seat r.stations) _ ∙ length-map r.stations station_seat)

new_seat_at : (r : Settings) (y : ℕ) → y < length r.stations → seat_at (new_traffic (map station_seat r.stations)) y ≡ newcomer (setting_at r y).name 0
new_seat_at r y l =
    get_or-map _ (map station_seat r.stations) y (station_seat no_setting) nobody (subst (λ (n : ℕ). y < n) (sym (length-map r.stations station_seat)) l)
    ∙ ap (λ z. newcomer z.name 0) (get_or-map station_seat r.stations y no_setting (station_seat no_setting) l)

pub seat_started : (r : Settings) (y : ℕ) → y < length r.stations → seat_at (started r) y ≡ claiming (setting_at r y)
seat_started r y l =
    let long : length (new_traffic (map station_seat r.stations)).seats ≡ length r.stations = length-map (map station_seat r.stations) _ ∙ length-map r.stations station_seat in
    let same : 0 + y ≡ y = omega arith in
    subst (λ (k : ℕ). seat_at (started r) k ≡ queueing (claim_of (setting_at r y)) (seat_at (new_traffic (map station_seat r.stations)) k)) same
    (claims_at 0 r.stations (new_traffic (map station_seat r.stations)) y l (omega arith))
    ∙ ap (queueing (claim_of (setting_at r y))) (new_seat_at r y l)

-- ---- the world

-- the machine's stations at the start, by their places
new_by_place : (y : ℕ) (rs : List StationSetting)
    → new_stations y (map law_settings rs) ≡ by_place (λ (i : ℕ) (x : StationSetting). record { settings = law_settings x; asked = claim_alone (y + i) x.name (Some x.address); path = [] }) rs
unfolding by_place
new_by_place y [] = refl
new_by_place y (r ∷ rs) =
    let here : y + 0 ≡ y = omega arith in
    ap₂ (λ (s : Station) (ss : List Station). s ∷ ss)
    (ap (λ (k : ℕ). record { settings = law_settings r; asked = claim_alone k r.name (Some r.address); path = [] }) (sym here))
    (new_by_place (suc y) rs
    ∙ by_place_same _ _ rs (λ i x e. (let next : suc y + i ≡ y + suc i = omega arith in ap (λ (k : ℕ). record { settings = law_settings x; asked = claim_alone k x.name (Some x.address); path = [] }) next)))

station_started : (r : Settings) (y : ℕ) (x : StationSetting) → slice_get r.stations y ≡ Some x → world_station (state_start r) y x ≡ record { settings = law_settings x; asked = claim_alone y x.name (Some x.address); path = [] }
station_started r y x e =
    let l : y < length r.stations = slice_get_within r.stations y x e in
    let is : setting_at r y ≡ x = get_or_from_slice_get r.stations y x no_setting e in
    ap₂ (λ (v : SeatValue) (p : StationState). record { settings = law_settings x; asked = queue_of [] y v; path = p.path }) (seat_started r y l) (new_at r y l)
    ∙ ap (λ (z : StationSetting). record { settings = law_settings x; asked = queue_of [] y (claiming z); path = [] }) is

pub starts : (r : Settings) → world_of r (state_start r) [] ≡ start (stations_of r)
starts r =
    ap₂ (λ (ss : List Station) (w : List Item). record { stations = ss; wire = w; seats = []; begun = [] })
    (by_place_same _ (world_station (state_start r)) r.stations (λ i x e. station_started r i x e ∙ (let same : 0 + i ≡ i = omega arith in ap (λ (k : ℕ). record { settings = law_settings x; asked = claim_alone k x.name (Some x.address); path = [] }) (sym same))) ∙ sym (new_by_place 0 r.stations))
    (ap (λ (l : List CarriedFrame). reverse (map (item_of (state_start r)) l)) (claims_wire 0 r.stations (new_traffic (map station_seat r.stations))))

pub start_stands : (r : Settings) → Stands r (state_start r) []
start_stands r = record {
  settings = length-map r.stations new_state_of;
  windows = ap length (claims_windows 0 r.stations _) ∙ (length-map (map station_seat r.stations) _ ∙ (length-map r.stations station_seat ∙ sym (length-map r.stations new_state_of)));
  posts = λ y l. (let given : y < length r.stations = subst (λ (n : ℕ). y < n) (length-map r.stations new_state_of) l in
      subst₂ (λ (v : SeatValue) (p : StationState). IsPost (setting_at r y) [] (items_of (state_start r)) v p.path) (sym (seat_started r y given)) (sym (new_at r y given))
      (record { name = refl; live = refl; known = (tt, tt); within = omega arith; passed' = refl }));
  carried = rw (claims_wire 0 r.stations (new_traffic (map station_seat r.stations))) tt;
  count = started_length r ∙ (let n = length-map r.stations new_state_of in omega (arith, n));
  places = refl;
  numbers = λ i l. absurd (omega arith);
  seated = λ i l. absurd (omega arith);
}

-- a run and one step more
pub run_more : (old mid new : World) (events : List Event) (e : Event) → Run old events mid → Step mid e new → Run old (events ++ e ∷ []) new
run_more old mid new [] e run step = (new, subst (λ (w : World). Step w e new) run step, refl)
run_more old mid new (d ∷ events) e run step = (run.0, run.1, run_more run.0 mid new events e run.2 step)
