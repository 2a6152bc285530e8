-- A garage that was just opened stands for an empty journal.
use Rattle.std.proofs.Common.{ℕ, suc, zero, ◌≡◌, ◌≢◌, ◌<◌, ◌≤◌, List, [], ◌∷◌, map, reverse, length, refl, sym, ap, ◌∙◌, subst, arith, inl, inr}
use Rattle.std.specs.List.{All}
use Rattle.std.proofs.lemmas.List.{get_or-map, get_or_past, length-map, length-set}
use Rattle.std.proofs.lemmas.List.Elements.{All-head, All-tail, All-nil, All-cons}
use Rattle.std.proofs.lemmas.List.Sums.{count_by-le-length}
use Rattle.bus_ledger.specs.BusValue.{SeatValue, Traffic, nobody, seat_at}
use Rattle.bus_ledger.specs.Changes.{HasWindow, new_traffic, seat_of_station}
use Rattle.bus_ledger.specs.Newcomers.{live_units}
use Rattle.bus_ledger.specs.declared.traffic.StationSeat.{StationSeat}
use Rattle.bus_model.specs.Heard.{StationSettings, entries_heard}
use Rattle.bus_model.specs.Machine.{AreFit, AreNot}
use Rattle.dm_messages.specs.declared.kind.Kind.{Kind}
use Rattle.entry_lists.specs.Entries.{entries_under}
use Rattle.journal.specs.Worlds.{law_settings, station_of_at, stations_of}
use Rattle.journal.specs.State.{Settings, State, StationSetting, StationState, new_state, new_state_of, station_seat, table_at, with_claims}
use Rattle.journal.specs.Journal.{tally_of, state_after, state_of, AllFit, injected_of, joins, readings_at}
use Rattle.journal.specs.declared.event.Event.{Event}
use Rattle.journal.proofs.Starting.{claims_wire, seat_started, start_stands}
use Rattle.journal.proofs.Station.{new_at}
use Rattle.bus_ledger.proofs.Numbers.{same_or_not}
use Rattle.garage.proofs.Traffics.{within_or_past}
use Rattle.garage.specs.Opening.{nothing_set, setting_in, setting_value, station_seat_of, with_stations, HaveOwnNames, HaveNames, AreSettings, IsSetting}
use Rattle.garage.specs.Inside.{no_tally, post_at, post_setting, settings_of, garage_value_of, unit_of, ArePostsOf, Stands}
use Rattle.garage.specs.declared.garage.Garage.TheInside.{Inside}
use Rattle.garage.specs.declared.garage.Post.{Post}
use Rattle.garage.specs.declared.opening.Setting.{Setting}

opened_is : (r : Settings) → state_after r [] ≡ new_state r
unfolding state_after
opened_is r = refl

no_joins : joins [] ≡ 0
unfolding joins
no_joins = refl

none_injected : injected_of [] ≡ 0
unfolding injected_of
none_injected = refl

none_fit : (r : Settings) → AreFit (stations_of r) → AllFit r []
unfolding AllFit
none_fit r fit = fit

no_tallies : (k : ℕ) → tally_of k [] ≡ no_tally
unfolding tally_of
no_tallies k = refl

-- ---- what the settings say

windows_of : (settings : List Setting) (limit : ℕ) → All (λ s. IsSetting (setting_value s) limit) settings → All (λ (s : StationSeat). HasWindow s.window) (map station_seat_of settings)
windows_of [] limit all = All-nil (λ (s : StationSeat). HasWindow s.window)
windows_of (s ∷ ss) limit all =
    let first : IsSetting (setting_value s) limit = All-head (λ (t : Setting). IsSetting (setting_value t) limit) s ss all in
    All-cons (λ (t : StationSeat). HasWindow t.window) (station_seat_of s) (map station_seat_of ss) (first.some_window, first.window)
    (windows_of ss limit (All-tail (λ (t : Setting). IsSetting (setting_value t) limit) s ss all))

pub windows_fit : (settings : List Setting) (limit : ℕ) → AreSettings settings limit → All (λ s. HasWindow s.window) (map station_seat_of settings)
windows_fit settings limit are = windows_of settings limit are.each

are_not : (n : ℕ) (ss : List Setting) → ((i : ℕ) → i < length ss → n ≢ (setting_in ss i).name) → AreNot n (map law_settings (map setting_value ss))
are_not n [] h = tt
are_not n (s ∷ ss) h = ((λ e. h 0 (omega arith) (sym e)), are_not n ss (λ i l. h (suc i) (omega arith)))

are_fit : (ss : List Setting) (limit : ℕ) → All (λ s. IsSetting (setting_value s) limit) ss → HaveOwnNames ss → HaveNames ss (length ss) → AreFit (map law_settings (map setting_value ss))
are_fit [] limit all apart names = tt
are_fit (s ∷ ss) limit all apart names = (
  record { name = names 0 (omega arith); address = (All-head (λ (t : Setting). IsSetting (setting_value t) limit) s ss all).address },
  are_not s.name ss (λ i l. apart (suc i) (omega arith) 0 (omega arith)),
  are_fit ss limit (All-tail (λ (t : Setting). IsSetting (setting_value t) limit) s ss all) (λ i l j h. apart (suc i) (omega arith) (suc j) (omega arith)) (λ y l. names (suc y) (omega arith)),
)

-- ---- what the posts say

posts_settings : (posts : List Post) (settings : List Setting) → length posts ≡ length settings → ((y : ℕ) → y < length settings → (post_at posts y).setting ≡ setting_in settings y) → map post_setting posts ≡ map setting_value settings
posts_settings [] [] e h = refl
posts_settings [] (s ∷ ss) e h = absurd (omega arith)
posts_settings (p ∷ ps) [] e h = absurd (omega arith)
posts_settings (p ∷ ps) (s ∷ ss) e h =
    let first : p.setting ≡ s = h 0 (omega arith) in
    let rest = posts_settings ps ss (omega arith) (λ y l. h (suc y) (omega arith)) in
    ap (λ (x : Setting). setting_value x ∷ map post_setting ps) first ∙ ap (λ (l : List StationSetting). setting_value s ∷ l) rest

seats_map : (settings : List Setting) → map station_seat_of settings ≡ map station_seat (map setting_value settings)
seats_map [] = refl
seats_map (s ∷ ss) = ap (λ (l : List StationSeat). station_seat_of s ∷ l) (seats_map ss)

pub seats_count : (settings : List Setting) → length (map station_seat_of settings) ≡ length settings
seats_count settings = length-map settings station_seat_of

-- ---- the new state

claims_seats : (y : ℕ) (rs : List StationSetting) (t : Traffic) → length (with_claims y rs t).seats ≡ length t.seats
claims_seats y [] t = refl
claims_seats y (r ∷ rs) t = claims_seats (suc y) rs _ ∙ length-set t.seats y _

started_seats : (r : Settings) → length (new_state r).traffic.seats ≡ length r.stations
started_seats r = claims_seats 0 r.stations (new_traffic (map station_seat r.stations)) ∙ (length-map (map station_seat r.stations) seat_of_station ∙ length-map r.stations station_seat)

started_windows : (r : Settings) → length (new_state r).traffic.windows ≡ length r.stations
started_windows r = (start_stands r).windows ∙ (start_stands r).settings

-- each station's claim alone is queued
first_queued : (r : Settings) (k : ℕ) → (seat_at (new_state r).traffic k).queued ≤ 1
first_queued r k = elim (within_or_past k (length r.stations)) [
  | inl h ↦ let e = ap (λ (s : SeatValue). s.queued) (seat_started r k h) in omega arith
  | inr h ↦ let n = started_seats r in let e = ap (λ (s : SeatValue). s.queued) (get_or_past (new_state r).traffic.seats k nobody (omega arith)) in omega arith
]

-- no unit is live
none_live : (r : Settings) → live_units (new_state r).traffic ≡ 0
none_live r = (let c = count_by-le-length (λ (s : SeatValue). s.live) (new_state r).traffic.seats in let n = started_seats r in let w = started_windows r in omega arith)

pub opened_settings : (g : Inside) (settings : List Setting) → ArePostsOf g.posts.items settings (length settings) → settings_of g ≡ with_stations settings g.limit
opened_settings g settings are =
    ap (λ (l : List StationSetting). let r : Settings = record { stations = l; limit = g.limit } in r)
    (posts_settings g.posts.items settings are.0 (λ y h. ap (λ (p : Post). p.setting) (are.1 y h)))

opened_table : (settings : List Setting) (limit y : ℕ) (p : Post) → y < length settings → p.station ≡ (new_state_of (setting_value (setting_in settings y))).table → p.station ≡ table_at (new_state (with_stations settings limit)) y
opened_table settings limit y p h e =
    let many = length-map settings setting_value in
    e ∙ (ap (λ (s : StationSetting). (new_state_of s).table) (sym (get_or-map setting_value settings y nothing_set _ h)) ∙ ap (λ (s : StationState). s.table) (sym (new_at (with_stations settings limit) y (omega arith))))

-- nothing was heard of no readings
nothing_listed : (r : StationSettings) (y n : ℕ) (k : Kind) → reverse (entries_heard r n k (readings_at y [])) ≡ []
unfolding readings_at
nothing_listed r y n k = refl

pub opened_stands : (g : Inside) (settings : List Setting) → AreSettings settings g.limit → HaveOwnNames settings → HaveNames settings (length settings) → ArePostsOf g.posts.items settings (length settings) → g.stations ≡ length settings
    → g.journal ≡ [] → g.places.items ≡ [] → g.begun ≡ 0 → g.live ≡ 0 → g.injected ≡ 0
    → g.bus.traffic ≡ with_claims 0 (map setting_value settings) (new_traffic (map station_seat_of settings)) → Stands g
opened_stands g settings are apart names posts count empty none begun live injected traffic =
    let r : Settings = with_stations settings g.limit in
    let same : settings_of g ≡ r = opened_settings g settings posts in
    let history = empty in
    let is : state_of (garage_value_of g) ≡ new_state r =
    ap (λ (es : List Event). state_after (settings_of g) es) history ∙ (ap (λ (x : Settings). state_after x []) same ∙ opened_is r) in
    let opened : g.bus.traffic ≡ (new_state r).traffic = traffic ∙ ap (λ (l : List StationSeat). with_claims 0 (map setting_value settings) (new_traffic l)) (seats_map settings) in
    let stations = length-map settings setting_value in
    let many : length g.bus.traffic.seats ≡ length r.stations = ap (λ (t : Traffic). length t.seats) opened ∙ started_seats r in
    let places : length g.places.items ≡ 0 = ap length none in
    let events : length g.journal ≡ 0 = ap length empty in
    let wires : length g.bus.traffic.wire ≡ 0 = ap (λ (t : Traffic). length t.wire) opened ∙ ap length (claims_wire 0 r.stations (new_traffic (map station_seat r.stations))) in
    let lives : live_units g.bus.traffic ≡ 0 = ap live_units opened ∙ none_live r in
    let long = posts.0 in
    let some = are.some in
    let most = are.few in
    let first : IsSetting (setting_value (setting_in settings 0)) g.limit = first_setting settings g.limit are.some are.each in
    let few = first.limit in
    record {
      few = few;
      traffic = opened ∙ sym (ap (λ (s : State). s.traffic) is);
      stations = omega arith;
      some = omega arith;
      eight = omega arith;
      posts = λ y h. (let h' : y < length settings = omega arith in opened_table settings g.limit y (post_at g.posts.items y) h' (ap (λ (p : Post). p.station) (posts.1 y h'))) ∙ sym (ap (λ (s : State). table_at s y) is);
      lists = λ y n k h. (let h' : y < length settings = omega arith in ap (λ (p : Post). entries_under p.lists n k) (posts.1 y h'))
          ∙ sym (ap (λ (es : List Event). reverse (entries_heard (station_of_at (settings_of g) y) n k (readings_at y es))) history ∙ nothing_listed (station_of_at (settings_of g) y) y n k);
      units = ap (map unit_of) none ∙ sym (ap (λ (s : State). s.units) is);
      begun = begun ∙ sym (ap (λ (s : State). length s.begun) is);
      fits = subst (λ (x : Settings). AllFit x g.journal) (sym same) (subst (λ (es : List Event). AllFit r es) (sym history) (none_fit r (are_fit settings g.limit are.each apart names)));
      injected = injected ∙ sym (ap injected_of history ∙ none_injected);
      joined = ap joins history ∙ (no_joins ∙ sym places);
      tallies = λ k h. absurd (omega arith);
      fresh = λ k h. ap (λ (es : List Event). tally_of k es) history ∙ no_tallies k;
      seats = omega arith;
      live = live ∙ sym lives;
      within = (let l = first.some_limit in omega arith);
      wire = omega arith;
      queued = λ k. (let q = first_queued r k in let e = ap (λ (t : Traffic). (seat_at t k).queued) opened in omega arith);
      messages = omega arith;
      places = omega arith;
    }
  where
    first_setting : (settings : List Setting) (limit : ℕ) → 0 < length settings → All (λ s. IsSetting (setting_value s) limit) settings → IsSetting (setting_value (setting_in settings 0)) limit
    first_setting [] limit h all = absurd (omega arith)
    first_setting (s ∷ ss) limit h all = All-head (λ (t : Setting). IsSetting (setting_value t) limit) s ss all

-- ---- one station, and two

pub setting_of_one : (s : Setting) (limit : ℕ) → AreSettings (s ∷ []) limit → IsSetting (setting_value s) limit
setting_of_one s limit are = All-head (λ (t : Setting). IsSetting (setting_value t) limit) s [] are.each

pub one_setting : (s : Setting) (limit : ℕ) → IsSetting (setting_value s) limit → AreSettings (s ∷ []) limit
one_setting s limit is = record {
  some = omega arith;
  few = omega arith;
  each = All-cons (λ (t : Setting). IsSetting (setting_value t) limit) s [] is (All-nil (λ (t : Setting). IsSetting (setting_value t) limit));
}

two_apart : (s t : Setting) → s.name ≢ t.name → HaveOwnNames (s ∷ t ∷ [])
two_apart s t n zero l j h = absurd (omega arith)
two_apart s t n (suc zero) l zero h = n
two_apart s t n (suc zero) l (suc j) h = absurd (omega arith)
two_apart s t n (suc (suc i)) l j h = absurd (omega arith)

pub apart_two : (s t : Setting) → HaveOwnNames (s ∷ t ∷ []) → s.name ≢ t.name
apart_two s t apart = apart 1 (omega arith) 0 (omega arith)

pub one_name : (s t : Setting) → (¬ HaveOwnNames (s ∷ t ∷ [])) → s.name ≡ t.name
one_name s t h = elim (same_or_not s.name t.name) [ inl e ↦ e | inr n ↦ absurd (h (two_apart s t n)) ]
