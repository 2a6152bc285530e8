-- A garage that stands for its journal stands for it with one event more.
use Rattle.std.proofs.Common.{ℕ, suc, zero, ◌≡◌, ◌+◌, ◌-◌, ◌*◌, ◌<◌, ◌≤◌, List, [], ◌∷◌, ◌++◌, map, reverse, length, get_or, set, Bool, ◌≢◌, true, false, ◌==◌, nat_eq, eq-eqb, Some, refl, sym, ap, ◌∙◌, subst, arith, inl, inr, if◌then◌else◌}
use Rattle.std.proofs.lemmas.Bool.{ne_eqb}
use Rattle.std.proofs.lemmas.List.{length-map, length-set, length_push, map-set, get_or_read, get_or-set_same, get_or-set_other, set-get_or}
use Rattle.bus_ledger.specs.BusValue.{Traffic, seat_at, IsStation, IsUnit}
use Rattle.bus_ledger.specs.Newcomers.{live_units}
use Rattle.bus_ledger.specs.Changes.{queued, with_newcomer, injected}
use Rattle.std.proofs.lemmas.List.{get_or_push, get_or_append_left}
use Rattle.fault_memory.specs.Memory.{MemoryValue}
use Rattle.can_frame.specs.declared.reading.Reading.{Reading}
use Rattle.journal.proofs.Readings.{stationed}
use Rattle.journal.proofs.Station.{read_other, read_own}
use Rattle.journal.specs.State.{Settings, State, StationState, UnitState, table_at, unit_at}
use Rattle.journal.specs.Steps.{after, untagged}
use Rattle.station_table.specs.Steps.{after_reading as station_after}
use Rattle.address_claim.specs.Frames.{claim_frame_value}
use Rattle.journal.specs.State.{new_unit}
use Rattle.journal.specs.Journal.{Adds, with_event, IsSeated}
use Rattle.node_core.specs.declared.heard.Answer.{Answer as UnitAnswer}
use Rattle.dm_messages.specs.declared.kind.Kind.{Kind}
use Rattle.entry_lists.specs.Entries.{entries_under}
use Rattle.bus_model.specs.Heard.{entries_heard}
use Rattle.journal.specs.Worlds.{station_of_at}
use Rattle.journal.specs.Steps.{next_for}
use Rattle.can_frame.specs.FrameValue.{FrameValue}
use Rattle.node_core.specs.NodeValue.{NodeValue}
use Rattle.node_core.specs.Reaction.{memory_after, question}
use Rattle.node_core.specs.Asking.{IsAsked}
use Rattle.unit_trait.specs.declared.question.Question.{Question}
use Rattle.bus_ledger.proofs.Numbers.{same_or_not}
use Rattle.garage.specs.Answers.{Hears}
use Rattle.garage.specs.declared.answers.HeardOne.TheVariants as heard
use Rattle.journal.specs.Fits.{Fits}
use Rattle.journal.specs.Journal.{GarageValue, state_after, state_of, AllFit, injected_of, joins, readings_at, tallied, tally_of}
use Rattle.journal.specs.declared.event.Event.{Event}
use Rattle.journal.specs.declared.event.Event.TheVariants.{Join, Hear, Begin, Read}
use Rattle.journal.specs.declared.tally.Tally.{Tally}
use Rattle.garage.specs.Inside.{settings_of, garage_value_of, unit_of, no_place, no_post, no_tally, place_at, post_at, post_setting, Stands}
use Rattle.garage.specs.declared.garage.Place.{Place}
use Rattle.garage.specs.declared.garage.Post.{Post}
use Rattle.garage.specs.declared.garage.Garage.TheInside.{Inside}
use Rattle.garage.proofs.Traffics.{IsLive-queued, joined_live, joined_name}
use Rattle.garage.proofs.Events.{state_more, fit_more, tally_more, IsFewTally, tally_few, from_outside, injected_more, readings_with, readings_more, join_is}

-- the state that the fields of a garage stand for
abbrev pub state : Inside → State
state g = state_of (garage_value_of g)

-- the counts of a place that was read
pub place_few : (a : Inside) (k : ℕ) (x : Place) → Stands a → k < length a.places.items → x ≡ get_or a.places.items k x → IsFewTally (length a.journal) x.tally
place_few a k x stands h read =
    let t : x.tally ≡ tally_of (a.stations + k) a.journal = ap (λ (p : Place). p.tally) (get_or_read a.places.items k x h read no_place) ∙ stands.tallies k h in
    subst (λ (u : Tally). IsFewTally (length a.journal) u) (sym t) (tally_few (a.stations + k) a.journal)

-- as many settings as stations
pub settings_are : (a : Inside) → Stands a → length (settings_of a).stations ≡ a.stations
settings_are a stands = length-map a.posts.items post_setting ∙ sym stands.stations

-- it has its stations, each with a window
pub stations_are : (a : Inside) → Stands a → length (state a).stations ≡ a.stations
stations_are a stands = (stationed (settings_of a) a.journal stands.fits).count ∙ settings_are a stands

pub windows_are : (a : Inside) → Stands a → length (state a).traffic.windows ≡ a.stations
windows_are a stands = (stationed (settings_of a) a.journal stands.fits).windows ∙ settings_are a stands

-- the places of units are behind those of the stations
pub place_within : (a : Inside) (k : ℕ) → Stands a → IsUnit (state a).traffic k → k - a.stations < length a.places.items
place_within a k stands u =
    let n : length a.bus.traffic.seats ≡ length (state a).traffic.seats = ap (λ (t : Traffic). length t.seats) stands.traffic in
    let s = stands.seats in
    let w = windows_are a stands in
    let low = u.0 in
    let high = u.1 in
    omega arith

-- one place whose tally changes with one event of its seat
pub tallies_one : (base : ℕ) (xs : List Place) (es : List Event) (e : Event) (k seat : ℕ) (p : Place) (f : Tally → Tally)
    → ((j : ℕ) → j < length xs → (place_at xs j).tally ≡ tally_of (base + j) es)
    → ((j : ℕ) (t : Tally) → tallied j e t ≡ (if seat == j then f t else t))
    → seat ≡ base + k → k < length xs → p.tally ≡ f (place_at xs k).tally
    → (j : ℕ) → j < length (set xs k p) → (place_at (set xs k p) j).tally ≡ tally_of (base + j) (e ∷ es)
tallies_one base xs es e k seat p f old rule at h is j l =
    let l' : j < length xs = omega (arith, length-set xs k p) in
    let more = tally_more (base + j) e es ∙ rule (base + j) (tally_of (base + j) es) in
    elim (same_or_not j k) [
      | inl same ↦
          let t : nat_eq seat (base + j) ≡ true = eq-eqb seat (base + j) (omega arith) in
          let here : (place_at (set xs k p) j).tally ≡ p.tally = ap (λ (i : ℕ). (place_at (set xs k p) i).tally) same ∙ ap (λ (q : Place). q.tally) (get_or-set_same xs k p no_place h) in
          let there : f (place_at xs k).tally ≡ f (tally_of (base + j) es) = ap f (ap (λ (i : ℕ). (place_at xs i).tally) (sym same) ∙ old j l') in
          here ∙ (is ∙ (there ∙ sym (more ∙ rw t refl)))
      | inr n ↦
          let t : nat_eq seat (base + j) ≡ false = ne_eqb seat (base + j) (λ e. n (omega arith)) in
          ap (λ (q : Place). q.tally) (get_or-set_other xs k j p no_place n) ∙ (old j l' ∙ sym (more ∙ rw t refl))
    ]

-- what a call has to show of the fields after one event more
pub record More (a b : Inside) (e : Event) : Type 0 where
  pub settings : settings_of b ≡ settings_of a
  pub journal : b.journal ≡ e ∷ a.journal
  pub fits : Fits (state a) e
  pub traffic : b.bus.traffic ≡ (after e (state a)).traffic
  pub stations : b.stations ≡ a.stations
  pub posts : (y : ℕ) → y < a.stations → (post_at b.posts.items y).station ≡ table_at (after e (state a)) y
  pub lists : (y n : ℕ) (k : Kind) → y < a.stations
      → entries_under (post_at b.posts.items y).lists n k ≡ reverse (entries_heard (station_of_at (settings_of a) y) n k (readings_with e y (readings_at y a.journal)))
  pub units : map unit_of b.places.items ≡ (after e (state a)).units
  pub begun : b.begun ≡ length (after e (state a)).begun
  pub injected : b.injected ≡ a.injected + from_outside e
  pub joined : joins (e ∷ a.journal) ≡ length b.places.items
  pub tallies : (k : ℕ) → k < length b.places.items → (place_at b.places.items k).tally ≡ tally_of (a.stations + k) (e ∷ a.journal)
  pub fresh : (k : ℕ) → a.stations + length b.places.items ≤ k → tally_of k (e ∷ a.journal) ≡ no_tally
  pub seats : length b.bus.traffic.seats ≡ length b.places.items + a.stations
  pub live : b.live ≡ live_units b.bus.traffic
  pub within : length a.journal + 1 + b.live ≤ b.limit
  pub wire : length b.bus.traffic.wire ≤ length a.journal + 1
  pub queued : (k : ℕ) → (seat_at b.bus.traffic k).queued ≤ 256 * (length a.journal + 1) + 1
  pub messages : b.begun ≤ length a.journal + 1
  pub places : length b.places.items ≤ length a.journal + 1

-- as many posts as settings
pub same_many : (a b : Inside) → settings_of b ≡ settings_of a → length b.posts.items ≡ length a.posts.items
same_many a b e = sym (length-map b.posts.items post_setting) ∙ (ap (λ (r : Settings). length r.stations) e ∙ length-map a.posts.items post_setting)

pub stands_more : (a b : Inside) (e : Event) → Stands a → More a b e → Stands b
stands_more a b e stands m =
    let n : length b.journal ≡ length a.journal + 1 = (let l = ap length m.journal in omega arith) in
    let history = m.journal in
    let is : state b ≡ after e (state a) =
    ap (λ (es : List Event). state_after (settings_of b) es) history
    ∙ (ap (λ (r : Settings). state_after r (e ∷ a.journal)) m.settings ∙ state_more (settings_of a) e a.journal) in
    let limit : b.limit ≡ a.limit = ap (λ (r : Settings). r.limit) m.settings in
    let many = same_many a b m.settings in
    record {
      few = (let f = stands.few in omega arith);
      traffic = m.traffic ∙ ap (λ (s : State). s.traffic) (sym is);
      stations = (let one = m.stations in let two = stands.stations in let three = many in omega arith);
      some = (let one = m.stations in let two = stands.some in omega arith);
      eight = (let one = m.stations in let two = stands.eight in omega arith);
      posts = λ y h. m.posts y (let one = m.stations in omega arith) ∙ ap (λ (s : State). table_at s y) (sym is);
      lists = λ y n k h.
          m.lists y n k (let one = m.stations in omega arith)
          ∙ (ap (λ (rs : List Reading). reverse (entries_heard (station_of_at (settings_of a) y) n k rs)) (sym (ap (readings_at y) history ∙ readings_more e y a.journal))
          ∙ ap (λ (r : Settings). reverse (entries_heard (station_of_at r y) n k (readings_at y b.journal))) (sym m.settings));
      units = m.units ∙ ap (λ (s : State). s.units) (sym is);
      begun = m.begun ∙ ap (λ (s : State). length s.begun) (sym is);
      fits = subst (λ (r : Settings). AllFit r b.journal) (sym m.settings) (subst (λ (es : List Event). AllFit (settings_of a) es) (sym history) (fit_more (settings_of a) e a.journal m.fits stands.fits));
      injected = (let more = injected_more e a.journal in let same = ap injected_of history in let old = stands.injected in let now = m.injected in omega arith);
      joined = ap joins history ∙ m.joined;
      tallies = λ k h. m.tallies k h ∙ (ap (λ (es : List Event). tally_of (a.stations + k) es) (sym history) ∙ ap (λ (n : ℕ). tally_of (n + k) b.journal) (sym m.stations));
      fresh = λ k h. ap (λ (es : List Event). tally_of k es) history ∙ m.fresh k (let one = m.stations in omega arith);
      seats = m.seats ∙ ap (λ (n : ℕ). length b.places.items + n) (sym m.stations);
      live = m.live;
      within = (let w = m.within in omega arith);
      wire = (let w = m.wire in omega arith);
      queued = λ k. let q = m.queued k in rw n q;
      messages = (let w = m.messages in omega arith);
      places = (let w = m.places in omega arith);
    }

pub unit_now : (a : Inside) (v : GarageValue) (k : ℕ) → garage_value_of a ≡ v → IsUnit (state_of v).traffic k → IsUnit (state a).traffic k
unit_now a v k is u = subst (λ (g : GarageValue). IsUnit (state_of g).traffic k) (sym is) u

-- a place that keeps its unit
pub units_same : (xs : List Place) (k : ℕ) (x p : Place) → k < length xs → x ≡ get_or xs k x → unit_of p ≡ unit_of x → map unit_of (set xs k p) ≡ map unit_of xs
units_same xs k x p h read e =
    map-set unit_of xs k p ∙ (ap (λ (u : UnitState). set (map unit_of xs) k u) e
    ∙ (sym (map-set unit_of xs k x) ∙ ap (map unit_of) (ap (λ (q : Place). set xs k q) (get_or_read xs k x h read no_place) ∙ set-get_or xs k no_place)))

pub bus_unit : (a : Inside) (k : ℕ) → Stands a → IsUnit (state a).traffic k → IsUnit a.bus.traffic k
bus_unit a k stands u = subst (λ (t : Traffic). IsUnit t k) (sym stands.traffic) u

pub tallies_still : (base : ℕ) (xs : List Place) (es : List Event) (e : Event) → ((j : ℕ) → j < length xs → (place_at xs j).tally ≡ tally_of (base + j) es)
    → ((j : ℕ) (t : Tally) → tallied j e t ≡ t) → (j : ℕ) → j < length xs → (place_at xs j).tally ≡ tally_of (base + j) (e ∷ es)
tallies_still base xs es e old rule j h = old j h ∙ sym (tally_more (base + j) e es ∙ rule (base + j) (tally_of (base + j) es))

-- a station's tables after its reading, those of the others, and all after a carry
pub read_table : (a : Inside) (y : ℕ) (r : Reading) → Stands a → y < a.stations → table_at (after (Read y r) (state a)) y ≡ station_after (table_at (state a) y) r
read_table a y r stands h = (let n = stations_are a stands in ap (λ (v : StationState). v.table) (read_own y r (state a) (omega arith)))

pub other_table : (a : Inside) (y j : ℕ) (r : Reading) → j ≢ y → table_at (after (Read y r) (state a)) j ≡ table_at (state a) j
other_table a y j r n = ap (λ (v : StationState). v.table) (read_other y r (state a) j n)

-- a station is one of the bus
pub station_there : (a : Inside) (y : ℕ) → Stands a → y < a.stations → IsStation (state a).traffic y
station_there a y stands h = (let w = windows_are a stands in omega arith)

-- a number below that of the stations, at what callers see
pub station_below : (a : Inside) (v : GarageValue) (y : ℕ) → garage_value_of a ≡ v → Stands a → y < length v.settings.stations → y < a.stations
station_below a v y is stands h = (let n = settings_are a stands in let e = ap (λ (g : GarageValue). length g.settings.stations) is in omega arith)

-- a post that was read
pub post_is : (a : Inside) (y : ℕ) (x : Post) → Stands a → y < a.stations → x ≡ get_or a.posts.items y x → x ≡ post_at a.posts.items y
post_is a y x stands h read = get_or_read a.posts.items y x (let n = stands.stations in omega arith) read no_post

pub post_table : (a : Inside) (y : ℕ) (x : Post) → Stands a → y < a.stations → x ≡ get_or a.posts.items y x → x.station ≡ table_at (state a) y
post_table a y x stands h read = ap (λ (p : Post). p.station) (post_is a y x stands h read) ∙ stands.posts y h

-- a call that added this event
pub added : (a b : Inside) (v : GarageValue) (e : Event) → garage_value_of a ≡ v → settings_of b ≡ settings_of a → b.journal ≡ e ∷ a.journal → Fits (state a) e → Adds v e (garage_value_of b)
added a b v e is settings journal fits = record {
  adds =
      let history : b.journal ≡ e ∷ a.journal = journal in
      let pair : garage_value_of b ≡ with_event e (garage_value_of a) = cc in
      pair ∙ ap (with_event e) is;
  fits = subst (λ (g : GarageValue). Fits (state_of g) e) is fits;
}

-- a garage stays as it stood where nothing that counts has changed
pub still : (a b : Inside) → Stands a → settings_of b ≡ settings_of a → b.bus.traffic ≡ a.bus.traffic → b.posts.items ≡ a.posts.items → b.stations ≡ a.stations → b.places.items ≡ a.places.items → b.begun ≡ a.begun → b.live ≡ a.live
    → b.injected ≡ a.injected → b.journal ≡ a.journal → Stands b
still a b stands settings traffic posts stations places begun live injected journal =
    let same : state b ≡ state a = (let v : garage_value_of b ≡ garage_value_of a = cc in ap state_of v) in
    let limit : b.limit ≡ a.limit = ap (λ (r : Settings). r.limit) settings in
    let n : length b.journal ≡ length a.journal = ap length journal in
    let m : length b.places.items ≡ length a.places.items = ap length places in
    record {
      few = (let f = stands.few in omega arith);
      traffic = traffic ∙ (stands.traffic ∙ ap (λ (s : State). s.traffic) (sym same));
      stations = stations ∙ (stands.stations ∙ ap length (sym posts));
      some = (let s = stands.some in omega arith);
      eight = (let s = stands.eight in omega arith);
      posts = λ y h. ap (λ (ps : List Post). (post_at ps y).station) posts ∙ (stands.posts y (omega arith) ∙ ap (λ (s : State). table_at s y) (sym same));
      lists = λ y n k h.
          ap (λ (ps : List Post). entries_under (post_at ps y).lists n k) posts
          ∙ (stands.lists y n k (omega arith)
          ∙ (ap (λ (r : Settings). reverse (entries_heard (station_of_at r y) n k (readings_at y a.journal))) (sym settings)
          ∙ ap (λ (es : List Event). reverse (entries_heard (station_of_at (settings_of b) y) n k (readings_at y es))) (sym journal)));
      units = ap (map unit_of) places ∙ (stands.units ∙ ap (λ (s : State). s.units) (sym same));
      begun = begun ∙ (stands.begun ∙ ap (λ (s : State). length s.begun) (sym same));
      fits = subst (λ (r : Settings). AllFit r b.journal) (sym settings) (subst (λ (es : List Event). AllFit (settings_of a) es) (sym journal) stands.fits);
      injected = injected ∙ (stands.injected ∙ ap (λ (es : List Event). injected_of es) (sym journal));
      joined = ap (λ (es : List Event). joins es) journal ∙ (stands.joined ∙ sym m);
      tallies = λ k h. ap (λ (xs : List Place). (place_at xs k).tally) places ∙ (stands.tallies k (omega arith) ∙ (ap (λ (es : List Event). tally_of (a.stations + k) es) (sym journal) ∙ ap (λ (n : ℕ). tally_of (n + k) b.journal) (sym stations)));
      fresh = λ k h. ap (λ (es : List Event). tally_of k es) journal ∙ stands.fresh k (omega arith);
      seats = (let s = stands.seats in let t = ap (λ (t : Traffic). length t.seats) traffic in omega arith);
      live = live ∙ (stands.live ∙ ap live_units (sym traffic));
      within = (let w = stands.within in omega arith);
      wire = (let w = stands.wire in let t = ap (λ (t : Traffic). length t.wire) traffic in omega arith);
      queued = λ k. (let w = stands.queued k in let t = ap (λ (t : Traffic). (seat_at t k).queued) traffic in omega arith);
      messages = (let w = stands.messages in omega arith);
      places = (let w = stands.places in omega arith);
    }

unit_in : (xs : List Place) (k : ℕ) → get_or (map unit_of xs) k (new_unit 0 0) ≡ unit_of (place_at xs k)
unit_in [] k = refl
unit_in (x ∷ xs) zero = refl
unit_in (x ∷ xs) (suc k) = unit_in xs k

-- the unit on a seat is that of its place
pub unit_is : (a : Inside) (seat : ℕ) (x : Place) → Stands a → seat - a.stations < length a.places.items → x ≡ get_or a.places.items (seat - a.stations) x → unit_at (state a) seat ≡ unit_of x
unit_is a seat x stands h read =
    ap (λ (n : ℕ). get_or (state a).units (seat - n) (new_unit 0 0)) (stations_are a stands)
    ∙ (ap (λ (us : List UnitState). get_or us (seat - a.stations) (new_unit 0 0)) (sym stands.units)
    ∙ (unit_in a.places.items (seat - a.stations) ∙ ap unit_of (sym (get_or_read a.places.items (seat - a.stations) x h read no_place))))

pub place_tally : (a : Inside) (k : ℕ) (x : Place) → k < length a.places.items → x ≡ get_or a.places.items k x → x.tally ≡ (place_at a.places.items k).tally
place_tally a k x h read = ap (λ (p : Place). p.tally) (get_or_read a.places.items k x h read no_place)

-- the same at what callers see: a unit's seat has its place, which keeps what the unit keeps
pub seat_low : (a : Inside) (v : GarageValue) (seat : ℕ) → garage_value_of a ≡ v → Stands a → IsUnit (state_of v).traffic seat → a.stations ≤ seat
seat_low a v seat is stands u = (let one = windows_are a stands in let low = (unit_now a v seat is u).0 in omega arith)

pub bus_low : (a : Inside) (seat : ℕ) → Stands a → IsUnit a.bus.traffic seat → 1 ≤ seat
bus_low a seat stands u = (let one = ap (λ (t : Traffic). length t.windows) stands.traffic ∙ windows_are a stands in let some = stands.some in let low = u.0 in omega arith)

pub seat_placed : (a : Inside) (v : GarageValue) (seat : ℕ) → garage_value_of a ≡ v → Stands a → IsUnit (state_of v).traffic seat → seat - a.stations < length a.places.items
seat_placed a v seat is stands u = place_within a seat stands (unit_now a v seat is u)

pub seat_few : (a : Inside) (v : GarageValue) (seat : ℕ) (x : Place) → garage_value_of a ≡ v → Stands a → IsUnit (state_of v).traffic seat → x ≡ get_or a.places.items (seat - a.stations) x → IsFewTally (length a.journal) x.tally
seat_few a v seat x is stands u read = place_few a (seat - a.stations) x stands (seat_placed a v seat is stands u) read

pub place_told : (a : Inside) (v : GarageValue) (seat : ℕ) (x : Place) → garage_value_of a ≡ v → Stands a → IsUnit (state_of v).traffic seat → x ≡ get_or a.places.items (seat - a.stations) x → x.tally.events ≡ (tally_of seat v.journal).events
place_told a v seat x is stands u read =
    let h = seat_placed a v seat is stands u in
    let low = seat_low a v seat is stands u in
    let own : a.stations + (seat - a.stations) ≡ seat = omega arith in
    ap (λ (t : Tally). t.events) (place_tally a (seat - a.stations) x h read ∙ stands.tallies (seat - a.stations) h)
    ∙ (ap (λ (j : ℕ). (tally_of j a.journal).events) own ∙ ap (λ (g : GarageValue). (tally_of seat g.journal).events) is)

pub place_node : (a : Inside) (v : GarageValue) (seat : ℕ) (x : Place) → garage_value_of a ≡ v → Stands a → IsUnit (state_of v).traffic seat → x ≡ get_or a.places.items (seat - a.stations) x → (unit_at (state_of v) seat).node ≡ x.node
place_node a v seat x is stands u read =
    ap (λ (g : GarageValue). (unit_at (state_of g) seat).node) (sym is)
    ∙ ap (λ (n : UnitState). n.node) (unit_is a seat x stands (seat_placed a v seat is stands u) read)

-- a place replaced by an equal one
pub same_place : (xs : List Place) (k : ℕ) (x p : Place) → k < length xs → x ≡ get_or xs k x → p ≡ x → set xs k p ≡ xs
same_place xs k x p h read e = ap (λ (q : Place). set xs k q) (e ∙ get_or_read xs k x h read no_place) ∙ set-get_or xs k no_place

-- a seat that was never given has no events
pub fresh_one : (es : List Event) (e : Event) (seat n : ℕ) (f : Tally → Tally) → ((k : ℕ) → n ≤ k → tally_of k es ≡ no_tally)
    → ((j : ℕ) (t : Tally) → tallied j e t ≡ (if seat == j then f t else t)) → seat < n → (k : ℕ) → n ≤ k → tally_of k (e ∷ es) ≡ no_tally
fresh_one es e seat n f old rule low k h =
    let t : nat_eq seat k ≡ false = ne_eqb seat k (λ d. omega arith) in
    tally_more k e es ∙ (rule k (tally_of k es) ∙ rw t (old k h))

pub fresh_still : (es : List Event) (e : Event) (n : ℕ) → ((k : ℕ) → n ≤ k → tally_of k es ≡ no_tally) → ((j : ℕ) (t : Tally) → tallied j e t ≡ t) → (k : ℕ) → n ≤ k → tally_of k (e ∷ es) ≡ no_tally
fresh_still es e n old rule k h = tally_more k e es ∙ (rule k (tally_of k es) ∙ old k h)

pub fresh_join : (es : List Event) (seat name address n : ℕ) → ((k : ℕ) → n ≤ k → tally_of k es ≡ no_tally) → seat ≡ n → (k : ℕ) → n + 1 ≤ k → tally_of k (Join seat name address ∷ es) ≡ no_tally
fresh_join es seat name address n old is k h =
    let t : nat_eq seat k ≡ false = ne_eqb seat k (λ d. omega arith) in
    tally_more k (Join seat name address) es ∙ rw t (old k (omega arith))

-- a place for a unit that joins
pub tallies_push : (base : ℕ) (xs : List Place) (es : List Event) (p : Place) (seat name address : ℕ) → ((j : ℕ) → j < length xs → (place_at xs j).tally ≡ tally_of (base + j) es) → seat ≡ base + length xs
    → p.tally ≡ record { joined = 1; turned = 0; left = 0; events = 1 } → tally_of (base + length xs) es ≡ no_tally
    → (j : ℕ) → j < length (xs ++ p ∷ []) → (place_at (xs ++ p ∷ []) j).tally ≡ tally_of (base + j) (Join seat name address ∷ es)
tallies_push base xs es p seat name address old n is none j l =
    let more = tally_more (base + j) (Join seat name address) es in
    elim (same_or_not j (length xs)) [
      | inl e ↦
          let t : nat_eq seat (base + j) ≡ true = eq-eqb seat (base + j) (omega arith) in
          let z : tally_of (base + j) es ≡ no_tally = ap (λ (i : ℕ). tally_of (base + i) es) e ∙ none in
          let here : (place_at (xs ++ p ∷ []) j).tally ≡ p.tally = ap (λ (q : Place). q.tally) (get_or_push xs p no_place j (sym e)) in
          here ∙ (is ∙ sym (more ∙ rw (t, z) refl))
      | inr e ↦
          let t : nat_eq seat (base + j) ≡ false = ne_eqb seat (base + j) (λ d. e (omega arith)) in
          let l' : j < length xs = omega (arith, length_push xs p) in
          let there : (place_at (xs ++ p ∷ []) j).tally ≡ (place_at xs j).tally = ap (λ (q : Place). q.tally) (get_or_append_left xs (p ∷ []) no_place j l') in
          there ∙ (old j l' ∙ sym (more ∙ rw t refl))
    ]

-- what a frame heard comes to, at what callers see
pub hears_of : {X : Type 0} (a b : Inside) (v : GarageValue) (seat : ℕ) (node : NodeValue) (f : FrameValue) (answered : UnitAnswer) (memory : MemoryValue) (given : MemoryValue) (after' : MemoryValue) (answers : Question → Bool → X → Type 0) (unit' unit'' : X) → garage_value_of a ≡ v → settings_of b ≡ settings_of a
    → b.journal ≡ Hear seat memory answered ∷ a.journal → memory ≡ given → next_for (state a) seat ≡ Some f → Fits (state a) (Hear seat given answered) → (unit_at (state a) seat).node ≡ node
    → after' ≡ memory_after node given answered f → IsAsked answers (question node f) answered unit' unit'' → Hears v seat given answers unit' (heard.Frame f) (garage_value_of b) after' unit''
hears_of a b v seat node f answered memory given after' answers unit' unit'' is settings journal mem next fits unit reacts asks =
    let seen : next_for (state_of v) seat ≡ Some f = ap (λ (w : GarageValue). next_for (state_of w) seat) (sym is) ∙ next in
    let adds : Adds v (Hear seat given answered) (garage_value_of b) = added a b v (Hear seat given answered) is settings (journal ∙ ap (λ (m : MemoryValue). Hear seat m answered ∷ a.journal) mem) fits in
    let kept : after' ≡ memory_after (unit_at (state_of v) seat).node given answered f =
    reacts ∙ (ap (λ (n : NodeValue). memory_after n given answered f) (sym unit) ∙ ap (λ (w : GarageValue). memory_after (unit_at (state_of w) seat).node given answered f) is) in
    let asked : IsAsked answers (question (unit_at (state_of v) seat).node f) answered unit' unit'' =
    subst (λ (n : NodeValue). IsAsked answers (question n f) answered unit' unit'') (sym unit ∙ ap (λ (w : GarageValue). (unit_at (state_of w) seat).node) is) asks in
    (seen, (answered, adds, kept, asked))

pub state_next : (a b : Inside) (e : Event) → settings_of b ≡ settings_of a → b.journal ≡ e ∷ a.journal → state b ≡ after e (state a)
state_next a b e settings journal =
    let history : b.journal ≡ e ∷ a.journal = journal in
    ap (λ (es : List Event). state_after (settings_of b) es) history
    ∙ (ap (λ (r : Settings). state_after r (e ∷ a.journal)) settings ∙ state_more (settings_of a) e a.journal)

-- a unit that has just joined is seated with one event of its own
pub seated_join : (a b : Inside) (name want k : ℕ) → Stands a → settings_of b ≡ settings_of a → b.journal ≡ Join k name want ∷ a.journal → k ≡ length (state a).traffic.seats → IsSeated (garage_value_of b) k name 1
seated_join a b name want k stands settings journal at =
    let t = (state a).traffic in
    let q = untagged (claim_frame_value name (Some want)) in
    let n = length t.seats in
    let now : (state b).traffic ≡ queued n q (with_newcomer name t) = ap (λ (s : State). s.traffic) (state_next a b (Join k name want) settings journal ∙ join_is k name want (state a)) in
    let l = IsLive-queued (with_newcomer name t) n n q (joined_live t name) in
    let many : length a.bus.traffic.seats ≡ n = ap (λ (u : Traffic). length u.seats) stands.traffic in
    let seats = stands.seats in
    let one = windows_are a stands in
    let u : IsUnit (queued n q (with_newcomer name t)) n = (omega arith, l.0, l.1) in
    let history : b.journal ≡ Join k name want ∷ a.journal = journal in
    let last : nat_eq k k ≡ true = eq-eqb k k refl in
    let none = stands.fresh k (omega arith) in
    let tally : tally_of k b.journal ≡ record { joined = 1; turned = 0; left = 0; events = 1 } =
    ap (λ (es : List Event). tally_of k es) history ∙ (tally_more k (Join k name want) a.journal ∙ rw (last, none) refl) in
    record {
      unit = subst (λ (i : ℕ). IsUnit (state b).traffic i) (sym at) (subst (λ (v : Traffic). IsUnit v n) (sym now) u);
      named = ap (λ (i : ℕ). (seat_at (state b).traffic i).name) at ∙ (ap (λ (v : Traffic). (seat_at v n).name) now ∙ joined_name t name q);
      counted = ap (λ (v : Tally). v.events) tally;
    }

pub begins_of : (a b : Inside) (v : GarageValue) (seat : ℕ) (memory given : MemoryValue) → garage_value_of a ≡ v → settings_of b ≡ settings_of a → b.journal ≡ Begin seat memory ∷ a.journal
    → memory ≡ given → Fits (state a) (Begin seat memory) → Adds v (Begin seat given) (garage_value_of b)
begins_of a b v seat memory given is settings journal mem fits =
    subst (λ (m : MemoryValue). Adds v (Begin seat m) (garage_value_of b)) mem (added a b v (Begin seat memory) is settings journal fits)

-- a garage is lawful
pub lawful_now : (a : Inside) (v : GarageValue) → garage_value_of a ≡ v → Stands a → AllFit v.settings v.journal
lawful_now a v is stands = subst (λ (g : GarageValue). AllFit g.settings g.journal) is stands.fits
