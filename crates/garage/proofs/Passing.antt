-- A unit that passes over its next frame.
use Rattle.std.proofs.Common.{ℕ, ◌≡◌, ◌-◌, ◌+◌, ◌<◌, ◌≤◌, Bool, List, ◌∷◌, length, map, get_or, set, slice_get, slice_set, Option, None, Some, arith, refl, sym, ap, ◌∙◌, subst}
use Rattle.std.proofs.lemmas.List.{length-set, map-set}
use Rattle.std.specs.Option.{option_map}
use Rattle.can_frame.specs.FrameValue.{FrameValue}
use Rattle.fault_memory.specs.Memory.{MemoryValue, IsLawfulMemory}
use Rattle.bus_ledger.specs.BusValue.{Traffic, seat_at, IsUnit}
use Rattle.bus_ledger.specs.Changes.{heard_more}
use Rattle.bus_ledger.specs.Newcomers.{live_units}
use Rattle.bus_ledger.specs.declared.traffic.CarriedFrame.{CarriedFrame}
use Rattle.unit_trait.specs.declared.question.Question.{Question}
use Rattle.node_core.specs.NodeValue.{NodeValue}
use Rattle.node_core.specs.Deed.{Deed, Nothing, heard_of}
use Rattle.node_core.specs.Asking.{IsAnswerTo, IsAsked, memory_answered}
use Rattle.node_core.specs.Passing.{IsHeardQuietly}
use Rattle.node_core.specs.Reaction.{node_after, question}
use Rattle.node_core.specs.declared.heard.Answer.TheVariants.{NotAsked}
use Rattle.journal.specs.Fits.{Fits}
use Rattle.journal.specs.State.{Settings, State, UnitState, unit_at, table_at}
use Rattle.journal.specs.Steps.{after, after_hearing, next_for}
use Rattle.journal.specs.Journal.{GarageValue, Adds, one_more, state_of, tally_of}
use Rattle.journal.specs.declared.event.Event.TheVariants.{Hear}
use Rattle.entry_lists.specs.Entries.{entries_under}
use Rattle.garage.specs.Answers.{Hears, Passes}
use Rattle.garage.specs.Inside.{settings_of, garage_value_of, place_at, post_at, unit_of, Stands}
use Rattle.garage.specs.declared.garage.Garage.TheInside.{Inside}
use Rattle.garage.specs.declared.garage.Place.{Place}
use Rattle.garage.specs.declared.garage.Post.{Post}
use Rattle.garage.specs.declared.answers.HeardOne.TheVariants as heard
use Rattle.garage.proofs.Traffics.{keeps_heard}
use Rattle.garage.proofs.Events.{hear_is, is_answered, joins_hear, next_within}
use Rattle.garage.proofs.Standing.{stations_are, windows_are, state, added, fresh_one, place_tally, place_within, stands_more, tallies_one, unit_is}

-- the next frame of a seat, as the bus tells it
pub next_is : (a : Inside) (v : GarageValue) (seat : ℕ) (o : Option FrameValue) → garage_value_of a ≡ v → Stands a
    → o ≡ option_map (λ (c : CarriedFrame). c.frame) (slice_get a.bus.traffic.wire (seat_at a.bus.traffic seat).heard) → o ≡ next_for (state_of v) seat
next_is a v seat o is stands e =
    e ∙ (ap (λ (t : Traffic). option_map (λ (c : CarriedFrame). c.frame) (slice_get t.wire (seat_at t seat).heard)) stands.traffic
    ∙ ap (λ (w : GarageValue). next_for (state_of w) seat) is)

-- what a frame that is heard quietly comes to: the seat has heard one more, and its unit keeps what it was told to keep
pub quiet_did : (k : ℕ) (memory : MemoryValue) (f : FrameValue) (s : State) (node' : NodeValue) → next_for s k ≡ Some f → IsHeardQuietly (unit_at s k).node f node'
    → after (Hear k memory NotAsked) s ≡ record s { traffic = heard_more k 1 s.traffic; units = slice_set s.units (k - length s.stations) (record (unit_at s k) { node = node' }) }
quiet_did k memory f s node' next quiet =
    let node = (unit_at s k).node in
    hear_is k memory NotAsked f s next
    ∙ (ap (λ (d : Deed). after_hearing k memory (heard_of NotAsked d) (node_after node memory NotAsked f) s) (quiet.idle memory NotAsked)
    ∙ ap (λ (n : NodeValue). after_hearing k memory (heard_of NotAsked Nothing) n s) (quiet.keeps memory NotAsked))

quiet_fits : (k : ℕ) (memory : MemoryValue) (f : FrameValue) (s : State) → IsUnit s.traffic k → IsLawfulMemory memory → next_for s k ≡ Some f → question (unit_at s k).node f ≡ None → Fits s (Hear k memory NotAsked)
quiet_fits k memory f s u lawful next unasked = (
  u,
  next_within s.traffic.wire (seat_at s.traffic k).heard f next,
  lawful,
  is_answered (unit_at s k).node (unit_at s k).node (next_for s k) f NotAsked refl next (subst (λ (q : Option Question). IsAnswerTo q NotAsked) (sym unasked) refl),
)

-- the unit of a place
pub place_unit : (a : Inside) (seat : ℕ) (x : Place) → Stands a → IsUnit (state a).traffic seat → x ≡ get_or a.places.items (seat - a.stations) x → unit_at (state a) seat ≡ unit_of x
place_unit a seat x stands u read = unit_is a seat x stands (place_within a seat stands u) read

-- the stations are as they were
pub record SamePosts (a b : Inside) : Type 0 where
  pub posts : b.posts.items ≡ a.posts.items
  pub stations : b.stations ≡ a.stations

-- a garage stands for its journal after it
pub quiet_stands : (a b : Inside) (seat : ℕ) (memory : MemoryValue) (f : FrameValue) (x : Place) (node' : NodeValue) → Stands a → IsUnit (state a).traffic seat → IsLawfulMemory memory → next_for (state a) seat ≡ Some f
    → x ≡ get_or a.places.items (seat - a.stations) x → IsHeardQuietly x.node f node' → settings_of b ≡ settings_of a → b.journal ≡ Hear seat memory NotAsked ∷ a.journal → b.bus.traffic ≡ heard_more seat 1 a.bus.traffic
    → SamePosts a b → b.places.items ≡ set a.places.items (seat - a.stations) (record x { node = node'; tally = one_more x.tally }) → b.begun ≡ a.begun → b.live ≡ a.live → b.injected ≡ a.injected
    → length a.journal + 1 + a.live ≤ a.limit → Stands b
quiet_stands a b seat memory f x node' stands u lawful next read quiet settings journal now same_posts places begun live injected within =
    let s = state a in
    let k = seat - a.stations in
    let h = place_within a seat stands u in
    let one_is = windows_are a stands in
    let low = u.0 in
    let same = place_unit a seat x stands u read in
    let node : x.node ≡ (unit_at s seat).node = sym (ap (λ (w : UnitState). w.node) same) in
    let quiet' : IsHeardQuietly (unit_at s seat).node f node' = subst (λ (n : NodeValue). IsHeardQuietly n f node') node quiet in
    let is = quiet_did seat memory f s node' next quiet' in
    let p : Place = record x { node = node'; tally = one_more x.tally } in
    let keeps = keeps_heard a.bus.traffic seat 1 in
    let lives = ap live_units now ∙ keeps.units in
    let wires = ap (λ (v : Traffic). length v.wire) now ∙ ap length keeps.wire in
    let many = ap (λ (v : Traffic). length v.seats) now ∙ keeps.seats in
    let long : length b.places.items ≡ length a.places.items = ap length places ∙ length-set a.places.items k p in
    let limit : b.limit ≡ a.limit = ap (λ (r : Settings). r.limit) settings in
    stands_more a b (Hear seat memory NotAsked) stands (record {
      settings = settings;
      journal = journal;
      fits = quiet_fits seat memory f s u lawful next quiet'.unasked;
      traffic = now ∙ (ap (λ (v : Traffic). heard_more seat 1 v) stands.traffic ∙ sym (ap (λ (v : State). v.traffic) is));
      stations = same_posts.stations;
      posts = λ y l. ap (λ (ps : List Post). (post_at ps y).station) same_posts.posts ∙ (stands.posts y l ∙ sym (ap (λ (v : State). table_at v y) is));
      lists = λ y n k l. ap (λ (ps : List Post). entries_under (post_at ps y).lists n k) same_posts.posts ∙ stands.lists y n k l;
      units = ap (map unit_of) places ∙ (map-set unit_of a.places.items k p ∙ (ap (λ (us : List UnitState). set us k (record (unit_of x) { node = node' })) stands.units
          ∙ (ap (λ (w : UnitState). set s.units k (record w { node = node' })) (sym same)
          ∙ (ap (λ (n : ℕ). set s.units (seat - n) (record (unit_at s seat) { node = node' })) (sym (stations_are a stands)) ∙ sym (ap (λ (v : State). v.units) is)))));
      begun = begun ∙ (stands.begun ∙ sym (ap (λ (v : State). length v.begun) is));
      injected = (let i = injected in omega arith);
      joined = joins_hear seat memory NotAsked _ ∙ (stands.joined ∙ sym long);
      tallies = subst (λ (xs : List Place). (j : ℕ) → j < length xs → (place_at xs j).tally ≡ tally_of (a.stations + j) (Hear seat memory NotAsked ∷ a.journal)) (sym places)
          (tallies_one a.stations a.places.items _ (Hear seat memory NotAsked) k seat p one_more stands.tallies (λ j t'. refl) (omega arith) h (ap one_more (place_tally a k x h read)));
      fresh = λ j l. fresh_one _ (Hear seat memory NotAsked) seat (a.stations + length a.places.items) one_more stands.fresh (λ i t'. refl) (omega arith) j (omega arith);
      seats = (let y = stands.seats in omega arith);
      live = live ∙ (stands.live ∙ sym lives);
      within = omega arith;
      wire = (let w = stands.wire in omega arith);
      queued = λ j. (let w = stands.queued j in let q = keeps.queued j in let e = ap (λ (v : Traffic). (seat_at v j).queued) now in omega arith);
      messages = (let w = stands.messages in omega arith);
      places = (let w = stands.places in omega arith);
    })

-- what it comes to, at what callers see
pub quiet_passes : (a b : Inside) (v : GarageValue) (seat : ℕ) (memory given : MemoryValue) (f : FrameValue) (x : Place) (node' : NodeValue) → garage_value_of a ≡ v → Stands a → settings_of b ≡ settings_of a
    → b.journal ≡ Hear seat memory NotAsked ∷ a.journal → memory ≡ given → IsUnit (state a).traffic seat → IsLawfulMemory memory → next_for (state a) seat ≡ Some f → x ≡ get_or a.places.items (seat - a.stations) x
    → IsHeardQuietly x.node f node' → Passes v seat given f (garage_value_of b)
quiet_passes a b v seat memory given f x node' is stands settings journal mem u lawful next read quiet =
    let same = place_unit a seat x stands u read in
    let unasked : question (unit_at (state a) seat).node f ≡ None = ap (λ (w : UnitState). question w.node f) same ∙ quiet.unasked in
    record {
      adds = subst (λ (m : MemoryValue). Adds v (Hear seat m NotAsked) (garage_value_of b)) mem (added a b v (Hear seat memory NotAsked) is settings journal (quiet_fits seat memory f (state a) u lawful next unasked));
      unasked = ap (λ (w : GarageValue). question (unit_at (state_of w) seat).node f) (sym is) ∙ unasked;
    }

-- the next frame, at the fields of a garage
pub next_inside : (a : Inside) (v : GarageValue) (seat : ℕ) (f : FrameValue) → garage_value_of a ≡ v → next_for (state_of v) seat ≡ Some f → next_for (state a) seat ≡ Some f
next_inside a v seat f is e = ap (λ (w : GarageValue). next_for (state_of w) seat) is ∙ e

pub next_there : (a : Inside) (seat : ℕ) (f : FrameValue) → Stands a → next_for (state a) seat ≡ Some f → (seat_at a.bus.traffic seat).heard < length a.bus.traffic.wire
next_there a seat f stands next =
    let s = state a in
    subst (λ (t : Traffic). (seat_at t seat).heard < length t.wire) (sym stands.traffic) (next_within s.traffic.wire (seat_at s.traffic seat).heard f next)

pub hears_quietly : {X : Type 0} (v w : GarageValue) (k : ℕ) (f : FrameValue) (memory : MemoryValue) (answers : Question → Bool → X → Type 0) (unit : X)
    → next_for (state_of v) k ≡ Some f → Passes v k memory f w → Hears v k memory answers unit (heard.Frame f) w memory unit
hears_quietly v w k f memory answers unit next passes = (
  next,
  (
    NotAsked,
    passes.adds,
    sym (ap (λ (q : Option Question). memory_answered q NotAsked memory) passes.unasked),
    subst (λ (q : Option Question). IsAsked answers q NotAsked unit unit) (sym passes.unasked) refl,
  ),
)
