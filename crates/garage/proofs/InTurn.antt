-- Units that pass over the last frame of the wire one after another, at the fields of a garage.
use Rattle.std.proofs.Common.{rules, ℕ, ◌≡◌, ◌-◌, ◌+◌, ◌<◌, ◌≤◌, List, ◌∷◌, Option, None, Some, length, map, set, get_or, slice_get, arith, refl, sym, ap, ◌∙◌, subst}
use Rattle.std.proofs.lemmas.List.{set-get_or}
use Rattle.std.specs.Vec.{with_item}
use Rattle.can_frame.specs.FrameValue.{FrameValue}
use Rattle.bus_ledger.specs.BusValue.{IsUnit, Traffic, seat_at}
use Rattle.bus_ledger.specs.Changes.{heard_more}
use Rattle.unit_trait.specs.declared.question.Question.{Question}
use Rattle.node_core.specs.NodeValue.{NodeValue}
use Rattle.node_core.specs.Asking.{memory_answered}
use Rattle.node_core.specs.Passing.{IsHeardQuietly, Absorbs}
use Rattle.node_core.specs.Reaction.{memory_after}
use Rattle.node_core.specs.declared.heard.Answer.{Answer as UnitAnswer}
use Rattle.node_core.specs.declared.heard.Answer.TheVariants.{NotAsked}
use Rattle.node_core.specs.declared.acceptance.Acceptance.{Acceptance}
use Rattle.fault_memory.specs.Memory.{IsLawfulMemory}
use Rattle.journal.specs.Journal.{GarageValue, IsSeated, one_more, state_of, tally_of}
use Rattle.journal.specs.State.{Settings, unit_at}
use Rattle.journal.specs.Steps.{next_for}
use Rattle.journal.specs.declared.event.Event.TheVariants.{Hear}
use Rattle.garage.specs.Answers.{Passes}
use Rattle.garage.specs.Crew.{AreSeated, Sitting}
use Rattle.garage.specs.Hearing.{HearsFrame, HearsOut, IsLast}
use Rattle.garage.specs.Inside.{no_tally, place_at, settings_of, garage_value_of, unit_of, Stands}
use Rattle.garage.specs.Rounds.{HearOnward, HearsAt}
use Rattle.garage.specs.declared.garage.Garage.TheInside.{Inside}
use Rattle.garage.specs.declared.garage.Place.{Place}
use Rattle.garage.proofs.HearLemmas.{out_none, out_one}
use Rattle.garage.proofs.LastFrames.{next_is_last}
use Rattle.garage.proofs.Passing.{SamePosts, quiet_passes, quiet_stands}
use Rattle.garage.proofs.RoundLemmas.{last_after, moved_some, set_itself, units_more}
use Rattle.garage.proofs.Standing.{place_told, state}

-- how far they have come: all stands, those before this number have heard all, and there is room for so many more
pub record InTurn {P : Type 0} (sitting : P → Sitting) (asked : P → P → Option Question → UnitAnswer → Type 0) (first : ℕ) (before : GarageValue) (earlier : List P) (f : FrameValue) (acceptance : Acceptance) (a : Inside) (units : List P) (i left : ℕ) : Type 0 where
  pub stands : Stands a
  pub seated : AreSeated sitting (garage_value_of a) units
  pub last : IsLast f acceptance (garage_value_of a)
  pub heard : HearOnward sitting asked first i before earlier (garage_value_of a) units
  pub count : length units ≡ length earlier
  pub within : length a.journal + left + a.live ≤ a.limit

-- the next unit heard all
onward : {P : Type 0} (sitting : P → Sitting) (asked : P → P → Option Question → UnitAnswer → Type 0) (first i j : ℕ) (a b c : GarageValue) (us vs ws : List P) → j ≡ i + 1 → HearOnward sitting asked first i a us b vs → HearsAt sitting asked i b vs c ws → HearOnward sitting asked first j a us c ws
onward sitting asked first i j a b c us vs ws e heard one = λ v xs h. units_more sitting asked i j v b c xs vs ws e (heard v xs h) one

-- one that has heard all
pub turn_still : {P : Type 0} (sitting : P → Sitting) (asked : P → P → Option Question → UnitAnswer → Type 0) (first : ℕ) (before : GarageValue) (earlier : List P) (f : FrameValue) (acceptance : Acceptance) (a : Inside) (units : List P) (i j left fewer : ℕ) (p : P)
    → InTurn sitting asked first before earlier f acceptance a units i left → j ≡ i + 1 → fewer ≤ left → slice_get units i ≡ Some p → length a.bus.traffic.wire ≤ (seat_at a.bus.traffic (sitting p).seat).heard
    → InTurn sitting asked first before earlier f acceptance a units j fewer
turn_still {P} sitting asked first before earlier f acceptance a units i j left fewer p so next less at none =
    let v = garage_value_of a in
    let all : length (state_of v).traffic.wire ≤ (seat_at (state_of v).traffic (sitting p).seat).heard = subst (λ (t : Traffic). length t.wire ≤ (seat_at t (sitting p).seat).heard) so.stands.traffic none in
    record {
      stands = so.stands;
      seated = so.seated;
      last = so.last;
      heard = onward sitting asked first i j before v v earlier units units next so.heard (record { before = p; after = p; there = at; put = sym (set_itself units i p at); heard = out_none sitting asked v p all });
      count = so.count;
      within = (let w = so.within in omega arith);
    }

-- one that passes over the frame
pub turn_passed : {P : Type 0} (sitting : P → Sitting) (asked : P → P → Option Question → UnitAnswer → Type 0) (first : ℕ) (before : GarageValue) (earlier : List P) (f : FrameValue) (acceptance : Acceptance) (a b : Inside) (units : List P) (i j left fewer events : ℕ) (p p' : P) (x : Place) (node' : NodeValue)
    → InTurn sitting asked first before earlier f acceptance a units i left → j ≡ i + 1 → fewer + 1 ≡ left → slice_get units i ≡ Some p → IsLawfulMemory (sitting p).memory → (seat_at a.bus.traffic (sitting p).seat).heard + 1 ≡ length a.bus.traffic.wire
    → x ≡ get_or a.places.items ((sitting p).seat - a.stations) x → Absorbs acceptance x.node node' → sitting p' ≡ record (sitting p) { events = events } → events ≡ x.tally.events + 1 → asked p p' None NotAsked
    → settings_of b ≡ settings_of a → b.journal ≡ Hear (sitting p).seat (sitting p).memory NotAsked ∷ a.journal → b.bus.traffic ≡ heard_more (sitting p).seat 1 a.bus.traffic
    → SamePosts a b → b.places.items ≡ set a.places.items ((sitting p).seat - a.stations) (record x { node = node'; tally = one_more x.tally }) → b.begun ≡ a.begun → b.live ≡ a.live → b.injected ≡ a.injected
    → InTurn sitting asked first before earlier f acceptance b (set units i p') j fewer
turn_passed {P} sitting asked first before earlier f acceptance a b units i j left fewer events p p' x node' so next fewer_is at lawful one read settles sitting_is events_are unasked settings journal now posts places begun live injected =
    let v = garage_value_of a in
    let w = garage_value_of b in
    let s = sitting p in
    let same : sitting p' ≡ record s { events = x.tally.events + 1 } = sitting_is ∙ ap (λ (k : ℕ). record s { events = k }) events_are in
    let stands = so.stands in
    let seated : IsSeated v s.seat s.name s.events = so.seated.each i p at in
    let u : IsUnit (state a).traffic s.seat = seated.unit in
    let one_more_is : (seat_at (state_of v).traffic s.seat).heard + 1 ≡ length (state_of v).traffic.wire = subst (λ (t : Traffic). (seat_at t s.seat).heard + 1 ≡ length t.wire) stands.traffic one in
    let is_next : next_for (state_of v) s.seat ≡ Some f = next_is_last v s.seat f one_more_is so.last.frame in
    let quiet : IsHeardQuietly x.node f node' = so.last.tells.heard x.node node' settles in
    let n = so.within in
    let few : length a.journal + 1 + a.live ≤ a.limit = omega arith in
    let passes : Passes v s.seat s.memory f w = quiet_passes a b v s.seat s.memory s.memory f x node' refl stands settings journal refl u lawful is_next read quiet in
    let counts : x.tally.events ≡ s.events = place_told a v s.seat x refl stands u read ∙ seated.counted in
    let hears : HearsFrame sitting asked f v p w p' = record {
      next = is_next;
      answer = NotAsked;
      adds = passes.adds;
      memory = ap (λ (y : Sitting). y.memory) same ∙ memory_kept v s f passes;
      asked_it = subst (λ (q : Option Question). asked p p' q NotAsked) (sym passes.unasked) unasked;
      seat = ap (λ (y : Sitting). y.seat) same;
      name = ap (λ (y : Sitting). y.name) same;
      counted = ap (λ (y : Sitting). y.events) same ∙ ap (λ (k : ℕ). k + 1) counts;
    } in
    let out : HearsOut sitting asked v p w p' = out_one sitting asked f v p w p' hears seated one_more_is in
    let limit : b.limit ≡ a.limit = ap (λ (y : Settings). y.limit) settings in
    let more : length b.journal ≡ length a.journal + 1 = (let l = ap length journal in omega arith) in
    let moved = moved_some sitting asked out.count i v w units p p' so.seated at out.heard in
    record {
      stands = quiet_stands a b s.seat s.memory f x node' stands u lawful is_next read quiet settings journal now posts places begun live injected few;
      seated = moved.seated;
      last = last_after sitting f acceptance v w units (set units i p') moved so.last;
      heard = onward sitting asked first i j before v w earlier units (set units i p') next so.heard (record { before = p; after = p'; there = at; put = refl; heard = out });
      count = moved.count ∙ so.count;
      within = omega arith;
    }
  where
    memory_kept : (v : GarageValue) (s : Sitting) (f : FrameValue) {w : GarageValue} → Passes v s.seat s.memory f w → s.memory ≡ memory_after (unit_at (state_of v) s.seat).node s.memory NotAsked f
    memory_kept v s f passes = sym (ap (λ (q : Option Question). memory_answered q NotAsked s.memory) passes.unasked)

-- a place that is written as it was
pub stands_written : (a : Inside) (k : ℕ) (x y : Place) → Stands a → x ≡ get_or a.places.items k x → y ≡ x → Stands (record a { places = with_item a.places k y })
stands_written a k x y stands value same =
    let items : a.places.items ≡ set a.places.items k y = sym (ap (λ (z : Place). set a.places.items k z) (same ∙ value) ∙ set-get_or a.places.items k x) in
    let units : map unit_of (set a.places.items k y) ≡ (state a).units = subst (λ (l : List Place). map unit_of l ≡ (state a).units) items stands.units in
    let tallies : (j : ℕ) → j < length (set a.places.items k y) → (place_at (set a.places.items k y) j).tally ≡ tally_of (a.stations + j) a.journal
    = subst (λ (l : List Place). (j : ℕ) → j < length l → (place_at l j).tally ≡ tally_of (a.stations + j) a.journal) items stands.tallies in
    let fresh : (j : ℕ) → a.stations + length (set a.places.items k y) ≤ j → tally_of j a.journal ≡ no_tally
    = subst (λ (l : List Place). (j : ℕ) → a.stations + length l ≤ j → tally_of j a.journal ≡ no_tally) items stands.fresh in
    search (rules, units, tallies, fresh)
