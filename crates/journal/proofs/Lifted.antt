-- The law of the bus's machine, put to the world that a journal leads to, in the words of the journal.
use Rattle.std.proofs.Common.{◌≡◌, ◌<◌, ℕ, suc, zero, Bool, true, false, List, [], ◌∷◌, ◌++◌, length, map, if◌then◌else◌, ◌==◌, append_assoc, Some, reverse, take, drop, slice_get, refl, sym, ap, ◌∙◌, subst, arith}
use Rattle.std.specs.Prelude.{◌↔◌}
use Rattle.std.proofs.lemmas.List.{reverse-append}
use Rattle.dm_messages.specs.declared.kind.Kind.{Kind}
use Rattle.dm_messages.specs.declared.shown.Shown.{Shown}
use Rattle.bus_model.specs.ClearPath.{IsOnClearPath, NoneMissed}
use Rattle.bus_model.specs.Expected.{Reception, Received, is_clear, passed}
use Rattle.bus_model.specs.Machine.{AreFit, Run, start}
use Rattle.bus_model.specs.Heard.{StationSettings}
use Rattle.can_frame.specs.declared.reading.Reading.{Reading}
use Rattle.bus_model.specs.Heard.{ended, entries_heard, put}
use Rattle.bus_model.proofs.Only.{IsMeant, meant_for_it}
use Rattle.bus_model.specs.LawfulTraffic.{IsLawfulTraffic}
use Rattle.bus_model.specs.Messages.{Message, IsAmong}
use Rattle.bus_model.specs.Traffic.{Item}
use Rattle.bus_model.specs.Whole.{received_whole}
use Rattle.bus_model.proofs.Clear.{clear_is, found_clear}
use Rattle.bus_model.proofs.Grows.{put_grows}
use Rattle.bus_model.proofs.Lawful.{Lawful}
use Rattle.bus_model.proofs.Lookback.{lawful_rest}
use Rattle.bus_model.proofs.Quiet.{clear_whole, expected_whole}
use Rattle.bus_model.proofs.Wire.{lawful_traffic}
use Rattle.bus_model.proofs.Worlds.{passed_booked}
use Rattle.journal.specs.Journal.{GarageValue, Adds, injected_of, listed_at, readings_at, shown_at, state_of, with_event}
use Rattle.journal.specs.Promises.{IsFromOwner, IsLawful, IsPrefix, KeepsLists, wire_of}
use Rattle.journal.specs.State.{StationSetting, path_at, setting_at}
use Rattle.journal.specs.Worlds.{items_of, law_settings, station_of, station_of_at, stations_of, world_of, world_station}
use Rattle.journal.specs.declared.event.Event.{Event}
use Rattle.journal.specs.declared.event.Event.TheVariants.{Join, Hear, Begin, Turned, Carry, Read, Ordered, Leave, Inject}
use Rattle.journal.proofs.Reaching.{reached}
use Rattle.journal.proofs.Readings.{settings_fit}
use Rattle.journal.proofs.Headline.{at_after, holds_after, law_after, names_in, world_after}

pub lawful_wire : (g : GarageValue) → IsLawful g → injected_of g.journal ≡ 0 → IsLawfulTraffic (state_of g).begun (wire_of (state_of g))
unfolding world_after
lawful_wire g fit none =
    let l = law_after g.settings g.journal fit none in
    let w = world_after g.settings g.journal fit none in
    lawful_traffic (names_in g.settings) w.begun w.wire l.wire l.booked

-- the wire at one of its frames
split_at : {A : Type 0} (xs : List A) (i : ℕ) (x : A) → slice_get xs i ≡ Some x → xs ≡ take i xs ++ x ∷ drop (suc i) xs
split_at [] i x e = absurd cc
split_at (y ∷ xs) zero x e = (let same : y ≡ x = cc in ap (λ (z : _). z ∷ xs) same)
split_at (y ∷ xs) (suc i) x e = ap (λ (l : List _). y ∷ l) (split_at xs i x e)

pub from_owner : (g : GarageValue) → IsLawful g → injected_of g.journal ≡ 0 → (i : ℕ) → IsFromOwner (state_of g) i
unfolding world_after
from_owner g fit none i e t at tag =
    let xs = items_of (state_of g) in
    let there : xs ≡ (take i xs ++ e ∷ []) ++ drop (suc i) xs = split_at xs i e at ∙ sym (append_assoc (take i xs) (e ∷ []) (drop (suc i) xs)) in
    let split : reverse xs ≡ reverse (drop (suc i) xs) ++ e ∷ reverse (take i xs) =
    ap reverse there ∙ (reverse-append (take i xs ++ e ∷ []) (drop (suc i) xs) ∙ ap (λ (l : List Item). reverse (drop (suc i) xs) ++ l) (reverse-append (take i xs) (e ∷ []))) in
    let p = (lawful_rest (names_in g.settings) (reverse (drop (suc i) xs)) (e ∷ reverse (take i xs)) (subst (Lawful (names_in g.settings)) split (law_after g.settings g.journal fit none).wire)).0.tagged t tag in
    p.owned ∙ ap Some (sym p.name)

-- what a station has of the wire, of which the law holds too
lawful_path : (g : GarageValue) (fit : IsLawful g) (none : injected_of g.journal ≡ 0) (y : ℕ) → y < length g.settings.stations → Lawful (names_in g.settings) (passed (path_at (state_of g) y))
lawful_path g fit none y h =
    let here = holds_after g.settings g.journal fit none y h in
    (lawful_rest (names_in g.settings) here.law.past.ahead (passed (path_at (state_of g) y)) (subst (Lawful (names_in g.settings)) here.law.past.reach (law_after g.settings g.journal fit none).wire))

pub looks_back : (g : GarageValue) → IsLawful g → injected_of g.journal ≡ 0 → (y : ℕ) → y < length g.settings.stations → (m : Message) → IsAmong m (state_of g).begun
    → (is_clear (station_of_at g.settings y) m (path_at (state_of g) y) ≡ true) ↔ IsOnClearPath (station_of_at g.settings y) m (path_at (state_of g) y)
unfolding world_after
looks_back g fit none y h m among =
    let st = names_in g.settings in
    let r = station_of_at g.settings y in
    let path = path_at (state_of g) y in
    let l = law_after g.settings g.journal fit none in
    let w = world_after g.settings g.journal fit none in
    let here = holds_after g.settings g.journal fit none y h in
    let lawful = lawful_path g fit none y h in
    let booked = passed_booked st w (world_station (state_of g) y (setting_at g.settings y)) l here in
    (clear_is r st w.begun m path l.numbered among lawful here.marked booked, found_clear r st w.begun m path l.numbered among lawful booked)

pub quiet : (g : GarageValue) → IsLawful g → injected_of g.journal ≡ 0 → (y : ℕ) → y < length g.settings.stations → NoneMissed (path_at (state_of g) y) → (n : ℕ) (k : Kind)
    → shown_at g y n k ≡ reverse (received_whole (station_of_at g.settings y) n k (state_of g).begun (path_at (state_of g) y))
unfolding world_after
quiet g fit none y h whole n k =
    let st = names_in g.settings in
    let r = station_of_at g.settings y in
    let path = path_at (state_of g) y in
    let l = law_after g.settings g.journal fit none in
    let w = world_after g.settings g.journal fit none in
    let here = holds_after g.settings g.journal fit none y h in
    let lawful = lawful_path g fit none y h in
    let booked = passed_booked st w (world_station (state_of g) y (setting_at g.settings y)) l here in
    ap reverse (expected_whole r n k w.begun path (λ m among. clear_whole r st w.begun m path l.numbered among whole lawful here.marked booked))

-- what the only station is sent
pub meant : (g : GarageValue) → IsLawful g → injected_of g.journal ≡ 0 → (station : StationSetting) → g.settings.stations ≡ station ∷ [] → (after before : List Reception) (e : Item)
    → path_at (state_of g) 0 ≡ after ++ Received e ∷ before → IsMeant (station_of g.settings) e before
unfolding world_after
meant g fit none station one after before e path =
    let r = g.settings in
    let now = reached r g.journal fit none in
    let alone : stations_of r ≡ law_settings station ∷ [] = ap (map law_settings) one in
    let many = ap length one in
    meant_for_it (law_settings station) (subst AreFit alone (settings_fit r g.journal fit)).0 now.events (world_of r (state_of g) now.seats)
    (subst (λ (s : List StationSettings). Run (start s) now.events (world_of r (state_of g) now.seats)) alone now.run) 0 (world_station (state_of g) 0 (setting_at r 0))
    (at_after r g.journal fit none 0 (omega arith)) after before e path

-- a reading more
grown : (before after : List Shown) → (more : List Shown) × (after ≡ more ++ before) → IsPrefix (reverse before) (reverse after)
grown before after (more, e) = (reverse more, ap reverse e ∙ reverse-append more before)

still : (l : List Shown) → IsPrefix (reverse l) (reverse l)
still l = grown l l ([], refl)

still_at : (g : GarageValue) (y n : ℕ) (k : Kind) → IsPrefix (listed_at g y n k) (listed_at g y n k)
still_at g y n k = still (entries_heard (station_of_at g.settings y) n k (readings_at y g.journal))

-- a reading of this station, or of another
read_listed : (g : GarageValue) (x : Reading) (y n : ℕ) (k : Kind) (own : Bool)
    → IsPrefix (listed_at g y n k) (reverse (entries_heard (station_of_at g.settings y) n k (if own then x ∷ readings_at y g.journal else readings_at y g.journal)))
read_listed g x y n k true =
    let r = station_of_at g.settings y in
    let rs = readings_at y g.journal in
    grown (entries_heard r n k rs) (put n k (ended r x rs) (entries_heard r n k rs)) (put_grows n k (ended r x rs) (entries_heard r n k rs))
read_listed g x y n k false = still_at g y n k

listed_more : (g : GarageValue) (e : Event) (y n : ℕ) (k : Kind) → IsPrefix (listed_at g y n k) (listed_at (with_event e g) y n k)
unfolding readings_at
listed_more g (Join seat name address) y n k = still_at g y n k
listed_more g (Hear j memory answered) y n k = still_at g y n k
listed_more g (Begin j memory) y n k = still_at g y n k
listed_more g (Turned j) y n k = still_at g y n k
listed_more g (Carry j) y n k = still_at g y n k
listed_more g (Read j x) y n k = read_listed g x y n k (j == y)
listed_more g (Ordered j o) y n k = still_at g y n k
listed_more g (Leave j) y n k = still_at g y n k
listed_more g (Inject f) y n k = still_at g y n k

pub keeps_same : (old new : GarageValue) → new ≡ old → KeepsLists old new
keeps_same old new e = record {
  grows = λ y n k. (let s = still_at old y n k in (s.0, ap (λ (g : GarageValue). listed_at g y n k) e ∙ s.1));
}

pub keeps_adds : (old new : GarageValue) (e : Event) → Adds old e new → KeepsLists old new
keeps_adds old new e adds = record {
  grows = λ y n k. (let more = listed_more old e y n k in (more.0, ap (λ (g : GarageValue). listed_at g y n k) adds.adds ∙ more.1));
}
