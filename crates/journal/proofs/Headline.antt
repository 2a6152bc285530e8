-- What a station shows of a journal: the law, put to the world that the journal leads to.
use Rattle.std.proofs.Common.{ℕ, ◌≡◌, ◌<◌, List, length, reverse, sym, ap, ◌∙◌, subst}
use Rattle.std.proofs.lemmas.Option.{slice_get-get_or}
use Rattle.can_frame.specs.declared.reading.Reading.{Reading}
use Rattle.dm_messages.specs.declared.kind.Kind.{Kind}
use Rattle.bus_model.specs.Expected.{expected}
use Rattle.bus_model.specs.Heard.{entries_heard}
use Rattle.bus_model.specs.Machine.{IsAt, World, names_of, new_stations, start}
use Rattle.bus_model.proofs.Worlds.{StationHolds, WorldLaw, law_run, law_start}
use Rattle.station_table.specs.StandsFor.{StandsFor}
use Rattle.journal.specs.Journal.{AllFit, injected_of, readings_at, state_after}
use Rattle.journal.specs.State.{Settings, no_setting, path_at, setting_at, table_at}
use Rattle.journal.specs.Worlds.{station_of_at, stations_of, world_of, world_station}
use Rattle.journal.specs.declared.event.Event.{Event}
use Rattle.journal.proofs.Posts.{station_is}
use Rattle.journal.proofs.Reaching.{reached}
use Rattle.journal.proofs.Readings.{path_readings, settings_fit, stationed}

-- the tables of each station say what was heard of its readings in the journal
pub station : (r : Settings) (journal : List Event) → AllFit r journal → (y : ℕ) → y < length r.stations → StandsFor (station_of_at r y) (setting_at r y).grant (table_at (state_after r journal) y) (readings_at y journal)
station r journal fit y h =
    subst (λ (rs : List Reading). StandsFor (station_of_at r y) (setting_at r y).grant (table_at (state_after r journal) y) rs) (path_readings r journal y fit h) ((stationed r journal fit).each y h)

-- the world of a journal without frames from outside, of which the law holds
unfoldable pub world_after : (r : Settings) (journal : List Event) → AllFit r journal → injected_of journal ≡ 0 → World
world_after r journal fit none = world_of r (state_after r journal) (reached r journal fit none).seats

-- the NAMEs of its stations
abbrev pub names_in : Settings → List ℕ
names_in r = names_of (new_stations 0 (stations_of r))

pub law_after : (r : Settings) (journal : List Event) (fit : AllFit r journal) (none : injected_of journal ≡ 0) → WorldLaw (names_in r) (world_after r journal fit none)
unfolding world_after
law_after r journal fit none =
    let now = reached r journal fit none in
    law_run (names_in r) (start (stations_of r)) now.events (world_of r (state_after r journal) now.seats) (law_start (stations_of r) (settings_fit r journal fit)) now.run

pub at_after : (r : Settings) (journal : List Event) (fit : AllFit r journal) (none : injected_of journal ≡ 0) (y : ℕ) → y < length r.stations → IsAt (world_after r journal fit none) y (world_station (state_after r journal) y (setting_at r y))
unfolding world_after
at_after r journal fit none y h = station_is r (state_after r journal) y (setting_at r y) (slice_get-get_or r.stations y no_setting h)

-- and of each of them
pub holds_after : (r : Settings) (journal : List Event) (fit : AllFit r journal) (none : injected_of journal ≡ 0) (y : ℕ) → y < length r.stations
    → StationHolds (names_in r) (world_after r journal fit none).wire (world_after r journal fit none).begun (world_station (state_after r journal) y (setting_at r y))
holds_after r journal fit none y h = (law_after r journal fit none).stations y (world_station (state_after r journal) y (setting_at r y)) (at_after r journal fit none y h)

-- where no frame came from outside, what was heard of its readings is what came on a clear path
pub exact : (r : Settings) (journal : List Event) → AllFit r journal → injected_of journal ≡ 0 → (y : ℕ) → y < length r.stations → (n : ℕ) (k : Kind)
    → reverse (entries_heard (station_of_at r y) n k (readings_at y journal)) ≡ reverse (expected (station_of_at r y) n k (state_after r journal).begun (path_at (state_after r journal) y))
unfolding world_after
exact r journal fit none y h n k =
    ap (λ (rs : List Reading). reverse (entries_heard (station_of_at r y) n k rs)) (sym (path_readings r journal y fit h)) ∙ ap reverse ((holds_after r journal fit none y h).same n k)

-- and no message that ended was unreadable
pub readable : (r : Settings) (journal : List Event) → AllFit r journal → injected_of journal ≡ 0 → (y : ℕ) → y < length r.stations → (table_at (state_after r journal) y).unread ≡ 0
readable r journal fit none y h = ((stationed r journal fit).each y h).unread ∙ (holds_after r journal fit none y h).unread
