-- What a garage answers of its stations is what the law says of its journal.
use Rattle.std.proofs.Common.{◌≡◌, ◌<◌, ℕ, true, List, Option, get_or, length, reverse, sym, ap, ◌∙◌, subst, arith}
use Rattle.std.specs.Option.{option_map}
use Rattle.std.specs.Prelude.{◌↔◌}
use Rattle.dm_messages.specs.declared.kind.Kind.{Kind}
use Rattle.dm_messages.specs.declared.shown.Shown.{Shown}
use Rattle.bus_model.specs.ClearPath.{IsOnClearPath, NoneMissed}
use Rattle.bus_model.specs.Expected.{is_clear}
use Rattle.bus_model.specs.Heard.{entries_heard, missed_count, row_heard, unread_count}
use Rattle.bus_model.specs.LawfulTraffic.{IsLawfulTraffic}
use Rattle.bus_model.specs.Messages.{Message, IsAmong}
use Rattle.bus_model.specs.Whole.{received_whole}
use Rattle.entry_lists.specs.Entries.{entries_under}
use Rattle.entry_lists.specs.KeptValue.{kept_under}
use Rattle.station_table.specs.Listing.{lists_heard}
use Rattle.station_table.specs.StandsFor.{StandsFor}
use Rattle.entry_lists.specs.KnownRows.{row_of, row_heard_as}
use Rattle.station_table.specs.StationValue.{StationValue}
use Rattle.entry_lists.specs.declared.row.Row.{Row}
use Rattle.station_table.proofs.Queries.{row_as_heard}
use Rattle.journal.specs.Journal.{GarageValue, injected_of, listed_at, readings_at, shown_at, state_of}
use Rattle.journal.specs.Promises.{IsFromOwner, wire_of}
use Rattle.journal.specs.State.{path_at, setting_at, table_at}
use Rattle.journal.specs.Worlds.{station_of_at}
use Rattle.journal.proofs.Lifted.{from_owner, lawful_wire, looks_back, quiet}
use Rattle.journal.proofs.Headline.{exact, readable, station}
use Rattle.garage.specs.Inside.{settings_of, garage_value_of, Stands}
use Rattle.garage.specs.declared.garage.Garage.TheInside.{Inside}
use Rattle.garage.specs.declared.garage.Post.{Post}
use Rattle.garage.proofs.Standing.{lawful_now, post_is, post_table, settings_are, station_below}

-- a station's tables stand for its readings in the journal
pub tables : (a : Inside) (y : ℕ) → Stands a → y < a.stations → StandsFor (station_of_at (settings_of a) y) (setting_at (settings_of a) y).grant (table_at (state_of (garage_value_of a)) y) (readings_at y a.journal)
tables a y stands h = station (settings_of a) a.journal stands.fits y (within a y stands h)
  where
    within : (a : Inside) (y : ℕ) → Stands a → y < a.stations → y < length (settings_of a).stations
    within a y stands h = (let n = settings_are a stands in omega arith)

-- a post's station stands for its readings, and its lists have what was heard
pub reading_heard : (a : Inside) (y : ℕ) (x : Post) → Stands a → y < a.stations → x ≡ get_or a.posts.items y x
    → StandsFor (station_of_at (settings_of a) y) (setting_at (settings_of a) y).grant x.station (readings_at y a.journal)
    × ((n : ℕ) (k : Kind) → entries_under x.lists n k ≡ lists_heard (station_of_at (settings_of a) y) (readings_at y a.journal) n k)
reading_heard a y x stands below read = (
  subst (λ (s : StationValue). StandsFor (station_of_at (settings_of a) y) (setting_at (settings_of a) y).grant s (readings_at y a.journal)) (sym (post_table a y x stands below read)) (tables a y stands below),
  λ n k. ap (λ (p : Post). entries_under p.lists n k) (post_is a y x stands below read) ∙ stands.lists y n k below,
)

-- what is asked of the station on a post, at what callers see
pub shown_expected : (a : Inside) (v : GarageValue) (y n : ℕ) (k : Kind) (x : Post) (l : List Shown) → garage_value_of a ≡ v → Stands a → y < length v.settings.stations → x ≡ get_or a.posts.items y x → l ≡ entries_under x.lists n k
    → injected_of v.journal ≡ 0 → l ≡ shown_at v y n k
shown_expected a v y n k x l is stands h read e none =
    let below = station_below a v y is stands h in
    let h' : y < length (settings_of a).stations = subst (λ (g : GarageValue). y < length g.settings.stations) (sym is) h in
    let none' : injected_of a.journal ≡ 0 = ap (λ (g : GarageValue). injected_of g.journal) is ∙ none in
    e ∙ (ap (λ (p : Post). entries_under p.lists n k) (post_is a y x stands below read)
    ∙ (stands.lists y n k below ∙ (exact (settings_of a) a.journal stands.fits none' y h' n k ∙ ap (λ (g : GarageValue). shown_at g y n k) is)))

pub shown_heard : (a : Inside) (v : GarageValue) (y n : ℕ) (k : Kind) (x : Post) (l : List Shown) → garage_value_of a ≡ v → Stands a → y < length v.settings.stations → x ≡ get_or a.posts.items y x → l ≡ entries_under x.lists n k
    → l ≡ reverse (entries_heard (station_of_at v.settings y) n k (readings_at y v.journal))
shown_heard a v y n k x l is stands h read e =
    let below = station_below a v y is stands h in
    e ∙ (ap (λ (p : Post). entries_under p.lists n k) (post_is a y x stands below read) ∙ (stands.lists y n k below ∙ ap (λ (g : GarageValue). listed_at g y n k) is))

pub shown_quiet : (a : Inside) (v : GarageValue) (y n : ℕ) (k : Kind) (x : Post) (l : List Shown) → garage_value_of a ≡ v → Stands a → y < length v.settings.stations → x ≡ get_or a.posts.items y x → l ≡ entries_under x.lists n k
    → injected_of v.journal ≡ 0 → NoneMissed (path_at (state_of v) y) → l ≡ reverse (received_whole (station_of_at v.settings y) n k (state_of v).begun (path_at (state_of v) y))
shown_quiet a v y n k x l is stands h read e none whole =
    shown_expected a v y n k x l is stands h read e none ∙ quiet v (lawful_now a v is stands) none y h whole n k

pub path_looks_back : (a : Inside) (v : GarageValue) (y : ℕ) (m : Message) → garage_value_of a ≡ v → Stands a → y < length v.settings.stations → injected_of v.journal ≡ 0 → IsAmong m (state_of v).begun
    → (is_clear (station_of_at v.settings y) m (path_at (state_of v) y) ≡ true) ↔ IsOnClearPath (station_of_at v.settings y) m (path_at (state_of v) y)
path_looks_back a v y m is stands h none among = looks_back v (lawful_now a v is stands) none y h m among

pub missed_heard : (a : Inside) (v : GarageValue) (y n : ℕ) (x : Post) → garage_value_of a ≡ v → Stands a → y < length v.settings.stations → x ≡ get_or a.posts.items y x → n ≡ x.station.missed → n ≡ missed_count (readings_at y v.journal)
missed_heard a v y n x is stands h read e =
    let below = station_below a v y is stands h in
    e ∙ (ap (λ (s : StationValue). s.missed) (post_table a y x stands below read) ∙ ((tables a y stands below).missed ∙ ap (λ (g : GarageValue). missed_count (readings_at y g.journal)) is))

pub none_unread : (a : Inside) (v : GarageValue) (y n : ℕ) (x : Post) → garage_value_of a ≡ v → Stands a → y < length v.settings.stations → x ≡ get_or a.posts.items y x → n ≡ x.station.unread → injected_of v.journal ≡ 0 → n ≡ 0
none_unread a v y n x is stands h read e none =
    let h' : y < length (settings_of a).stations = subst (λ (g : GarageValue). y < length g.settings.stations) (sym is) h in
    let none' : injected_of a.journal ≡ 0 = ap (λ (g : GarageValue). injected_of g.journal) is ∙ none in
    e ∙ (ap (λ (s : StationValue). s.unread) (post_table a y x stands (station_below a v y is stands h) read) ∙ readable (settings_of a) a.journal stands.fits none' y h')

pub unread_heard : (a : Inside) (v : GarageValue) (y n : ℕ) (x : Post) → garage_value_of a ≡ v → Stands a → y < length v.settings.stations → x ≡ get_or a.posts.items y x → n ≡ x.station.unread → n ≡ unread_count (station_of_at v.settings y) (readings_at y v.journal)
unread_heard a v y n x is stands h read e =
    let below = station_below a v y is stands h in
    e ∙ (ap (λ (s : StationValue). s.unread) (post_table a y x stands below read) ∙ ((tables a y stands below).unread ∙ ap (λ (g : GarageValue). unread_count (station_of_at g.settings y) (readings_at y g.journal)) is))

pub row_known_heard : (a : Inside) (v : GarageValue) (y n : ℕ) (x : Post) (o : Option Row) → garage_value_of a ≡ v → Stands a → y < length v.settings.stations → x ≡ get_or a.posts.items y x
    → o ≡ row_of x.station.owners n (kept_under x.station.rows n) → option_map row_heard_as o ≡ row_heard (station_of_at v.settings y) n (readings_at y v.journal)
row_known_heard a v y n x o is stands h read e =
    let below = station_below a v y is stands h in
    row_as_heard (station_of_at (settings_of a) y) (setting_at (settings_of a) y).grant (table_at (state_of (garage_value_of a)) y) (readings_at y a.journal) n o
    (e ∙ ap (λ (s : StationValue). row_of s.owners n (kept_under s.rows n)) (post_table a y x stands below read)) (tables a y stands below)
    ∙ ap (λ (g : GarageValue). row_heard (station_of_at g.settings y) n (readings_at y g.journal)) is

-- the tables of a station on its post
pub kept_tables : (a : Inside) (v : GarageValue) (y : ℕ) (x : Post) → garage_value_of a ≡ v → Stands a → y < length v.settings.stations → x ≡ get_or a.posts.items y x
    → StandsFor (station_of_at v.settings y) (setting_at v.settings y).grant x.station (readings_at y v.journal)
kept_tables a v y x is stands h read =
    let below = station_below a v y is stands h in
    subst (λ (g : GarageValue). StandsFor (station_of_at g.settings y) (setting_at g.settings y).grant x.station (readings_at y g.journal)) is
    (subst (λ (s : StationValue). StandsFor (station_of_at (settings_of a) y) (setting_at (settings_of a) y).grant s (readings_at y a.journal)) (sym (post_table a y x stands below read)) (tables a y stands below))

pub wire_lawful : (a : Inside) → Stands a → injected_of a.journal ≡ 0 → IsLawfulTraffic (state_of (garage_value_of a)).begun (wire_of (state_of (garage_value_of a)))
wire_lawful a stands none = lawful_wire (garage_value_of a) stands.fits none

pub frame_from_owner : (a : Inside) (i : ℕ) → Stands a → injected_of a.journal ≡ 0 → IsFromOwner (state_of (garage_value_of a)) i
frame_from_owner a i stands none = from_owner (garage_value_of a) stands.fits none i
