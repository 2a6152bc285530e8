-- How the fields of a garage stand for its journal.
use Rattle.std.specs.Prelude.{ℕ, ◌≡◌, ◌+◌, ◌*◌, ◌<◌, ◌≤◌, ◌^◌, List, [], map, length, slice_index_or}
use Rattle.bus_ledger.specs.BusValue.{seat_at}
use Rattle.bus_ledger.specs.Newcomers.{live_units}
use Rattle.journal.specs.State.{Settings, StationSetting, UnitState, table_at}
use Rattle.bus_ledger.specs.declared.bus.TheConstants.{MOST_STATIONS}
use Rattle.station_table.specs.Steps.{new_station}
use Rattle.dm_messages.specs.declared.kind.Kind.{Kind}
use Rattle.entry_lists.specs.Entries.{entries_under}
use Rattle.garage.specs.Opening.{nothing_set, setting_in, setting_value}
use Rattle.garage.specs.declared.opening.Setting.{Setting}
use Rattle.garage.specs.declared.garage.Post.{Post}
use Rattle.journal.specs.Journal.{GarageValue, state_of, AllFit, injected_of, joins, listed_at, tally_of}
use Rattle.journal.specs.declared.tally.Tally.{Tally}
use Rattle.node_core.specs.NodeValue.{new_node}
use Rattle.garage.specs.declared.garage.Place.{Place}
use Rattle.garage.specs.declared.garage.Garage.TheInside.{Inside}

-- how a station was opened
abbrev pub post_setting : Post → StationSetting
post_setting p = setting_value p.setting

-- what stands at the number of no station
abbrev pub no_post : Post
no_post = record { setting = nothing_set; station = new_station 0 0 0; lists = [] }

abbrev pub post_at : List Post → ℕ → Post
post_at posts y = slice_index_or posts y no_post

-- the posts of new stations with these settings
abbrev pub ArePostsOf : List Post → List Setting → ℕ → Type 0
ArePostsOf posts settings n =
    (length posts ≡ n)
    × ((y : ℕ) → y < n → post_at posts y ≡ record { setting = setting_in settings y; station = new_station (setting_in settings y).name (setting_in settings y).address (setting_in settings y).grant; lists = [] })

abbrev pub settings_of : Inside → Settings
settings_of g = record { stations = map post_setting g.posts.items; limit = g.limit }

abbrev pub garage_value_of : Inside → GarageValue
garage_value_of g = record { settings = settings_of g; journal = g.journal }

abbrev pub unit_of : Place → UnitState
unit_of p = record { node = p.node; session_message = p.session_message }

abbrev pub no_tally : Tally
no_tally = record { joined = 0; turned = 0; left = 0; events = 0 }

abbrev pub no_place : Place
no_place = record { node = new_node 0 0; session_message = 0; tally = no_tally }

abbrev pub place_at : List Place → ℕ → Place
place_at places k = slice_index_or places k no_place

-- bus, stations and units are as the journal leads to, the lists have what was heard, and the counts are those of the journal
pub record Stands (g : Inside) : Type 0 where
  pub few : g.limit ≤ 2 ^ 24
  pub traffic : g.bus.traffic ≡ (state_of (garage_value_of g)).traffic
  pub stations : g.stations ≡ length g.posts.items
  pub some : 0 < g.stations
  pub eight : g.stations ≤ MOST_STATIONS
  pub posts : (y : ℕ) → y < g.stations → (post_at g.posts.items y).station ≡ table_at (state_of (garage_value_of g)) y
  pub lists : (y n : ℕ) (k : Kind) → y < g.stations → entries_under (post_at g.posts.items y).lists n k ≡ listed_at (garage_value_of g) y n k
  pub units : map unit_of g.places.items ≡ (state_of (garage_value_of g)).units
  pub begun : g.begun ≡ length (state_of (garage_value_of g)).begun
  pub fits : AllFit (settings_of g) g.journal
  pub injected : g.injected ≡ injected_of g.journal
  pub joined : joins g.journal ≡ length g.places.items
  pub tallies : (k : ℕ) → k < length g.places.items → (place_at g.places.items k).tally ≡ tally_of (g.stations + k) g.journal
  pub fresh : (k : ℕ) → g.stations + length g.places.items ≤ k → tally_of k g.journal ≡ no_tally
  pub seats : length g.bus.traffic.seats ≡ length g.places.items + g.stations
  pub live : g.live ≡ live_units g.bus.traffic
  pub within : length g.journal + g.live ≤ g.limit
  pub wire : length g.bus.traffic.wire ≤ length g.journal
  pub queued : (k : ℕ) → (seat_at g.bus.traffic k).queued ≤ 256 * length g.journal + 1
  pub messages : g.begun ≤ length g.journal
  pub places : length g.places.items ≤ length g.journal
