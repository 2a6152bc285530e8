-- The entry that a reading lists, if it lists one: by the station's tables, and by what was heard before it.
use Rattle.std.specs.Prelude.{◌≡◌, ℕ, List, Option, Some, None, reverse}
use Rattle.bus_model.specs.Heard.{Entry, StationSettings, ended_by, entries_heard, entry_under}
use Rattle.bus_model.specs.declared.change.Change.{Change}
use Rattle.bus_model.specs.declared.change.Change.TheVariants.{Listed}
use Rattle.can_frame.specs.declared.reading.Reading.{Reading}
use Rattle.can_frame.specs.declared.reading.Reading.TheVariants.{Frame, Gap, Empty}
use Rattle.dm_messages.specs.View.{decoding}
use Rattle.dm_messages.specs.declared.kind.Kind.{Kind}
use Rattle.dm_messages.specs.declared.shown.Shown.{Shown}
use Rattle.entry_lists.specs.declared.entry.NewEntry.{NewEntry}
use Rattle.parameter_group.specs.Group.{Group, Diagnostic, DataTransfer, group_of}
use Rattle.reassembly.specs.Tables.{at}
use Rattle.station_table.specs.Changing.{ended_by_packet}
use Rattle.station_table.specs.StationValue.{StationValue}
use Rattle.station_table.specs.declared.ended.ReadMessage.{ReadMessage}

-- the entry of a message of this NAME and kind from this address, where it can be read
abbrev pub entry_if_read : ℕ → ℕ → Kind → Option Shown → Option NewEntry
entry_if_read source name kind None = None
entry_if_read source name kind (Some shown) = Some (record { name = name; kind = kind; source = source; shown = shown })

-- and of a message that ended, if one did
abbrev pub entry_of_ended : ℕ → Option Entry → Option NewEntry
entry_of_ended source None = None
entry_of_ended source (Some e) = entry_if_read source e.name e.kind (decoding e.bytes)

abbrev pub entry_of_read : ℕ → Option ReadMessage → Option NewEntry
entry_of_read source None = None
entry_of_read source (Some e) = entry_if_read source e.origin.owner e.origin.kind e.shown

-- the entry that a frame lists, by the tables
abbrev pub group_entry : StationValue → Group → Option NewEntry
group_entry s (Diagnostic kind source bytes) = entry_of_ended source (entry_under (at s.owners source) kind bytes)
group_entry s (DataTransfer source destination bytes) = entry_of_ended source (ended_by_packet s source destination bytes)
group_entry s _ = None

-- that a reading lists
abbrev pub reading_entry : StationValue → Reading → Option NewEntry
reading_entry s Empty = None
reading_entry s (Gap count) = None
reading_entry s (Frame f) = group_entry s (group_of f)

-- and the same by what was heard
abbrev pub group_entry_heard : StationSettings → Group → List Reading → Option NewEntry
group_entry_heard r (Diagnostic kind source bytes) older = entry_of_ended source (ended_by r (Diagnostic kind source bytes) older)
group_entry_heard r (DataTransfer source destination bytes) older = entry_of_ended source (ended_by r (DataTransfer source destination bytes) older)
group_entry_heard r _ older = None

abbrev pub entry_heard : StationSettings → Reading → List Reading → Option NewEntry
entry_heard r Empty older = None
entry_heard r (Gap count) older = None
entry_heard r (Frame f) older = group_entry_heard r (group_of f) older

-- each list that was heard, oldest first
abbrev pub lists_heard : StationSettings → List Reading → ℕ → Kind → List Shown
lists_heard r h name kind = reverse (entries_heard r name kind h)

-- a change says which list has one more entry, and from where that came
abbrev pub SaysEntry : Change → Option NewEntry → Type 0
SaysEntry (Listed name kind source) entry = (e : NewEntry) × (entry ≡ Some e) × (e.name ≡ name) × (e.kind ≡ kind) × (e.source ≡ source)
SaysEntry _ entry = entry ≡ None
