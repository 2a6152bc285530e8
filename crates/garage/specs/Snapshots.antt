-- What a snapshot tells of a NAME.
use Rattle.std.specs.Prelude.{ℕ, ◌-◌, List, Option, length, slice_get}
use Rattle.std.specs.Option.{option_map}
use Rattle.dm_messages.specs.declared.kind.Kind.TheVariants.{Dm1, Dm2, Dm6}
use Rattle.dm_messages.specs.declared.shown.Shown.{Shown}
use Rattle.bus_model.specs.Heard.{row_heard, address_in_row}
use Rattle.journal.specs.Journal.{GarageValue, listed_at, readings_at}
use Rattle.journal.specs.Worlds.{station_of_at}
use Rattle.garage.specs.declared.snapshot.Newest.{Newest}
use Rattle.garage.specs.declared.snapshot.RowLine.{RowLine}

-- an entry's lamps and how many codes it has
abbrev pub told : Shown → Newest
told entry = record { lamps = entry.lamps; codes = length entry.codes }

-- of the last of the entries, where there is one
abbrev pub newest_of : List Shown → Option Newest
newest_of entries = option_map told (slice_get entries (length entries - 1))

-- the address that a station heard of the NAME, the entries that it lists under it, and the newest of its DM1 entries
abbrev pub line_at : GarageValue → ℕ → ℕ → RowLine
line_at g y name = record {
  name = name;
  address = address_in_row (row_heard (station_of_at g.settings y) name (readings_at y g.journal));
  dm1 = length (listed_at g y name Dm1);
  dm2 = length (listed_at g y name Dm2);
  dm6 = length (listed_at g y name Dm6);
  newest = newest_of (listed_at g y name Dm1);
}

-- at station 0
abbrev pub line_of : GarageValue → ℕ → RowLine
line_of g name = line_at g 0 name
