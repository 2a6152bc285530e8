-- Where the journal is full.
use Rattle.std.specs.Prelude.{◌+◌, ◌<◌, length}
use Rattle.bus_ledger.specs.Newcomers.{live_units}
use Rattle.journal.specs.Journal.{GarageValue, state_of}

-- one event more, and a leave of each live unit, would be more than the limit
abbrev pub IsFull : GarageValue → Type 0
IsFull g = g.settings.limit < length g.journal + 1 + live_units (state_of g).traffic

-- a join, and a leave of each live unit and of the new one, would be more than the limit
abbrev pub IsFullForJoin : GarageValue → Type 0
IsFullForJoin g = g.settings.limit < length g.journal + 2 + live_units (state_of g).traffic
