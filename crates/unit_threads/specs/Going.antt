-- A garage that goes on from another.
use Rattle.std.specs.Prelude.{◌≡◌, ◌-◌, List, length, take}
use Rattle.journal.specs.Journal.{GarageValue}
use Rattle.journal.specs.declared.event.Event.{Event}
use Rattle.unit_threads.specs.Turns.{with_events}

-- the events of a garage that it has beyond another's, the newest first
abbrev pub events_since : GarageValue → GarageValue → List Event
events_since old new = take (length new.journal - length old.journal) new.journal

-- the settings are the same, and behind the newer events the journal has all the old ones
abbrev pub GoesOnFrom : GarageValue → GarageValue → Type 0
GoesOnFrom old new = new ≡ with_events (events_since old new) old
