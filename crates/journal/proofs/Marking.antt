-- A station's path is the wire as its readings in the journal mark it; and what an order that fits commands.
use Rattle.std.proofs.Common.{◌≡◌, ◌<◌, ◌≤◌, ℕ, Bool, true, false, List, length, Ok, Err, nat_lt, if◌then◌else◌, refl, subst}
use Rattle.std.proofs.lemmas.Bool.{ltb-false}
use Rattle.can_frame.specs.declared.reading.Reading.{Reading}
use Rattle.bus_model.specs.Machine.{World, start}
use Rattle.bus_model.specs.Marks.{IsMarkedBy}
use Rattle.bus_model.proofs.Marks.{path_marked}
use Rattle.bus_model.proofs.Whose.{numbers_run, numbers_start}
use Rattle.bus_model.proofs.Worlds.{law_start}
use Rattle.station_table.specs.Orders.{command_from}
use Rattle.station_table.specs.declared.error.StationError.TheVariants.{NotAnAddress}
use Rattle.journal.specs.Fits.{Fits}
use Rattle.journal.specs.Journal.{GarageValue, injected_of, readings_at, state_of}
use Rattle.journal.specs.Promises.{IsLawful, wire_of}
use Rattle.journal.specs.State.{State, path_at, setting_at, table_at}
use Rattle.journal.specs.Worlds.{stations_of, world_of, world_station}
use Rattle.journal.specs.declared.event.Event.TheVariants.{Ordered}
use Rattle.journal.specs.declared.order.Order.TheVariants.{Command}
use Rattle.journal.proofs.Headline.{at_after, law_after, names_in, world_after}
use Rattle.journal.proofs.Reaching.{reached}
use Rattle.journal.proofs.Readings.{path_readings, settings_fit}

pub marked_by : (g : GarageValue) → IsLawful g → injected_of g.journal ≡ 0 → (y : ℕ) → y < length g.settings.stations → IsMarkedBy y (readings_at y g.journal) (wire_of (state_of g)) (path_at (state_of g) y)
unfolding world_after
marked_by g fit none y h =
    let r = g.settings in
    let now = reached r g.journal fit none in
    let w : World = world_of r (state_of g) now.seats in
    let begins = law_start (stations_of r) (settings_fit r g.journal fit) in
    let numbers = numbers_run (names_in r) (start (stations_of r)) now.events w begins (numbers_start (names_in r) (stations_of r)) now.run in
    subst (λ (rs : List Reading). IsMarkedBy y rs (wire_of (state_of g)) (path_at (state_of g) y)) (path_readings r g.journal y fit h)
    (path_marked (names_in r) w y (world_station (state_of g) y (setting_at r y)) (law_after r g.journal fit none) numbers (at_after r g.journal fit none y h))

pub holdable : (s : State) (y name address : ℕ) → Fits s (Ordered y (Command name address)) → address ≤ 253
holdable s y name address fits = go (nat_lt 253 address) refl fits.1.1
  where
    go : (b : Bool) → nat_lt 253 address ≡ b → (if b then Err NotAnAddress else command_from (table_at s y).claimer.held name address) ≡ Ok fits.1.0 → address ≤ 253
    go true i e = absurd cc
    go false i e = ltb-false 253 address i
