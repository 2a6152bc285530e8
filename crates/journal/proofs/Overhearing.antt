-- What a listener beside the garage lists: its law, put to the world that the journal leads to.
use Rattle.std.proofs.Common.{◌≡◌, ℕ, List, true}
use Rattle.dm_messages.specs.declared.kind.Kind.{Kind}
use Rattle.bus_model.specs.Expected.{Reception, readings}
use Rattle.bus_model.specs.Messages.{IsAmong, Message}
use Rattle.bus_model.specs.Overheard.{entries_overheard}
use Rattle.bus_model.specs.OverheardClearPath.{IsOnListenersClearPath}
use Rattle.bus_model.specs.OverheardExpected.{AreSent, IsPathOfListener, expected_overheard, is_overheard}
use Rattle.bus_model.specs.declared.who.Who.{Who}
use Rattle.bus_model.specs.declared.who.Who.TheVariants.{Named}
use Rattle.bus_model.proofs.OverheardClear.{clear_to_overheard, overheard_to_clear}
use Rattle.bus_model.proofs.OverheardLaw.{listener_exact, listener_sent}
use Rattle.journal.specs.Journal.{GarageValue, injected_of, state_of}
use Rattle.journal.specs.Promises.{IsLawful, wire_of}
use Rattle.journal.specs.Worlds.{stations_of, world_of}
use Rattle.journal.proofs.Reaching.{reached}
use Rattle.journal.proofs.Readings.{settings_fit}

pub exact : (g : GarageValue) → IsLawful g → injected_of g.journal ≡ 0 → (path : List Reception) → IsPathOfListener (wire_of (state_of g)) path → (n : ℕ) (k : Kind)
    → entries_overheard (Named n) k (readings path) ≡ expected_overheard n k (state_of g).begun path
exact g fit none path listens n k =
    let now = reached g.settings g.journal fit none in
    listener_exact (stations_of g.settings) (settings_fit g.settings g.journal fit) now.events (world_of g.settings (state_of g) now.seats) now.run path listens n k

pub sent : (g : GarageValue) → IsLawful g → injected_of g.journal ≡ 0 → (path : List Reception) → IsPathOfListener (wire_of (state_of g)) path → (who : Who) (k : Kind)
    → AreSent k (state_of g).begun (entries_overheard who k (readings path))
sent g fit none path listens who k =
    let now = reached g.settings g.journal fit none in
    listener_sent (stations_of g.settings) (settings_fit g.settings g.journal fit) now.events (world_of g.settings (state_of g) now.seats) now.run path listens who k

pub to_clear : (g : GarageValue) → IsLawful g → injected_of g.journal ≡ 0 → (path : List Reception) → IsPathOfListener (wire_of (state_of g)) path → (m : Message) → IsAmong m (state_of g).begun → is_overheard m path ≡ true → IsOnListenersClearPath m path
to_clear g fit none path listens m among h =
    let now = reached g.settings g.journal fit none in
    overheard_to_clear (stations_of g.settings) (settings_fit g.settings g.journal fit) now.events (world_of g.settings (state_of g) now.seats) now.run path listens m among h

pub from_clear : (g : GarageValue) → IsLawful g → injected_of g.journal ≡ 0 → (path : List Reception) → IsPathOfListener (wire_of (state_of g)) path → (m : Message) → IsAmong m (state_of g).begun → IsOnListenersClearPath m path → is_overheard m path ≡ true
from_clear g fit none path listens m among h =
    let now = reached g.settings g.journal fit none in
    clear_to_overheard (stations_of g.settings) (settings_fit g.settings g.journal fit) now.events (world_of g.settings (state_of g) now.seats) now.run path listens m among h
