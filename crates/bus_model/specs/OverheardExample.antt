-- What two runs of the machine show a listener: in the first an entry in each way, under a NAME where it read its claim, and under nobody's
-- where it began after that; in the second a session that the station lists, though it aborted it, and the listener does not.
use Rattle.std.specs.Prelude.{◌≡◌, ℕ, List, [], ◌∷◌, length}
use Rattle.can_frame.specs.declared.address.TheConstants.{GLOBAL_ADDRESS}
use Rattle.dm_messages.specs.View.{view}
use Rattle.dm_messages.specs.declared.kind.Kind.{Kind}
use Rattle.dm_messages.specs.declared.kind.Kind.TheVariants.{Dm1, Dm2}
use Rattle.fault_memory.specs.Memory.{MemoryValue, new_memory}
use Rattle.bus_model.specs.Example.{example_settings, faulty_memory}
use Rattle.bus_model.specs.Expected.{Reception, Received, readings}
use Rattle.bus_model.specs.Heard.{entries_heard}
use Rattle.bus_model.specs.Machine.{IsAt, Station, World}
use Rattle.bus_model.specs.Overheard.{EntrySent, entries_overheard}
use Rattle.bus_model.specs.OverheardExpected.{IsPathOfListener}
use Rattle.bus_model.specs.Traffic.{Item}
use Rattle.bus_model.specs.declared.who.Who.{Who}
use Rattle.bus_model.specs.declared.who.Who.TheVariants.{Named, Unclaimed}

-- a listener that reads each of these frames
abbrev pub all_read : List Item → List Reception
all_read [] = []
all_read (e ∷ older) = Received e ∷ all_read older

-- one that began after the oldest, and reads each later one
abbrev pub all_after_first : List Item → List Reception
all_after_first [] = []
all_after_first (e ∷ []) = []
all_after_first (e ∷ d ∷ older) = Received e ∷ all_after_first (d ∷ older)

-- an entry that went to this address
abbrev pub entry_to : ℕ → Kind → MemoryValue → EntrySent
entry_to d k memory = record { to = d; shown = view k memory }

-- of that one the listener lists a DM1 to all in one frame, then one by broadcast, and a DM2 by session with 249
pub record ListsEachWay (who : Who) (path : List Reception) : Type 0 where
  pub single_and_broadcast : entries_overheard who Dm1 (readings path) ≡ entry_to GLOBAL_ADDRESS Dm1 faulty_memory ∷ entry_to GLOBAL_ADDRESS Dm1 new_memory ∷ []
  pub session : entries_overheard who Dm2 (readings path) ≡ entry_to 249 Dm2 faulty_memory ∷ []

-- of NAME 5 one that read its claim, and under nobody's one that began after it, which lists nothing under that NAME
pub record IsOverheardEachWay (w : World) : Type 0 where
  pub begun : length w.begun ≡ 3
  pub listens : IsPathOfListener w.wire (all_read w.wire)
  pub named : ListsEachWay (Named 5) (all_read w.wire)
  pub listens_late : IsPathOfListener w.wire (all_after_first w.wire)
  pub unclaimed : ListsEachWay (Unclaimed 0 0) (all_after_first w.wire)
  pub no_name : entries_overheard (Named 5) Dm1 (readings (all_after_first w.wire)) ≡ []

-- of NAME 5 a DM2 by session at the station, and none at a listener that misses nothing
pub record IsNotOverheard (w : World) : Type 0 where
  pub station : Station
  pub only : IsAt w 0 station
  pub listed : entries_heard example_settings 5 Dm2 (readings station.path) ≡ view Dm2 faulty_memory ∷ []
  pub listens : IsPathOfListener w.wire (all_read w.wire)
  pub nothing : entries_overheard (Named 5) Dm2 (readings (all_read w.wire)) ≡ []
