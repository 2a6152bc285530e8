-- What a hear and a begin look at.
use Rattle.std.specs.Prelude.{ℕ, ◌≡◌, Bool, List, Option, Some}
use Rattle.fault_memory.specs.Memory.{MemoryValue}
use Rattle.dm_messages.specs.declared.kind.Kind.TheVariants.{Dm1}
use Rattle.node_core.specs.NodeValue.{NodeValue, is_open}
use Rattle.node_core.specs.Beginning.{begins}
use Rattle.node_core.specs.declared.heard.Begun.{Begun as Message}
use Rattle.node_core.specs.declared.heard.Started.TheVariants.{Begun}
use Rattle.node_core.specs.declared.out.Out.{Out}
use Rattle.journal.specs.State.{unit_at}
use Rattle.journal.specs.Journal.{GarageValue, state_of}

-- the address that a unit holds
abbrev pub held_at : GarageValue → ℕ → Option ℕ
held_at g k = (unit_at (state_of g) k).node.claimer.held

-- whether a unit has a session of a DM1 open
abbrev pub has_open_dm1 : GarageValue → ℕ → Bool
has_open_dm1 g k = is_open (unit_at (state_of g) k).node.session Dm1

-- a unit of this value holds an address, and begins a DM1 of this memory with these frames
abbrev pub BeginsWith : NodeValue → MemoryValue → List Out → Type 0
BeginsWith node memory put =
    (source : ℕ) × (b : Message) × (node.claimer.held ≡ Some source) × (Begun b put ≡ begins node.session Dm1 memory source)
