-- What comes of beginning a message of one's own accord.
use Rattle.std.specs.Prelude.{ℕ, ◌≤◌, Option, length, if◌then◌else◌}
use Rattle.can_frame.specs.declared.address.TheConstants.{GLOBAL_ADDRESS}
use Rattle.fault_memory.specs.Memory.{MemoryValue}
use Rattle.dm_messages.specs.View.{pgn_of_kind, payload_of}
use Rattle.dm_messages.specs.declared.kind.Kind.{Kind}
use Rattle.node_core.specs.NodeValue.{is_open}
use Rattle.node_core.specs.Deed.{parts_begun}
use Rattle.node_core.specs.declared.session.OpenSession.{OpenSession}
use Rattle.node_core.specs.declared.heard.Started.{Started}
use Rattle.node_core.specs.declared.heard.Started.TheVariants.{Held, Begun}

-- a unit that holds `source` begins a message of that kind to all, unless a session of that kind is open
abbrev pub begins : Option OpenSession → Kind → MemoryValue → ℕ → Started
begins session kind memory source =
    if is_open session kind then Held
    else Begun (record { kind = kind; source = source; dest = GLOBAL_ADDRESS }) (parts_begun (payload_of kind memory) (pgn_of_kind kind) source GLOBAL_ADDRESS)

-- the frames are at most 256: the announcement and 255 packets
abbrev pub IsFew : Started → Type 0
IsFew Held = Unit {0}
IsFew (Begun begun put) = length put ≤ 256
