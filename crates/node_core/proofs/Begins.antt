use Rattle.std.proofs.Common.{◌≡◌, ℕ, List, refl}
use Rattle.transport.specs.Sending.{new_sending}
use Rattle.fault_memory.specs.Memory.{MemoryValue}
use Rattle.dm_messages.specs.View.{pgn_of_kind, payload_of}
use Rattle.dm_messages.specs.declared.kind.Kind.{Kind}
use Rattle.node_core.specs.declared.heard.Answer.TheVariants.{NotAsked}
use Rattle.node_core.specs.Deed.{Begins, heard_of, parts_begun, begin_answer, opened}

-- a message of the memory's payload begins
pub begins_with_memory : (payload : List ℕ) (kind : Kind) (memory : MemoryValue) (source dest : ℕ) → payload ≡ payload_of kind memory
    → begin_answer payload (record { kind = kind; source = source; dest = dest }) ≡ heard_of NotAsked (Begins kind memory source dest)
begins_with_memory payload kind memory source dest e = rw e refl

-- a session opens with it
pub opens_with_memory : (payload : List ℕ) (kind : Kind) (memory : MemoryValue) (dest : ℕ) → payload ≡ payload_of kind memory
    → record { kind = kind; sending = new_sending payload dest (pgn_of_kind kind) } ≡ opened kind memory dest
opens_with_memory payload kind memory dest e = rw e refl

-- the parts of the memory's payload
pub starts_with_memory : (payload : List ℕ) (kind : Kind) (memory : MemoryValue) (source dest : ℕ) → payload ≡ payload_of kind memory
    → parts_begun payload (pgn_of_kind kind) source dest ≡ parts_begun (payload_of kind memory) (pgn_of_kind kind) source dest
starts_with_memory payload kind memory source dest e = rw e refl
