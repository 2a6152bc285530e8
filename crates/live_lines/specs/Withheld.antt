-- Which requests of the bus a unit answers beside its node, or does not let it hear.
use Rattle.std.specs.Prelude.{ℕ, ◌≡◌, ◌≢◌, ◌≤◌, ◌⊎◌, ◌<◌, Option, Some, length}
use Rattle.can_frame.specs.FrameValue.{FrameValue}
use Rattle.can_frame.specs.declared.address.TheConstants.{GLOBAL_ADDRESS, GREATEST_ADDRESS}
use Rattle.fault_memory.specs.Memory.{MemoryValue}
use Rattle.dm_messages.specs.View.{pgn_of_kind}
use Rattle.dm_messages.specs.declared.kind.Kind.TheVariants.{Dm1, Dm2, Dm6}
use Rattle.parameter_group.specs.Group.{ConnectionManagement, Request, group_of}
use Rattle.requests.specs.declared.request.Request.{Request as Asked}
use Rattle.transport.specs.declared.control.Control.TheVariants.{Rts}

-- a frame asks for this, of all or of who holds this address; who holds none is asked for nothing
abbrev pub IsAskedOf : Option ℕ → FrameValue → Asked → Type 0
IsAskedOf held f r =
    (own : ℕ) × (held ≡ Some own) × (group_of f ≡ Request r.pgn r.dest r.source) × ((r.dest ≡ GLOBAL_ADDRESS) ⊎ (r.dest ≡ own))

-- it asks who holds this address alone, and from an address to which a session may go
pub record IsAskedAlone (held : Option ℕ) (f : FrameValue) (r : Asked) : Type 0 where
  pub asked : IsAskedOf held f r
  pub alone : held ≡ Some r.dest
  pub other : r.source ≢ r.dest
  pub holdable : r.source ≤ GREATEST_ADDRESS

-- it asks who holds this address for a session of a group, from an address that can be held
pub record IsSessionAsked (held : Option ℕ) (f : FrameValue) (pgn source : ℕ) : Type 0 where
  pub own : ℕ
  pub size : ℕ
  pub packets : ℕ
  pub most : ℕ
  pub at : held ≡ Some own
  pub asks : group_of f ≡ ConnectionManagement source own (Rts size packets most pgn)
  pub holdable : source ≤ GREATEST_ADDRESS

-- a diagnostic message of this group has more than one code, so that it goes to one in a session
abbrev pub IsOfSeveral : MemoryValue → ℕ → Type 0
IsOfSeveral m pgn =
    ((pgn ≡ pgn_of_kind Dm1) × (1 < length m.active))
    ⊎ ((pgn ≡ pgn_of_kind Dm2) × (1 < length m.previous))
    ⊎ ((pgn ≡ pgn_of_kind Dm6) × (1 < length m.pending))
