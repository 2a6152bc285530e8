-- What a handle owns: the boxed station behind its pointer, and nothing where that is null.
use Rattle.std.specs.Prelude.{Bool, true, false}
use base.Fml.{Fml, ftrue}
use denote.RawPtr.{Ptr, block_ptr, null_ptr}
use Rattle.std.specs.declared.alloc.Global.{Global}
use Rattle.std.specs.contracts.impls.GlobalAllocator.TheImpl.{ghosts}
use Rattle.std_alloc.specs.Box.Ownership.{box_owns}
use Rattle.station_c.specs.contracts.listed_station.ListedStation.{the_row as Row}

-- the allocator: what one `Global` allocated, each frees
abbrev pub heap : Global
heap = record { memory = record { seal = tt } }

-- the boxed station at a pointer
abbrev pub boxed : Ptr → Row.Denot → Fml
boxed at station = box_owns (ghosts.dealloc_token heap) Row at station

-- whether there is a station behind a pointer
abbrev pub is_there : Ptr → Bool
is_there (block_ptr b o) = true
is_there null_ptr = false

abbrev pub held : Ptr → Row.Denot → Fml
held (block_ptr b o) station = boxed (block_ptr b o) station
held null_ptr station = ftrue
