-- What the handle of a live station owns: the boxed live station behind its pointer, and nothing where that is null.
use base.Fml.{Fml, ftrue}
use denote.RawPtr.{Ptr, block_ptr, null_ptr}
use Rattle.std.specs.contracts.impls.GlobalAllocator.TheImpl.{ghosts}
use Rattle.std_alloc.specs.Box.Ownership.{box_owns}
use Rattle.station_c.specs.contracts.listed_live.ListedLive.{the_row as Row}
use Rattle.station_c.specs.Held.{heap}

-- the boxed live station at a pointer
abbrev pub boxed_live : Ptr → Row.Denot → Fml
boxed_live at station = box_owns (ghosts.dealloc_token heap) Row at station

abbrev pub held_live : Ptr → Row.Denot → Fml
held_live (block_ptr b o) station = boxed_live (block_ptr b o) station
held_live null_ptr station = ftrue
