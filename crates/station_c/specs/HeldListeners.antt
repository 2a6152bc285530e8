-- What the handle of a listener owns: the boxed listener behind its pointer, and nothing where that is null.
use base.Fml.{Fml, ftrue}
use denote.RawPtr.{Ptr, block_ptr, null_ptr}
use Rattle.std.specs.contracts.impls.GlobalAllocator.TheImpl.{ghosts}
use Rattle.std_alloc.specs.Box.Ownership.{box_owns}
use Rattle.station_c.specs.Held.{heap}
use Rattle.station_c.specs.contracts.listed_listener.ListedListener.{the_row as Row}

-- the boxed listener at a pointer
abbrev pub boxed_listener : Ptr → Row.Denot → Fml
boxed_listener at listener = box_owns (ghosts.dealloc_token heap) Row at listener

abbrev pub held_listener : Ptr → Row.Denot → Fml
held_listener (block_ptr b o) listener = boxed_listener (block_ptr b o) listener
held_listener null_ptr listener = ftrue
