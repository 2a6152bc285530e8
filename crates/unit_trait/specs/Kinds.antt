-- What a simulated unit of a kind does of its own.
use Rattle.std.specs.Prelude.{◌≡◌, Bool, true, false}
use Rattle.fault_memory.specs.Memory.{MemoryValue}
use Rattle.unit_trait.specs.declared.kind.UnitKind.{UnitKind}
use Rattle.unit_trait.specs.declared.kind.UnitKind.TheVariants.{Guarded, Flicker}

-- it clears and obeys, and wants to tell of its active codes
abbrev pub is_willing : UnitKind → Bool
is_willing Guarded = false
is_willing _ = true

-- its own work leaves the memory alone, but for a flicker's
abbrev pub MayWork : UnitKind → MemoryValue → MemoryValue → Type 0
MayWork (Flicker spn fmi) memory memory' = Unit {0}
MayWork _ memory memory' = memory' ≡ memory
