-- How a unit of a vehicle begins on a real bus.
use Rattle.fault_memory.specs.Memory.{MemoryValue}
use Rattle.vehicle.specs.declared.live.LiveLine.{LiveLine}

-- the fault memory that a line of a vehicle's text describes
abbrev pub memory_wanted : LiveLine → MemoryValue
memory_wanted l = record { lamps = l.lamps; active = l.active.items; previous = l.previous.items; pending = l.pending.items }
