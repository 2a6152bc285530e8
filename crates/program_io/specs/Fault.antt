use Rattle.std.specs.Prelude.{ℕ}
use Rattle.program_io.specs.declared.fault.Fault.{Fault}
use Rattle.program_io.specs.declared.fault.Fault.TheVariants.{Read, Write, Memory, CommandLine, InputTooLong, NotUtf8, Vehicle, Texts, BadLines, Orders}

-- the exit status: 1 where the machine failed, 2 where what was given is refused, 3 where lines of it were bad, 4 where something that was asked for was not granted
abbrev pub status_of : Fault → ℕ
status_of Read = 1
status_of Write = 1
status_of Memory = 1
status_of CommandLine = 2
status_of InputTooLong = 2
status_of NotUtf8 = 2
status_of Vehicle = 2
status_of Texts = 2
status_of BadLines = 3
status_of Orders = 4

-- the input could not be read, or is refused as a whole
abbrev pub IsOfInput : Fault → Type 0
IsOfInput Read = Unit {0}
IsOfInput InputTooLong = Unit {0}
IsOfInput NotUtf8 = Unit {0}
IsOfInput Vehicle = Unit {0}
IsOfInput _ = ⊥
