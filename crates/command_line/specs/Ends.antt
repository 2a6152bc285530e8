use Rattle.program_io.specs.declared.fault.Fault.{Fault}
use Rattle.program_io.specs.declared.fault.Fault.TheVariants.{Read, Write, Memory, CommandLine}

-- a file cannot be opened or read, or memory ran out
abbrev pub IsOfFile : Fault → Type 0
IsOfFile Read = Unit {0}
IsOfFile Memory = Unit {0}
IsOfFile _ = ⊥

-- the words of the command line cannot be read or are refused, or memory ran out
abbrev pub IsOfWords : Fault → Type 0
IsOfWords CommandLine = Unit {0}
IsOfWords Memory = Unit {0}
IsOfWords _ = ⊥

-- so, or a page of help cannot be printed
abbrev pub IsOfPage : Fault → Type 0
IsOfPage Write = Unit {0}
IsOfPage fault = IsOfWords fault
