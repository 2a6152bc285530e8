-- Before which commands a line may name a station.
use Rattle.std.specs.Prelude.{Bool, true, false}
use Rattle.script_line.specs.declared.command.Command.{Command}
use Rattle.script_line.specs.declared.command.Command.TheVariants as command

-- the commands before which a line may name a station
abbrev pub is_of_station : Command → Bool
is_of_station (command.Read most) = true
is_of_station (command.Ask receiver asked) = true
is_of_station (command.Command name address) = true
is_of_station (command.Shown name kind) = true
is_of_station (command.Row name) = true
is_of_station command.Stats = true
is_of_station command.Report = true
is_of_station _ = false
