use Rattle.std.proofs.Common.{◌<◌, length}
use Rattle.script_run.specs.Steps.{ReadsMany}
use Rattle.script_run.proofs.garage_commands.read.Given as goal

abbrev pub invariant-loop-count : goal.invariant-loop-count
invariant-loop-count l = ReadsMany l.station l.count l.fn.garage l.garage × l.station < length l.garage.settings.stations
