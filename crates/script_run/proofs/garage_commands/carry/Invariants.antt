use Rattle.script_run.specs.Steps.{CarriesMany}
use Rattle.script_run.proofs.garage_commands.carry.Given as goal

abbrev pub invariant-loop-count : goal.invariant-loop-count
invariant-loop-count l = CarriesMany l.count l.fn.garage l.garage
