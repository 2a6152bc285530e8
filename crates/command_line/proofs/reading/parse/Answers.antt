use Rattle.std.proofs.Common.{Err, inl, inr, ap}
use Rattle.command_line.proofs.LineLemmas.{names_job, no_fault, on_ok, only_help, only_memory}
use Rattle.command_line.proofs.reading.parse.Goals as goal

pub returns-in-Ok-clause-taken : goal.returns-in-Ok-clause-taken
returns-in-Ok-clause-taken c =
    on_ok c.job_of.result (no_fault c.in_ok-command.command _ c.in_ok-command.ensures c.in-Ok.ensures.kinds)

pub returns-in-Ok-clause-script : goal.returns-in-Ok-clause-script
returns-in-Ok-clause-script c = λ asks.
    inl (c.job_of.ensures.script.1 (names_job c.in_ok-command.command _ c.in-Ok.matches c.in_ok-command.ensures (λ simple. (c.in-Ok.ensures.matches simple).1) asks))

pub returns-in-Err-clause-help : goal.returns-in-Err-clause-help
returns-in-Err-clause-help c = λ is.
    only_help c.in_ok-command.command _ c.in-Err.error c.in_ok-command.ensures c.in-Err.ensures.kinds (c.fault_of.ensures.help is)

pub returns-in-Err-clause-script : goal.returns-in-Err-clause-script
returns-in-Err-clause-script c = λ asks.
    inr (ap Err (c.fault_of.ensures.memory (only_memory c.in_ok-command.command _ c.in-Err.error c.in_ok-command.ensures c.in-Err.ensures.passes asks)))
