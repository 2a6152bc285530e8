use Rattle.command_line.specs.CommandLine.{garage_app, named_app, script_shape, threads_shape}
use Rattle.command_line.proofs.reading.with_garage.Goals as goal

pub returns : goal.returns
returns c = c.with_one_more.ensures _ threads_shape
    (c.with_one_more-scripted.ensures named_app script_shape c.named.ensures c.script_command.ensures.shape c.script_command.ensures.local)
    c.command.ensures.shape c.command.ensures.local
