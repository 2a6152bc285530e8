use Rattle.command_line.specs.CommandLine.{check_shape, garage_app, log_shape, wire_app}
use Rattle.command_line.proofs.reading.with_wire.Goals as goal

pub returns : goal.returns
returns c = c.with_one_more.ensures _ check_shape
    (c.with_one_more-logging.ensures garage_app log_shape c.with_garage.ensures c.log_command.ensures.shape c.log_command.ensures.local)
    c.check_command.ensures.shape c.check_command.ensures.local
