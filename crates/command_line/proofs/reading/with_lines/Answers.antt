use Rattle.command_line.specs.CommandLine.{decode_shape, lines_app, watch_shape, wire_app}
use Rattle.command_line.proofs.reading.with_lines.Goals as goal

pub returns : goal.returns
returns c = c.with_one_more.ensures _ decode_shape
    (c.with_one_more-watching.ensures wire_app watch_shape c.with_wire.ensures c.command.ensures.shape c.command.ensures.local)
    c.command-2.ensures.shape c.command-2.ensures.local
