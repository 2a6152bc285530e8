use Rattle.command_line.specs.CommandLine.{bench_app, lines_app, live_shape, tester_shape}
use Rattle.command_line.proofs.reading.bench_command.Goals as goal

pub returns : goal.returns
returns c = c.with_one_more.ensures _ tester_shape
    (c.with_one_more-lively.ensures lines_app live_shape c.with_lines.ensures c.command.ensures.shape c.command.ensures.local)
    c.command-2.ensures.shape c.command-2.ensures.local
