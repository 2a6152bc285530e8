use Rattle.std.proofs.Common.{◌∙◌, sym}
use Rattle.script_run.specs.Telling.{seat_named}
use Rattle.script_run.proofs.Relaying.{no_seat_written}
use Rattle.script_run.proofs.line_reporter.write_no_seat.Goals as goal

pub returns-in-Some : goal.returns-in-Some
returns-in-Some g c =
    no_seat_written c.writeln.result (g.W.Write.contents c.args.writer.now) (g.W.Write.contents c.writeln.new.self) (seat_named c.args.line.now) c.in-Some.seat c.args.seats
    (sym c.seat_in.ensures ∙ c.in-Some.is) c.writeln.ensures.bytes
