use Rattle.std.proofs.Common.{append_assoc}
use Rattle.candump_line.specs.LineText.{line_text}
use Rattle.candump_line.proofs.logged.write_line.Goals as goal

pub returns : goal.returns
unfolding line_text
returns g c = simp append_assoc (rw (← c.id-id.ensures) c.writeln.ensures.bytes)
