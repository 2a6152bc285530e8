use Rattle.std.proofs.Common.{◌<◌, ◌%◌, ◌^◌, arith}
use Rattle.candump_line.specs.LineText.{time_text}
use Rattle.candump_line.proofs.TimeLemmas.{six_digits}
use Rattle.candump_line.proofs.time.TimeDisplay.fmt.Goals as goal

pub returns-clause-writes : goal.returns-clause-writes
unfolding time_text
returns-clause-writes g c =
    let small : c.micros-micros.result % 10 ^ 6 < 10 ^ 6 = omega arith in
    rw (← c.micros-micros.ensures.value) (rw (c.laid_out.ensures, six_digits (c.micros-micros.result % 10 ^ 6) small) at c.write.ensures.writes)
