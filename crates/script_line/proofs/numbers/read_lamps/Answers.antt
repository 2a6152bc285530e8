use Rattle.std.proofs.Common.{ap, sym, Some}
use Rattle.script_line.specs.Spelled.{lamps_spelled}
use Rattle.script_line.proofs.SpellingLemmas.{hex_read}
use Rattle.script_line.proofs.numbers.read_lamps.Goals as goal

pub returns-in_err-number-clause-spelled : goal.returns-in_err-number-clause-spelled
unfolding lamps_spelled
returns-in_err-number-clause-spelled c =
    let read = hex_read 4 c.args.word.now c.read_hex.result c.read_hex.ensures.accepted c.read_hex.ensures.value in
    rw (sym read, c.in_err-number.was) c.from_residual.ensures

pub returns-clause-spelled : goal.returns-clause-spelled
unfolding lamps_spelled
returns-clause-spelled c =
    let read = hex_read 4 c.args.word.now c.read_hex.result c.read_hex.ensures.accepted c.read_hex.ensures.value in
    rw (sym read, c.in_ok-number.was) (ap Some c.from_bytes.ensures)
