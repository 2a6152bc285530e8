use Rattle.std.proofs.Common.{arith}
use Rattle.candump_line.proofs.LineLemmas.{padded_byte}
use Rattle.candump_line.proofs.logged.ByteDigitsDisplay.fmt.Goals as goal

pub returns-clause-writes : goal.returns-clause-writes
returns-clause-writes g c =
    rw (c.in_radix.ensures, c.laid_out.ensures, padded_byte c.args.self.now.0 (omega arith)) at c.write.ensures.writes
