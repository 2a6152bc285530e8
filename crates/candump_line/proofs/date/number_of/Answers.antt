use Rattle.std.proofs.Common.{length, arith, ap}
use Rattle.candump_line.proofs.TimeLemmas.{length-fraction, number_at}
use Rattle.candump_line.proofs.date.number_of.Goals as goal

pub returns-in_err-number-clause-reads : goal.returns-in_err-number-clause-reads
returns-in_err-number-clause-reads c = λ n rest some most small ends e.
    absurd (rw c.in_err-number.was at (number_at _ rest c.args.digits n c.leading_number.result c.leading_number.ensures.reads_back some most small ends e))

pub returns-then-text-rest-clause-reads : goal.returns-then-text-rest-clause-reads
returns-then-text-rest-clause-reads c = λ n rest some most small ends e.
    let read = rw c.in_ok-number.was at (number_at _ rest c.args.digits n c.leading_number.result c.leading_number.ensures.reads_back some most small ends e) in
    let behind = ap length read.1 in
    let count = length-fraction _ rest c.args.digits n e in
    c.if-text-rest.true (omega (arith, behind, count))

pub returns-clause-reads : goal.returns-clause-reads
returns-clause-reads c = λ n rest some most small ends e.
    rw c.in_ok-number.was at (number_at _ rest c.args.digits n c.leading_number.result c.leading_number.ensures.reads_back some most small ends e)
