use Rattle.candump_line.proofs.DigitLemmas.{no_numeral}
use Rattle.candump_line.proofs.dropped.count_of.Goals as goal

pub returns-then-not-is_ascii_digit-clause-counted : goal.returns-then-not-is_ascii_digit-clause-counted
returns-then-not-is_ascii_digit-clause-counted c = λ numeral small. absurd (no_numeral _ _ c.loop-byte-test.true c.if-not-is_ascii_digit.ensures.value numeral)

pub returns-then-not-is_ascii_digit-clause-most : goal.returns-then-not-is_ascii_digit-clause-most
returns-then-not-is_ascii_digit-clause-most c = λ numeral great. absurd (no_numeral _ _ c.loop-byte-test.true c.if-not-is_ascii_digit.ensures.value numeral)
