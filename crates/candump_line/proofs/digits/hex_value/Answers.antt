use Rattle.std.proofs.Common.{arith, refl}
use Rattle.candump_line.proofs.DigitLemmas.{table_at, value_of_digit, value_of_none}
use Rattle.candump_line.proofs.digits.hex_value.Goals as goal

pub returns-clause-digit : goal.returns-clause-digit
returns-clause-digit c = λ h. value_of_digit _ _ (table_at _ c.args.character refl (omega arith)) h

pub returns-clause-other : goal.returns-clause-other
returns-clause-other c = λ h. value_of_none _ _ (table_at _ c.args.character refl (omega arith)) h
