use Rattle.std.proofs.Common.{[], ◌∷◌, ◌++◌, length, drop, Some, arith, lit<, lit≤, ap, sym, ◌∙◌}
use Rattle.candump_line.specs.Calendar.{clock_text}
use Rattle.candump_line.specs.LineText.{decimal_digits, micros_of_ticks}
use Rattle.candump_line.proofs.DateLemmas.{clock_sum, date_sum, day_small, days_read, micros_as, minute_most}
use Rattle.candump_line.proofs.LineLemmas.{not_some, some_same}
use Rattle.candump_line.proofs.TimeLemmas.{below_second, length-digits, value_of_digits, IsNumeral-digits}
use Rattle.candump_line.proofs.date.leading_date_micros.Goals as goal

pub returns-in_err-days-clause-reads : goal.returns-in_err-days-clause-reads
returns-in_err-days-clause-reads c = λ year month day hours minutes seconds digits ticks date clock e.
    absurd (rw c.in_err-days.was at (c.leading_days.ensures.reads year month day (32 ∷ clock_text hours minutes seconds digits ticks []) date (lit≤ tt) e))

pub returns-in_err-rest-clause-reads : goal.returns-in_err-rest-clause-reads
returns-in_err-rest-clause-reads c = λ year month day hours minutes seconds digits ticks date clock e.
    let d = rw c.in_ok-days.was at (c.leading_days.ensures.reads year month day (32 ∷ clock_text hours minutes seconds digits ticks []) date (lit≤ tt) e) in
    absurd (c.in_err-rest.ensures _ d.1)

pub returns-in_err-micros-clause-reads : goal.returns-in_err-micros-clause-reads
returns-in_err-micros-clause-reads c = λ year month day hours minutes seconds digits ticks date clock e.
    let d = rw c.in_ok-days.was at (c.leading_days.ensures.reads year month day (32 ∷ clock_text hours minutes seconds digits ticks []) date (lit≤ tt) e) in
    absurd (rw c.in_err-micros.was at (c.leading_day_micros.ensures.reads hours minutes seconds digits ticks [] clock (lit≤ tt) (ap (drop 1) (sym c.in_ok-rest.ensures ∙ d.1))))

pub returns-clause-reads : goal.returns-clause-reads
returns-clause-reads c = λ year month day hours minutes seconds digits ticks date clock e.
    let d = rw c.in_ok-days.was at (c.leading_days.ensures.reads year month day (32 ∷ clock_text hours minutes seconds digits ticks []) date (lit≤ tt) e) in
    let t = rw c.in_ok-micros.was at (c.leading_day_micros.ensures.reads hours minutes seconds digits ticks [] clock (lit≤ tt) (ap (drop 1) (sym c.in_ok-rest.ensures ∙ d.1))) in
    (date_sum _ _ _ _ d.0 t.0, ap length t.1)
