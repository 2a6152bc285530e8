use Rattle.std.proofs.Common.{[], ◌∷◌, ◌++◌, length, drop, Some, arith, lit<, lit≤, ap, sym, ◌∙◌}
use Rattle.candump_line.specs.Calendar.{clock_text}
use Rattle.candump_line.specs.LineText.{decimal_digits, micros_of_ticks}
use Rattle.candump_line.proofs.DateLemmas.{clock_sum, date_sum, day_small, days_read, micros_as, minute_most}
use Rattle.candump_line.proofs.LineLemmas.{not_some, some_same}
use Rattle.candump_line.proofs.TimeLemmas.{below_second, length-digits, value_of_digits, IsNumeral-digits}
use Rattle.candump_line.proofs.date.leading_days.Goals as goal

pub returns-in_err-year-clause-reads : goal.returns-in_err-year-clause-reads
returns-in_err-year-clause-reads c = λ year month day rest date ends e.
    absurd (rw c.in_err-year.was at (c.number_before.ensures.reads year (decimal_digits 2 month [] ++ 45 ∷ (decimal_digits 2 day [] ++ rest)) (lit< tt) (lit≤ tt) (omega (arith, date.to)) (lit≤ tt) e))

pub returns-in_err-month-clause-reads : goal.returns-in_err-month-clause-reads
returns-in_err-month-clause-reads c = λ year month day rest date ends e.
    let y = rw c.in_ok-year.was at (c.number_before.ensures.reads year (decimal_digits 2 month [] ++ 45 ∷ (decimal_digits 2 day [] ++ rest)) (lit< tt) (lit≤ tt) (omega (arith, date.to)) (lit≤ tt) e) in
    absurd (rw c.in_err-month.was at (c.number_before-2.ensures.reads month (decimal_digits 2 day [] ++ rest) (lit< tt) (lit≤ tt) (omega (arith, date.of_year.1)) (lit≤ tt) y.1))

pub returns-in_err-day-clause-reads : goal.returns-in_err-day-clause-reads
returns-in_err-day-clause-reads c = λ year month day rest date ends e.
    let y = rw c.in_ok-year.was at (c.number_before.ensures.reads year (decimal_digits 2 month [] ++ 45 ∷ (decimal_digits 2 day [] ++ rest)) (lit< tt) (lit≤ tt) (omega (arith, date.to)) (lit≤ tt) e) in
    let m = rw c.in_ok-month.was at (c.number_before-2.ensures.reads month (decimal_digits 2 day [] ++ rest) (lit< tt) (lit≤ tt) (omega (arith, date.of_year.1)) (lit≤ tt) y.1) in
    absurd (rw c.in_err-day.was at (c.number_of.ensures.reads day rest (lit< tt) (lit≤ tt) (omega (arith, day_small year month day date)) ends m.1))

pub returns-in-Some-clause-reads : goal.returns-in-Some-clause-reads
returns-in-Some-clause-reads c = λ year month day rest date ends e.
    let y = rw c.in_ok-year.was at (c.number_before.ensures.reads year (decimal_digits 2 month [] ++ 45 ∷ (decimal_digits 2 day [] ++ rest)) (lit< tt) (lit≤ tt) (omega (arith, date.to)) (lit≤ tt) e) in
    let m = rw c.in_ok-month.was at (c.number_before-2.ensures.reads month (decimal_digits 2 day [] ++ rest) (lit< tt) (lit≤ tt) (omega (arith, date.of_year.1)) (lit≤ tt) y.1) in
    let d = rw c.in_ok-day.was at (c.number_of.ensures.reads day rest (lit< tt) (lit≤ tt) (omega (arith, day_small year month day date)) ends m.1) in
    (some_same _ _ _ (days_read _ _ _ year month day _ y.0 m.0 d.0 date c.days_to.ensures.days) c.in-Some.is, d.1)

pub returns-in-None-clause-reads : goal.returns-in-None-clause-reads
returns-in-None-clause-reads c = λ year month day rest date ends e.
    let y = rw c.in_ok-year.was at (c.number_before.ensures.reads year (decimal_digits 2 month [] ++ 45 ∷ (decimal_digits 2 day [] ++ rest)) (lit< tt) (lit≤ tt) (omega (arith, date.to)) (lit≤ tt) e) in
    let m = rw c.in_ok-month.was at (c.number_before-2.ensures.reads month (decimal_digits 2 day [] ++ rest) (lit< tt) (lit≤ tt) (omega (arith, date.of_year.1)) (lit≤ tt) y.1) in
    let d = rw c.in_ok-day.was at (c.number_of.ensures.reads day rest (lit< tt) (lit≤ tt) (omega (arith, day_small year month day date)) ends m.1) in
    absurd (not_some (sym c.in-None.is ∙ (days_read _ _ _ year month day _ y.0 m.0 d.0 date c.days_to.ensures.days)))
