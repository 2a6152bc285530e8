use Rattle.std.proofs.Common.{[], ◌∷◌, ◌++◌, length, drop, Some, arith, lit<, lit≤, ap, sym, ◌∙◌}
use Rattle.candump_line.specs.Calendar.{clock_text}
use Rattle.candump_line.specs.LineText.{decimal_digits, micros_of_ticks}
use Rattle.candump_line.proofs.DateLemmas.{clock_sum, date_sum, day_small, days_read, micros_as, minute_most}
use Rattle.candump_line.proofs.LineLemmas.{not_some, some_same}
use Rattle.candump_line.proofs.TimeLemmas.{below_second, length-digits, value_of_digits, IsNumeral-digits}
use Rattle.candump_line.proofs.date.leading_day_micros.Goals as goal

pub returns-in_err-hours-clause-reads : goal.returns-in_err-hours-clause-reads
returns-in_err-hours-clause-reads c = λ hours minutes seconds digits ticks rest clock ends e.
    absurd (rw c.in_err-hours.was at (c.number_before.ensures.reads hours (decimal_digits 2 minutes [] ++ 58 ∷ (decimal_digits 2 seconds [] ++ 46 ∷ (decimal_digits digits ticks [] ++ rest))) (lit< tt) (lit≤ tt) (omega (arith, clock.of_day)) (lit≤ tt) e))

pub returns-in_err-minutes-clause-reads : goal.returns-in_err-minutes-clause-reads
returns-in_err-minutes-clause-reads c = λ hours minutes seconds digits ticks rest clock ends e.
    let h = rw c.in_ok-hours.was at (c.number_before.ensures.reads hours (decimal_digits 2 minutes [] ++ 58 ∷ (decimal_digits 2 seconds [] ++ 46 ∷ (decimal_digits digits ticks [] ++ rest))) (lit< tt) (lit≤ tt) (omega (arith, clock.of_day)) (lit≤ tt) e) in
    absurd (rw c.in_err-minutes.was at (c.number_before-2.ensures.reads minutes (decimal_digits 2 seconds [] ++ 46 ∷ (decimal_digits digits ticks [] ++ rest)) (lit< tt) (lit≤ tt) (omega (arith, clock.of_hour)) (lit≤ tt) h.1))

pub returns-in_err-_seconds-clause-reads : goal.returns-in_err-_seconds-clause-reads
returns-in_err-_seconds-clause-reads c = λ hours minutes seconds digits ticks rest clock ends e.
    let h = rw c.in_ok-hours.was at (c.number_before.ensures.reads hours (decimal_digits 2 minutes [] ++ 58 ∷ (decimal_digits 2 seconds [] ++ 46 ∷ (decimal_digits digits ticks [] ++ rest))) (lit< tt) (lit≤ tt) (omega (arith, clock.of_day)) (lit≤ tt) e) in
    let m = rw c.in_ok-minutes.was at (c.number_before-2.ensures.reads minutes (decimal_digits 2 seconds [] ++ 46 ∷ (decimal_digits digits ticks [] ++ rest)) (lit< tt) (lit≤ tt) (omega (arith, clock.of_hour)) (lit≤ tt) h.1) in
    absurd (rw c.in_err-_seconds.was at (c.number_of.ensures.reads seconds (46 ∷ (decimal_digits digits ticks [] ++ rest)) (lit< tt) (lit≤ tt) (omega (arith, clock.of_minute)) (lit≤ tt) m.1))

pub returns-in_err-micros-clause-reads : goal.returns-in_err-micros-clause-reads
returns-in_err-micros-clause-reads c = λ hours minutes seconds digits ticks rest clock ends e.
    let h = rw c.in_ok-hours.was at (c.number_before.ensures.reads hours (decimal_digits 2 minutes [] ++ 58 ∷ (decimal_digits 2 seconds [] ++ 46 ∷ (decimal_digits digits ticks [] ++ rest))) (lit< tt) (lit≤ tt) (omega (arith, clock.of_day)) (lit≤ tt) e) in
    let m = rw c.in_ok-minutes.was at (c.number_before-2.ensures.reads minutes (decimal_digits 2 seconds [] ++ 46 ∷ (decimal_digits digits ticks [] ++ rest)) (lit< tt) (lit≤ tt) (omega (arith, clock.of_hour)) (lit≤ tt) h.1) in
    absurd (rw c.in_err-micros.was at (c.leading_micros.ensures.numeral (decimal_digits 2 seconds []) rest digits ticks (IsNumeral-digits 2 seconds (lit< tt)) (omega (arith, length-digits 2 seconds)) clock.fraction clock.small ends m.1))

pub returns-then-hours-gt23-clause-reads : goal.returns-then-hours-gt23-clause-reads
returns-then-hours-gt23-clause-reads c = λ hours minutes seconds digits ticks rest clock ends e.
    let h = rw c.in_ok-hours.was at (c.number_before.ensures.reads hours (decimal_digits 2 minutes [] ++ 58 ∷ (decimal_digits 2 seconds [] ++ 46 ∷ (decimal_digits digits ticks [] ++ rest))) (lit< tt) (lit≤ tt) (omega (arith, clock.of_day)) (lit≤ tt) e) in
    let many = c.if-hours-gt23.true in
    absurd (omega (arith, h.0, many, clock.of_day))

pub returns-then-minutes-gt59-clause-reads : goal.returns-then-minutes-gt59-clause-reads
returns-then-minutes-gt59-clause-reads c = λ hours minutes seconds digits ticks rest clock ends e.
    let h = rw c.in_ok-hours.was at (c.number_before.ensures.reads hours (decimal_digits 2 minutes [] ++ 58 ∷ (decimal_digits 2 seconds [] ++ 46 ∷ (decimal_digits digits ticks [] ++ rest))) (lit< tt) (lit≤ tt) (omega (arith, clock.of_day)) (lit≤ tt) e) in
    let m = rw c.in_ok-minutes.was at (c.number_before-2.ensures.reads minutes (decimal_digits 2 seconds [] ++ 46 ∷ (decimal_digits digits ticks [] ++ rest)) (lit< tt) (lit≤ tt) (omega (arith, clock.of_hour)) (lit≤ tt) h.1) in
    let many = c.if-minutes-gt59.true in
    absurd (omega (arith, m.0, many, clock.of_hour))

pub returns-then-micros-ge61000000-clause-reads : goal.returns-then-micros-ge61000000-clause-reads
returns-then-micros-ge61000000-clause-reads c = λ hours minutes seconds digits ticks rest clock ends e.
    let h = rw c.in_ok-hours.was at (c.number_before.ensures.reads hours (decimal_digits 2 minutes [] ++ 58 ∷ (decimal_digits 2 seconds [] ++ 46 ∷ (decimal_digits digits ticks [] ++ rest))) (lit< tt) (lit≤ tt) (omega (arith, clock.of_day)) (lit≤ tt) e) in
    let m = rw c.in_ok-minutes.was at (c.number_before-2.ensures.reads minutes (decimal_digits 2 seconds [] ++ 46 ∷ (decimal_digits digits ticks [] ++ rest)) (lit< tt) (lit≤ tt) (omega (arith, clock.of_hour)) (lit≤ tt) h.1) in
    let t = rw c.in_ok-micros.was at (c.leading_micros.ensures.numeral (decimal_digits 2 seconds []) rest digits ticks (IsNumeral-digits 2 seconds (lit< tt)) (omega (arith, length-digits 2 seconds)) clock.fraction clock.small ends m.1) in
    let micros = micros_as _ _ seconds (micros_of_ticks digits ticks) t.0 (value_of_digits 2 seconds (omega (arith, clock.of_minute))) in
    let most = minute_most _ seconds (micros_of_ticks digits ticks) micros clock.of_minute (below_second digits ticks clock.fraction clock.small) in
    let many = c.if-micros-ge61000000.true in
    absurd (omega (arith, most, many))

pub returns-clause-reads : goal.returns-clause-reads
returns-clause-reads c = λ hours minutes seconds digits ticks rest clock ends e.
    let h = rw c.in_ok-hours.was at (c.number_before.ensures.reads hours (decimal_digits 2 minutes [] ++ 58 ∷ (decimal_digits 2 seconds [] ++ 46 ∷ (decimal_digits digits ticks [] ++ rest))) (lit< tt) (lit≤ tt) (omega (arith, clock.of_day)) (lit≤ tt) e) in
    let m = rw c.in_ok-minutes.was at (c.number_before-2.ensures.reads minutes (decimal_digits 2 seconds [] ++ 46 ∷ (decimal_digits digits ticks [] ++ rest)) (lit< tt) (lit≤ tt) (omega (arith, clock.of_hour)) (lit≤ tt) h.1) in
    let t = rw c.in_ok-micros.was at (c.leading_micros.ensures.numeral (decimal_digits 2 seconds []) rest digits ticks (IsNumeral-digits 2 seconds (lit< tt)) (omega (arith, length-digits 2 seconds)) clock.fraction clock.small ends m.1) in
    let micros = micros_as _ _ seconds (micros_of_ticks digits ticks) t.0 (value_of_digits 2 seconds (omega (arith, clock.of_minute))) in
    (clock_sum _ _ _ hours minutes seconds (micros_of_ticks digits ticks) h.0 m.0 micros, t.1)
