use Rattle.candump_line.specs.LineText.{decimal_digits}
use Rattle.std.proofs.Common.{Some, [], inl, inr, length, append-nil, lit≤, refl, arith, ap, sym, ◌∙◌, lit<}
use Rattle.candump_line.proofs.TimeLemmas.{parts_of, ticks_of_micros, micros_of_micros, told_of, length-digits, IsNumeral-digits}
use Rattle.candump_line.proofs.time.Time.read.Goals as goal

pub returns-in-Some-clause-reads : goal.returns-in-Some-clause-reads
returns-in-Some-clause-reads c = λ digits ticks three small e.
    let parts = parts_of digits ticks three small in
    let read = c.in-Some.ensures.reads digits ticks [] three small (lit≤ tt) (c.as_bytes-text.ensures.value ∙ e ∙ sym (append-nil _)) in
    told_of _ _ _ c.whole_time.ensures (ap length read.1, omega (arith, read.0, parts.small)) ∙ ap Some read.0

pub returns-in-Some-clause-reads_back : goal.returns-in-Some-clause-reads_back
returns-in-Some-clause-reads_back c = λ n small e.
    let read = c.in-Some.ensures.reads 6 n [] (inr (inl refl)) small (lit≤ tt) (c.as_bytes-text.ensures.value ∙ e ∙ ticks_of_micros n ∙ sym (append-nil _)) in
    let same = read.0 ∙ micros_of_micros n in
    told_of _ _ _ c.whole_time.ensures (ap length read.1, omega (arith, same)) ∙ ap Some same

pub returns-in_err-micros-in-None-clause-reads : goal.returns-in_err-micros-in-None-clause-reads
returns-in_err-micros-in-None-clause-reads c = λ digits ticks three small e.
    absurd (c.in-None.ensures.reads digits ticks [] three small (lit≤ tt) (c.as_bytes-text.ensures.value ∙ e ∙ sym (append-nil _)))

pub returns-in_err-micros-in-None-clause-reads_back : goal.returns-in_err-micros-in-None-clause-reads_back
returns-in_err-micros-in-None-clause-reads_back c = λ n small e.
    absurd (c.in-None.ensures.reads 6 n [] (inr (inl refl)) small (lit≤ tt) (c.as_bytes-text.ensures.value ∙ e ∙ ticks_of_micros n ∙ sym (append-nil _)))

pub returns-in_ok-micros-in-None-clause-reads : goal.returns-in_ok-micros-in-None-clause-reads
returns-in_ok-micros-in-None-clause-reads c = λ digits ticks three small e.
    absurd (c.in-None.ensures.reads digits ticks [] three small (lit≤ tt) (c.as_bytes-text.ensures.value ∙ e ∙ sym (append-nil _)))

pub returns-in_ok-micros-in-None-clause-reads_back : goal.returns-in_ok-micros-in-None-clause-reads_back
returns-in_ok-micros-in-None-clause-reads_back c = λ n small e.
    absurd (c.in-None.ensures.reads 6 n [] (inr (inl refl)) small (lit≤ tt) (c.as_bytes-text.ensures.value ∙ e ∙ ticks_of_micros n ∙ sym (append-nil _)))

pub returns-in-Some-clause-dated : goal.returns-in-Some-clause-dated
returns-in-Some-clause-dated c = λ n h.
    let year = IsNumeral-digits 4 h.year (lit< tt) in
    let none = c.leading_micros.ensures.no_point (decimal_digits 4 h.year []) _ year (omega (arith, length-digits 4 h.year)) (lit≤ tt) (λ e. omega (arith, e)) (c.as_bytes-text.ensures.value ∙ h.laid) in
    let some = c.in-Some.is in
    absurd cc

pub returns-in_err-micros-in-None-clause-dated : goal.returns-in_err-micros-in-None-clause-dated
returns-in_err-micros-in-None-clause-dated c = λ n h.
    absurd (rw c.in_err-micros-in-None.was at (c.leading_date_micros.ensures.reads h.year h.month h.day h.hours h.minutes h.seconds h.digits h.ticks h.date h.clock (c.as_bytes-text.ensures.value ∙ h.laid)))

pub returns-in_ok-micros-in-None-clause-dated : goal.returns-in_ok-micros-in-None-clause-dated
returns-in_ok-micros-in-None-clause-dated c = λ n h.
    let read = rw c.in_ok-micros-in-None.was at (c.leading_date_micros.ensures.reads h.year h.month h.day h.hours h.minutes h.seconds h.digits h.ticks h.date h.clock (c.as_bytes-text.ensures.value ∙ h.laid)) in
    let told = read.0 ∙ h.told in
    told_of _ _ _ c.whole_time-in-None.ensures (read.1, omega (arith, told, h.small)) ∙ ap Some told
