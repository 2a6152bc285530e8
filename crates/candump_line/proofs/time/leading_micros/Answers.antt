use Rattle.candump_line.specs.LineText.{decimal_digits}
use Rattle.std.proofs.Common.{length, drop, arith, ap, sym, ◌∙◌, ◌∷◌, ◌++◌, [], get_or, lit≤}
use Rattle.candump_line.proofs.TimeLemmas.{parts_of, at_seconds, at_fraction, length-fraction, fraction_told, number_at, fraction_bounds, fraction_direct}
use Rattle.candump_line.proofs.LineLemmas.{some_same}
use Rattle.candump_line.proofs.LoggedLemmas.{front_of_time}
use Rattle.candump_line.proofs.time.leading_micros.Goals as goal

pub returns-in_err-seconds-clause-reads : goal.returns-in_err-seconds-clause-reads
returns-in_err-seconds-clause-reads c = λ digits ticks rest three small ends e.
    let parts = parts_of digits ticks three small in
    absurd (rw c.in_err-seconds.was at (at_seconds _ rest _ digits ticks c.leading_number.ensures.reads_back parts e))

pub returns-in_err-fraction-clause-reads : goal.returns-in_err-fraction-clause-reads
returns-in_err-fraction-clause-reads c = λ digits ticks rest three small ends e.
    let parts = parts_of digits ticks three small in
    let one = rw c.in_ok-seconds.was at (at_seconds _ rest _ digits ticks c.leading_number.ensures.reads_back parts e) in
    absurd (c.in_err-fraction.ensures _ one.1)

pub returns-in_err-ticks-clause-reads : goal.returns-in_err-ticks-clause-reads
returns-in_err-ticks-clause-reads c = λ digits ticks rest three small ends e.
    let parts = parts_of digits ticks three small in
    let one = rw c.in_ok-seconds.was at (at_seconds _ rest _ digits ticks c.leading_number.ensures.reads_back parts e) in
    let two = ap (drop 1) (sym c.in_ok-fraction.ensures ∙ one.1) in
    absurd (rw c.in_err-ticks.was at (at_fraction _ rest _ digits ticks c.leading_number-2.ensures.reads_back parts ends two))

pub returns-in_err-micros-clause-reads : goal.returns-in_err-micros-clause-reads
returns-in_err-micros-clause-reads c = λ digits ticks rest three small ends e.
    let parts = parts_of digits ticks three small in
    let one = rw c.in_ok-seconds.was at (at_seconds _ rest _ digits ticks c.leading_number.ensures.reads_back parts e) in
    let two = ap (drop 1) (sym c.in_ok-fraction.ensures ∙ one.1) in
    let read = rw c.in_ok-ticks.was at (at_fraction _ rest _ digits ticks c.leading_number-2.ensures.reads_back parts ends two) in
    let behind = ap length read.1 in
    let count = length-fraction _ rest digits _ two in
    let told = fraction_told _ _ digits ticks _ c.fraction_micros.ensures.reads three parts (omega arith) read.0 in
    let none = c.in_err-micros.was in
    cc

pub returns-clause-reads : goal.returns-clause-reads
returns-clause-reads c = λ digits ticks rest three small ends e.
    let parts = parts_of digits ticks three small in
    let one = rw c.in_ok-seconds.was at (at_seconds _ rest _ digits ticks c.leading_number.ensures.reads_back parts e) in
    let two = ap (drop 1) (sym c.in_ok-fraction.ensures ∙ one.1) in
    let read = rw c.in_ok-ticks.was at (at_fraction _ rest _ digits ticks c.leading_number-2.ensures.reads_back parts ends two) in
    let behind = ap length read.1 in
    let count = length-fraction _ rest digits _ two in
    let told = fraction_told _ _ digits ticks _ c.fraction_micros.ensures.reads three parts (omega arith) read.0 in
    let micros = some_same _ _ _ told c.in_ok-micros.was in
    (omega (arith, one.0, micros, parts.whole), read.1)

pub returns-clause-front : goal.returns-clause-front
returns-clause-front c = front_of_time _ c.in_ok-seconds.rest.now c.in_ok-fraction.fraction.now _ c.in_ok-seconds.ensures.front c.in_ok-fraction.ensures c.in_ok-ticks.ensures.front

pub returns-in_err-seconds-clause-numeral : goal.returns-in_err-seconds-clause-numeral
returns-in_err-seconds-clause-numeral c = λ word rest digits ticks numeral short three small ends e.
    absurd (rw c.in_err-seconds.was at (c.leading_number.ensures.reads_back word (46 ∷ (decimal_digits digits ticks [] ++ rest)) numeral short (lit≤ tt) e))

pub returns-in_err-fraction-clause-numeral : goal.returns-in_err-fraction-clause-numeral
returns-in_err-fraction-clause-numeral c = λ word rest digits ticks numeral short three small ends e.
    let one = rw c.in_ok-seconds.was at (c.leading_number.ensures.reads_back word (46 ∷ (decimal_digits digits ticks [] ++ rest)) numeral short (lit≤ tt) e) in
    absurd (c.in_err-fraction.ensures _ one.1)

pub returns-in_err-ticks-clause-numeral : goal.returns-in_err-ticks-clause-numeral
returns-in_err-ticks-clause-numeral c = λ word rest digits ticks numeral short three small ends e.
    let one = rw c.in_ok-seconds.was at (c.leading_number.ensures.reads_back word (46 ∷ (decimal_digits digits ticks [] ++ rest)) numeral short (lit≤ tt) e) in
    let two = ap (drop 1) (sym c.in_ok-fraction.ensures ∙ one.1) in
    let bounds = fraction_bounds digits three in
    absurd (rw c.in_err-ticks.was at (number_at _ rest digits ticks _ c.leading_number-2.ensures.reads_back bounds.0 bounds.1 small ends two))

pub returns-in_err-micros-clause-numeral : goal.returns-in_err-micros-clause-numeral
returns-in_err-micros-clause-numeral c = λ word rest digits ticks numeral short three small ends e.
    let one = rw c.in_ok-seconds.was at (c.leading_number.ensures.reads_back word (46 ∷ (decimal_digits digits ticks [] ++ rest)) numeral short (lit≤ tt) e) in
    let two = ap (drop 1) (sym c.in_ok-fraction.ensures ∙ one.1) in
    let bounds = fraction_bounds digits three in
    let read = rw c.in_ok-ticks.was at (number_at _ rest digits ticks _ c.leading_number-2.ensures.reads_back bounds.0 bounds.1 small ends two) in
    let behind = ap length read.1 in
    let count = length-fraction _ rest digits _ two in
    let told = fraction_direct _ _ digits ticks _ c.fraction_micros.ensures.reads three small (omega arith) read.0 in
    let none = c.in_err-micros.was in
    absurd cc

pub returns-clause-numeral : goal.returns-clause-numeral
returns-clause-numeral c = λ word rest digits ticks numeral short three small ends e.
    let one = rw c.in_ok-seconds.was at (c.leading_number.ensures.reads_back word (46 ∷ (decimal_digits digits ticks [] ++ rest)) numeral short (lit≤ tt) e) in
    let two = ap (drop 1) (sym c.in_ok-fraction.ensures ∙ one.1) in
    let bounds = fraction_bounds digits three in
    let read = rw c.in_ok-ticks.was at (number_at _ rest digits ticks _ c.leading_number-2.ensures.reads_back bounds.0 bounds.1 small ends two) in
    let behind = ap length read.1 in
    let count = length-fraction _ rest digits _ two in
    let told = fraction_direct _ _ digits ticks _ c.fraction_micros.ensures.reads three small (omega arith) read.0 in
    let micros = some_same _ _ _ told c.in_ok-micros.was in
    (omega (arith, one.0, micros), read.1)

pub returns-clause-no_point : goal.returns-clause-no_point
returns-clause-no_point c = λ word rest numeral short ends other e.
    let one = rw c.in_ok-seconds.was at (c.leading_number.ensures.reads_back word rest numeral short ends e) in
    absurd (other (ap (λ t. get_or t 0 0) (sym one.1 ∙ c.in_ok-fraction.ensures)))
