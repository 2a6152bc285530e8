use Rattle.std.proofs.Common.{arith, refl}
use Rattle.std.proofs.lemmas.Int.Digits.{digits_more, digits_value_more}
use Rattle.candump_line.proofs.DigitLemmas.{value_of, rest_shorter, small_number, eleventh, numeral_read, numeral_too_long, number_told}
use Rattle.candump_line.proofs.digits.leading_number.Goals as goal

pub returns-then-not-is_ascii_digit-clause-reads_back : goal.returns-then-not-is_ascii_digit-clause-reads_back
returns-then-not-is_ascii_digit-clause-reads_back c = λ word rest numeral short ends e.
    let read = numeral_read _ word rest _ _ c.loop-place.invariant.digits c.loop-place.invariant.is (omega arith) (λ h. c.if-not-is_ascii_digit.ensures.value) numeral ends e in
    number_told _ _ _ _ _ word rest refl c.number_to.ensures read

pub returns-then-not-is_ascii_digit-clause-too_long : goal.returns-then-not-is_ascii_digit-clause-too_long
returns-then-not-is_ascii_digit-clause-too_long c = λ eleven. absurd (eleventh _ _ eleven c.loop-place.invariant.few c.if-not-is_ascii_digit.ensures.value)

pub returns-then-place-ge-MOST_DIGITS-clause-reads_back : goal.returns-then-place-ge-MOST_DIGITS-clause-reads_back
returns-then-place-ge-MOST_DIGITS-clause-reads_back c = λ word rest numeral short ends e.
    numeral_too_long _ word rest _ c.loop-place-test.true c.loop-place.invariant.digits
    c.if-not-is_ascii_digit.ensures.cases.0 c.if-not-is_ascii_digit.ensures.cases.1 c.if-place-ge-MOST_DIGITS.true short ends e

pub returns-clause-reads_back : goal.returns-clause-reads_back
returns-clause-reads_back c = λ word rest numeral short ends e.
    let read = numeral_read _ word rest _ _ c.loop-place.invariant.digits c.loop-place.invariant.is (omega arith) (λ h. absurd (omega arith)) numeral ends e in
    number_told _ _ _ _ _ word rest (omega arith) c.number_to-2.ensures read

pub returns-clause-too_long : goal.returns-clause-too_long
returns-clause-too_long c = λ eleven. let long = eleven.long in let few = c.loop-place.invariant.few in absurd (omega arith)

pub returns-then-not-is_ascii_digit-clause-shorter : goal.returns-then-not-is_ascii_digit-clause-shorter
returns-then-not-is_ascii_digit-clause-shorter c = rest_shorter _ _ _ _ (omega arith) c.number_to.ensures

pub returns-clause-shorter : goal.returns-clause-shorter
returns-clause-shorter c = rest_shorter _ _ _ _ (omega arith) c.number_to-2.ensures

pub loop-place-preserved : goal.loop-place-preserved
loop-place-preserved c =
    let low = c.if-not-is_ascii_digit.ensures.cases.0 in
    let high = c.if-not-is_ascii_digit.ensures.cases.1 in
    let last = value_of _ low high in
    let from = c.from.ensures in
    let before = c.loop-place.invariant.is in
    let digits = digits_more 10 _ _ c.loop-place-test.true c.loop-place.invariant.digits (omega (arith, last, low, high)) in
    let value = digits_value_more 10 _ _ c.loop-place-test.true in
    let few = c.if-place-ge-MOST_DIGITS.false in
    let small = small_number _ _ (omega arith) (omega arith) digits in
    record { digits = digits; is = omega (arith, value, last, low, high, before); few = omega arith; small = omega (arith, value, last, low, high, small, before) }
