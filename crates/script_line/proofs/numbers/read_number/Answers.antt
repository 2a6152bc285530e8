use Rattle.std.proofs.Common.{◌<◌, ◌^◌, length, slice_index, Some, arith, ap, ◌∙◌}
use Rattle.std.specs.Char.{IsNotAsciiDigit}
use Rattle.std.proofs.lemmas.Grind.{common_steps}
use Rattle.script_line.proofs.NumberLemmas.{all_read, no_digit, too_large}
use Rattle.script_line.proofs.SpellingLemmas.{no_number, some_number}
use Rattle.script_line.proofs.numbers.read_number.Goals as goal

pub returns-then-is_empty-clause-spelled : goal.returns-then-is_empty-clause-spelled
returns-then-is_empty-clause-spelled c = no_number (2 ^ 32) c.args.word.now (λ h. grind arith)

pub returns-then-not-is_ascii_digit-clause-spelled : goal.returns-then-not-is_ascii_digit-clause-spelled
returns-then-not-is_ascii_digit-clause-spelled c =
    let word = c.args.word.now in
    let i = c.loop-byte.byte-index in
    let within : i < length word = grind arith in
    let other : IsNotAsciiDigit (slice_index word i) = grind (arith, common_steps) in
    no_number (2 ^ 32) word (λ h. no_digit (2 ^ 32) word i c.loop-byte.number within other c.loop-byte.invariant.read h)

pub returns-then-number-clause-spelled : goal.returns-then-number-clause-spelled
returns-then-number-clause-spelled c = no_number (2 ^ 32) c.args.word.now (λ h. grind (arith, too_large))

pub returns-clause-spelled : goal.returns-clause-spelled
returns-clause-spelled c =
    let word = c.args.word.now in
    let read = all_read (2 ^ 32) word c.loop-byte.byte-index c.loop-byte.number (grind arith) (grind arith) c.loop-byte.invariant.below c.loop-byte.invariant.read in
    ap Some read.1 ∙ some_number (2 ^ 32) word read.0
