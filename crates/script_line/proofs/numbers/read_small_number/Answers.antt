use Rattle.std.proofs.Common.{arith, ap, ◌∙◌, Some}
use Rattle.script_line.proofs.SpellingLemmas.{no_number, some_number}
use Rattle.script_line.proofs.numbers.read_small_number.Goals as goal

pub returns-in-Some-clause-spelled : goal.returns-in-Some-clause-spelled
returns-in-Some-clause-spelled c =
    let h = c.in-Some.ensures.value in
    ap Some h.1 ∙ some_number 256 c.args.word.now (h.0.0, omega (arith, h.1))

pub returns-in_default-clause-spelled : goal.returns-in_default-clause-spelled
returns-in_default-clause-spelled c = let h = c.in-Some.ensures.value in no_number 256 c.args.word.now (λ k. omega (arith, h.1, k.1))

pub returns-in_default-2-clause-spelled : goal.returns-in_default-2-clause-spelled
returns-in_default-2-clause-spelled c = no_number 256 c.args.word.now (λ k. c.in_default.ensures.value (k.0, omega (arith, k.1)))
