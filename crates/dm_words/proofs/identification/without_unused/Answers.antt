use Rattle.std.proofs.Common.{◌∙◌, arith}
use Rattle.dm_words.proofs.UnusedLemmas.{all_unused, none_unused, one_unused}
use Rattle.dm_words.proofs.identification.without_unused.Goals as goal

pub loop-last-preserved : goal.loop-last-preserved
loop-last-preserved c = one_unused c.loop-last.rest.now c.in-Some.front.now c.in-Some.last.now c.in-Some.ensures.cases (omega (arith, c.if-last.false)) ∙ c.loop-last.invariant

pub returns-then-last : goal.returns-then-last
returns-then-last c = none_unused c.loop-last.rest.now c.in-Some.front.now c.in-Some.last.now c.in-Some.ensures.cases c.if-last.true ∙ c.loop-last.invariant

pub returns-in_default : goal.returns-in_default
returns-in_default c = all_unused c.loop-last.rest.now c.in_default.ensures.cases ∙ c.loop-last.invariant
