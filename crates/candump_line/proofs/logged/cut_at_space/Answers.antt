use Rattle.std.proofs.Common.{◌<◌, arith}
use Rattle.std.proofs.lemmas.List.Elements.{All-more}
use Rattle.candump_line.proofs.DigitLemmas.{mark_in_word, word_read, space_there}
use Rattle.candump_line.proofs.logged.cut_at_space.Goals as goal

pub loop-place-preserved : goal.loop-place-preserved
loop-place-preserved c = All-more (λ c. 32 < c) _ _ 0 c.loop-place-test.true c.loop-place.invariant (omega arith)

pub returns-then-byte-eq32-clause-reads_back : goal.returns-then-byte-eq32-clause-reads_back
returns-then-byte-eq32-clause-reads_back c = λ word rest seen e. word_read _ word rest _ seen e c.loop-place.invariant c.loop-place-test.true c.if-byte-eq32.true

pub returns-then-byte-lt32-clause-reads_back : goal.returns-then-byte-lt32-clause-reads_back
returns-then-byte-lt32-clause-reads_back c = λ word rest seen e. mark_in_word _ word rest _ seen e c.loop-place.invariant c.loop-place-test.true c.if-byte-lt32.true

pub returns-clause-reads_back : goal.returns-clause-reads_back
returns-clause-reads_back c = λ word rest seen e. space_there _ word rest _ e c.loop-place.invariant (omega arith)
