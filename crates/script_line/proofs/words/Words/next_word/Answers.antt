use Rattle.std.proofs.Common.{◌≡◌, ◌<◌, [], length, arith, ap}
use Rattle.std.proofs.lemmas.Grind.{common_steps}
use Rattle.std.proofs.lemmas.Str.{IsCharBoundary-start}
use Rattle.script_line.specs.Line.{behind_word, first_word, is_space}
use Rattle.script_line.proofs.SplitLemmas.{words_left, words_more, words_none}
use Rattle.script_line.proofs.WordLemmas.{run_none, one_more_space, after_space}
use Rattle.script_line.proofs.words.Words.next_word.Goals as goal

-- a text may be cut at its start
pub loop-start-init : goal.loop-start-init
loop-start-init c =
    let line = c.as_bytes-bytes.result.now in
    record { cut = IsCharBoundary-start line c.as_bytes-bytes.ensures.utf8; spaces = run_none is_space line 0 (omega arith) }

-- and behind a space
pub loop-start-preserved : goal.loop-start-preserved
loop-start-preserved c =
    let line = c.as_bytes-bytes.result.now in
    record {
      cut = after_space line c.loop-start.start c.as_bytes-bytes.ensures.utf8 c.loop-start-test.true c.if-bytes-start-eq32.true;
      spaces = one_more_space line 0 c.loop-start.start c.loop-start-test.true c.if-bytes-start-eq32.true c.loop-start.invariant.spaces;
    }

pub returns-then-is_empty-clause-words : goal.returns-then-is_empty-clause-words
returns-then-is_empty-clause-words c =
    let line = c.args.self.now.rest.now in
    let none : first_word line ≡ [] = grind (arith, common_steps) in
    let rest : c.range_from-self.result.now ≡ behind_word line = grind (arith, common_steps) in
    (words_none line (ap length none), rw rest (words_left line (ap length none)))

pub returns-clause-words : goal.returns-clause-words
returns-clause-words c =
    let line = c.args.self.now.rest.now in
    let first : c.range-word.result.now ≡ first_word line = grind (arith, common_steps) in
    let rest : c.range_from-self.result.now ≡ behind_word line = grind (arith, common_steps) in
    let some : 0 < length (c.range-word.result.now) = grind (arith, common_steps) in
    rw (first, rest) (words_more line (rw first at some))
