use Rattle.std.proofs.Common.{◌∙◌, ap, sym}
use Rattle.script_line.specs.Line.{script_words}
use Rattle.script_line.proofs.GrammarLemmas.{line_at, line_first, line_none, word_is, word_none}
use Rattle.script_line.proofs.read.read_line.Goals as goal

pub returns-in_err-keyword : goal.returns-in_err-keyword
returns-in_err-keyword c =
    rw c.from_residual.ensures (line_none c.args.line.now (word_none _ (ap script_words (sym c.of-words.ensures) ∙ c.in_err-keyword.ensures.words.0)))

pub returns-then-spells : goal.returns-then-spells
returns-then-spells c =
    let first = c.in_ok-keyword.keyword.now in
    c.read_of_station.ensures
    ∙ line_at c.args.line.now first _ (word_is _ first _ (ap script_words (sym c.of-words.ensures) ∙ c.in_ok-keyword.ensures.words)) (sym c.spells.ensures ∙ c.if-spells.true)

pub returns-in-Some : goal.returns-in-Some
returns-in-Some c =
    let first = c.in_ok-keyword.keyword.now in
    let all = line_first c.args.line.now first _ c.read_to_end.result (word_is _ first _ (ap script_words (sym c.of-words.ensures) ∙ c.in_ok-keyword.ensures.words)) (sym c.spells.ensures ∙ c.if-spells.false) c.read_to_end.ensures in
    rw c.in-Some.is at all

pub returns-in-None : goal.returns-in-None
returns-in-None c =
    let first = c.in_ok-keyword.keyword.now in
    let all = line_first c.args.line.now first _ c.read_to_end.result (word_is _ first _ (ap script_words (sym c.of-words.ensures) ∙ c.in_ok-keyword.ensures.words)) (sym c.spells.ensures ∙ c.if-spells.false) c.read_to_end.ensures in
    rw c.in-None.is at all
