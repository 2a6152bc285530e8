use Rattle.std.proofs.Common.{refl, sym}
use Rattle.script_line.specs.Grammar.{read_as}
use Rattle.script_line.proofs.SpellingLemmas.{hex_read}
use Rattle.script_line.proofs.SplitLemmas.{behind_ends}
use Rattle.script_line.proofs.frames.next_identifier.Goals as goal

pub returns-in_err-next_word-clause-read : goal.returns-in_err-next_word-clause-read
unfolding read_as
returns-in_err-next_word-clause-read c = rw (c.in_err-next_word.ensures.words.0, c.from_residual.ensures) refl

pub returns-clause-apart : goal.returns-clause-apart
returns-clause-apart c = rw c.in_ok-next_word.ensures.rest (behind_ends c.args.words.now.rest.now)

pub returns-clause-read : goal.returns-clause-read
unfolding read_as
returns-clause-read c =
    let read = hex_read 8 c.in_ok-next_word.field-0.now c.read_hex.result c.read_hex.ensures.accepted c.read_hex.ensures.value in
    rw (c.in_ok-next_word.ensures.words, sym read) refl
