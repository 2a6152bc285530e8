use Rattle.std.proofs.Common.{refl}
use Rattle.script_line.specs.Grammar.{read_as}
use Rattle.script_line.proofs.read.next_asked.Goals as goal

pub returns-in_err-next_word : goal.returns-in_err-next_word
unfolding read_as
returns-in_err-next_word c = rw (c.in_err-next_word.ensures.words.0, c.from_residual.ensures) refl

pub returns : goal.returns
unfolding read_as
returns c = rw (c.in_ok-next_word.ensures.words, c.read_asked.ensures) refl
