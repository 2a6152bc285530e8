use Rattle.std.proofs.Common.{refl}
use Rattle.script_line.specs.Grammar.{number_or_one, read_as}
use Rattle.script_line.proofs.read.next_count.Goals as goal

pub returns-in-None : goal.returns-in-None
unfolding number_or_one
returns-in-None c = rw (c.in-None.ensures.words.0, c.in-None.ensures.words.1) refl

pub returns-in-Some : goal.returns-in-Some
unfolding number_or_one read_as
returns-in-Some c = rw (c.in-Some.ensures.words, c.read_number.ensures.spelled) refl
