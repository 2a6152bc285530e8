use Rattle.std.proofs.Common.{Some, ◌∙◌, ap}
use Rattle.candump_line.specs.Words.{words_of}
use Rattle.candump_line.proofs.FormLemmas.{says_at}
use Rattle.candump_line.proofs.FrontLemmas.{cut_time, none_some, some_one, time_read}
use Rattle.candump_line.proofs.read.read_timed.Goals as goal

pub returns-in_default : goal.returns-in_default
returns-in_default c = λ time rest bus micros words f e spells long laid form.
    absurd (rw c.in_default.is at (cut_time _ time rest micros c.split_once.result c.split_once.ensures.cases e spells))

pub returns-in-Some-read : goal.returns-in-Some-read
returns-in-Some-read c = λ time rest bus micros words f e spells long laid form.
    let cut = cut_time _ time rest micros (Some (c.in-Some.time, c.in-Some.rest)) c.in-Some.ensures.cases e spells in
    let told = time_read _ time micros c.read.result c.read.ensures.reads c.read.ensures.dated cut.0 spells in
    says_at _ _ _ _ _ (some_one c.read.result _ _ c.in-Some-read.is told) (c.read_seen.ensures bus words f long (ap words_of cut.1 ∙ laid) form)

pub returns-in-None : goal.returns-in-None
returns-in-None c = λ time rest bus micros words f e spells long laid form.
    let cut = cut_time _ time rest micros (Some (c.in-Some.time, c.in-Some.rest)) c.in-Some.ensures.cases e spells in
    absurd (none_some c.read.result micros c.in-None.is (time_read _ time micros c.read.result c.read.ensures.reads c.read.ensures.dated cut.0 spells))
