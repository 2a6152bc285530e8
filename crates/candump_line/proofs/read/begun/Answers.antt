use Rattle.std.proofs.Common.{Some, None}
use Rattle.candump_line.proofs.FrontLemmas.{trim_begun, unmarked}
use Rattle.candump_line.proofs.read.begun.Goals as goal

pub returns-in-Some : goal.returns-in-Some
returns-in-Some c = λ inner marked low. trim_begun inner _ _ (unmarked _ inner (Some c.in-Some.rest) marked low c.in-Some.ensures.cases) c.trim_ascii_start.ensures.value

pub returns-in-None : goal.returns-in-None
returns-in-None c = λ inner marked low. trim_begun inner _ _ (unmarked _ inner None marked low c.in-None.ensures.cases) c.trim_ascii_start-in-None.ensures.value
