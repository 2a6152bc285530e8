use Rattle.std.proofs.Common.{◌≡◌, ◌∙◌, refl}
use Rattle.live_unit.proofs.aborting.refuse.Goals as goal

pub returns-clause-queue : goal.returns-clause-queue
returns-clause-queue c = c.put.ensures ∙ rw (c.plain.ensures, c.abort_of-abort.ensures, c.source_of-source.ensures) refl
