use Rattle.journal.proofs.Lifted.{keeps_adds}
use Rattle.journal.proofs.promises.lists_only_grow.Goals as goal

pub returns : goal.returns
returns c = keeps_adds
