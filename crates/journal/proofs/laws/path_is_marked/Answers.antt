use Rattle.journal.proofs.Marking.{marked_by}
use Rattle.journal.proofs.laws.path_is_marked.Goals as goal

pub returns : goal.returns
returns c = marked_by
