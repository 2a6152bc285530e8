use Rattle.journal.proofs.Lifted.{looks_back}
use Rattle.journal.proofs.promises.clear_path_looks_back.Goals as goal

pub returns : goal.returns
returns c = looks_back
