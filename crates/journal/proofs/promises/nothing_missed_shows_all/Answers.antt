use Rattle.journal.proofs.Lifted.{quiet}
use Rattle.journal.proofs.promises.nothing_missed_shows_all.Goals as goal

pub returns : goal.returns
returns c = quiet
