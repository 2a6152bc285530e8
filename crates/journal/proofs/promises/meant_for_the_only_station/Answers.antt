use Rattle.journal.proofs.Lifted.{meant}
use Rattle.journal.proofs.promises.meant_for_the_only_station.Goals as goal

pub returns : goal.returns
returns c = λ g fit none station one after before e t path tag first. meant g fit none station one after before e path t tag first
