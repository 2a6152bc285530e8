use Rattle.journal.proofs.Lifted.{lawful_wire}
use Rattle.journal.proofs.promises.traffic_is_lawful.Goals as goal

pub returns : goal.returns
returns c = lawful_wire
