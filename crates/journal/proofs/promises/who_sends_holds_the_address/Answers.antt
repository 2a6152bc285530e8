use Rattle.journal.proofs.Lifted.{from_owner}
use Rattle.journal.proofs.promises.who_sends_holds_the_address.Goals as goal

pub returns : goal.returns
returns c = from_owner
