use Rattle.journal.proofs.Marking.{holdable}
use Rattle.journal.proofs.laws.commanded_addresses_can_be_held.Goals as goal

pub returns : goal.returns
returns c = holdable
