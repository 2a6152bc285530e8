use Rattle.listener.proofs.Exact.{entries_sent}
use Rattle.listener.proofs.laws.entries_of_sent_lists_were_sent.Goals as goal

pub returns : goal.returns
returns c = entries_sent
