use Rattle.listener.proofs.Entering.{whole_lists_same}
use Rattle.listener.proofs.laws.whole_entries_are_what_was_overheard.Goals as goal

pub returns : goal.returns
returns c = whole_lists_same
