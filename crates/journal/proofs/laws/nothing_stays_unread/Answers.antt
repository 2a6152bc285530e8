use Rattle.journal.proofs.Headline.{readable}
use Rattle.journal.proofs.laws.nothing_stays_unread.Goals as goal

pub returns : goal.returns
returns c = readable
