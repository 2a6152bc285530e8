use Rattle.journal.proofs.Headline.{exact}
use Rattle.journal.proofs.laws.shown_is_expected.Goals as goal

pub returns : goal.returns
returns c = exact
