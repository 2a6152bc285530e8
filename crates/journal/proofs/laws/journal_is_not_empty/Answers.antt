use Rattle.journal.proofs.Examples.{garage_of_each_kind, garage_of_takeover, shows_each_kind, takes_over}
use Rattle.journal.proofs.laws.journal_is_not_empty.Goals as goal

pub returns-clause-each_kind : goal.returns-clause-each_kind
returns-clause-each_kind c = (garage_of_each_kind, shows_each_kind)

pub returns-clause-takeover : goal.returns-clause-takeover
returns-clause-takeover c = (garage_of_takeover, takes_over)
