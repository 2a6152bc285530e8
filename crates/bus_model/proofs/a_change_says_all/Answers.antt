use Rattle.bus_model.proofs.Changes.{lists_follow, missed_follows, names_follow, row_follows, unread_follows}
use Rattle.bus_model.proofs.a_change_says_all.Goals as goal

pub returns-clause-row : goal.returns-clause-row
returns-clause-row c = row_follows

pub returns-clause-names : goal.returns-clause-names
returns-clause-names c = names_follow

pub returns-clause-lists : goal.returns-clause-lists
returns-clause-lists c = lists_follow

pub returns-clause-missed : goal.returns-clause-missed
returns-clause-missed c = missed_follows

pub returns-clause-unread : goal.returns-clause-unread
returns-clause-unread c = unread_follows
