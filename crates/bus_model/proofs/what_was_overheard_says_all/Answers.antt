use Rattle.bus_model.proofs.Follows.{gaps_overheard_follow, lists_overheard_follow, missed_overheard_follows, names_overheard_follow, row_overheard_follows, unread_overheard_follows}
use Rattle.bus_model.proofs.what_was_overheard_says_all.Goals as goal

pub returns-clause-row : goal.returns-clause-row
returns-clause-row c = row_overheard_follows

pub returns-clause-names : goal.returns-clause-names
returns-clause-names c = names_overheard_follow

pub returns-clause-lists : goal.returns-clause-lists
returns-clause-lists c = lists_overheard_follow

pub returns-clause-missed : goal.returns-clause-missed
returns-clause-missed c = missed_overheard_follows

pub returns-clause-gaps : goal.returns-clause-gaps
returns-clause-gaps c = gaps_overheard_follow

pub returns-clause-unread : goal.returns-clause-unread
returns-clause-unread c = unread_overheard_follows
