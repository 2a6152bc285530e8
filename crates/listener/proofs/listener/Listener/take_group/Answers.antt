use Rattle.parameter_group.specs.Said.{said}
use Rattle.listener.proofs.Calls.{group_heard_if_ok, group_listed_on_ok, group_says_if_ok, group_stands_on_ok}
use Rattle.listener.proofs.listener.Listener.take_group.Goals as goal

pub returns-clause-heard : goal.returns-clause-heard
returns-clause-heard g c = group_heard_if_ok c.hear_group.result c.args.self.now (said c.args.group.now) c.hear_group.ensures.change

pub returns-clause-stands : goal.returns-clause-stands
returns-clause-stands g c = group_stands_on_ok c.hear_group.result c.args.self.now c.hear_group.new.self (said c.args.group.now) c.hear_group.ensures.ok

pub returns-clause-listed : goal.returns-clause-listed
returns-clause-listed g c = group_listed_on_ok c.hear_group.result g.L.SentLists.Takes c.args.lists.now c.hear_group.new.lists c.args.self.now (said c.args.group.now) c.hear_group.ensures.lists

pub returns-clause-entry : goal.returns-clause-entry
returns-clause-entry g c = group_says_if_ok c.hear_group.result c.args.self.now (said c.args.group.now) c.hear_group.ensures.change
