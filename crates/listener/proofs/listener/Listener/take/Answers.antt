-- A reading that is not refused leads from a list of readings to that list with it in front.
use Rattle.listener.proofs.Calls.{heard_if_ok, listed_on_ok, says_if_ok, stands_on_ok}
use Rattle.listener.proofs.listener.Listener.take.Goals as goal

pub returns-clause-heard : goal.returns-clause-heard
returns-clause-heard g c = heard_if_ok c.hear.result c.args.self.now c.args.reading c.hear.ensures.change

pub returns-clause-stands : goal.returns-clause-stands
returns-clause-stands g c = stands_on_ok c.hear.result c.args.self.now c.hear.new.self c.args.reading c.hear.ensures.ok

pub returns-clause-listed : goal.returns-clause-listed
returns-clause-listed g c = listed_on_ok c.hear.result g.L.SentLists.Takes c.args.lists.now c.hear.new.lists c.args.self.now c.args.reading c.hear.ensures.lists

pub returns-clause-entry : goal.returns-clause-entry
returns-clause-entry g c = says_if_ok c.hear.result c.args.self.now c.args.reading c.hear.ensures.change
