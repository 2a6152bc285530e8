use Rattle.entry_lists.proofs.UnderNames.{all_on_ok}
use Rattle.entry_lists.proofs.all.AllEntriesLists.put.Goals as goal

pub returns-clause-ok : goal.returns-clause-ok
returns-clause-ok c = all_on_ok c.add.result c.args.self.now c.add.new.self c.args.entry c.add.ensures.ok
