use Rattle.std.proofs.Common.{refl, rules}
use Rattle.bus_watch.proofs.Shown.{unshown_so}
use Rattle.bus_watch.proofs.lists.WatchLists.put_shown.Goals as goal

pub returns-then-not-shows-clause-ok : goal.returns-then-not-shows-clause-ok
returns-then-not-shows-clause-ok c = unshown_so c.args.self.now _ c.args.entry (rw (← c.self.view_is) refl) (search rules)
