use Rattle.std.proofs.Common.{rules}
use Rattle.bus_watch.proofs.IdentifiedRead.{over_aside}
use Rattle.bus_watch.proofs.watch.Watch.start_over.Goals as goal

pub returns-clause-anew : goal.returns-clause-anew
returns-clause-anew c = over_aside c.args.self.now c.in_ok-fresh.fresh _ c.start_over.new.self (search rules) c.in_ok-fresh.ensures
