use Rattle.std.proofs.Common.{ap, rules}
use Rattle.parameter_group.specs.Said.{said}
use Rattle.bus_watch.proofs.Taking.{takes_other, tells_other}
use Rattle.bus_watch.proofs.watch.Watch.take_group.Goals as goal

pub returns-in-Other-clause-takes : goal.returns-in-Other-clause-takes
returns-in-Other-clause-takes c f is = takes_other c.args.self.now _ f (said c.args.group.now) c.args.time is (ap said c.in-Other.is) (search rules)

pub returns-in-Other-clause-tells : goal.returns-in-Other-clause-tells
returns-in-Other-clause-tells c f is =
    tells_other c.args.self.now (record c.args.self.now { lists = c.pass.new.self }) f (said c.args.group.now) c.args.time _ is (ap said c.in-Other.is) c.nothing.ensures
