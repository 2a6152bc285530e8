use Rattle.std.proofs.Common.{rules}
use Rattle.bus_watch.proofs.Taking.{takes_from, tells_from}
use Rattle.bus_watch.proofs.watch.Watch.take.Goals as goal

pub returns-in-Ok-clause-takes : goal.returns-in-Ok-clause-takes
returns-in-Ok-clause-takes c =
    let e = c.in-Ok.ensures.heard in
    takes_from _ _ _ c.take.new.self.listener c.pass.new.self c.take.new.lists c.args.reading c.args.time c.in-Ok.heard _ c.self.view_is c.pass.ensures
    (record { stands = e.stands; heard = e.heard; listed = e.listed }) c.tell.ensures.noted (search rules)

pub returns-in-Ok-clause-tells : goal.returns-in-Ok-clause-tells
returns-in-Ok-clause-tells c =
    let e = c.in-Ok.ensures.heard in
    tells_from _ _ _ c.take.new.self.listener c.pass.new.self c.take.new.lists c.args.reading c.args.time c.in-Ok.heard _ _ _ c.self.view_is c.pass.ensures
    (record { stands = e.stands; heard = e.heard; listed = e.listed }) e.says e.put c.tell.ensures.noted c.tell.ensures.told
