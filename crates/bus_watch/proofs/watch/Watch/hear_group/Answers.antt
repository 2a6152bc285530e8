use Rattle.std.proofs.Common.{rules}
use Rattle.parameter_group.specs.Said.{said}
use Rattle.bus_watch.proofs.Taking.{pair_noted, pair_told, takes_frame, tells_frame}
use Rattle.bus_watch.proofs.watch.Watch.hear_group.Goals as goal

pub returns-in-Ok-clause-takes : goal.returns-in-Ok-clause-takes
returns-in-Ok-clause-takes c f is =
    let e = c.in-Ok.ensures.heard f is in
    takes_frame _ _ _ c.take_group_at.new.self.listener c.pass.new.self c.take_group_at.new.lists f (said c.args.group.now) c.args.time c.in-Ok.heard _ _ c.self.view_is c.pass.ensures is
    (rw (← c.micros-now.ensures) (record { stands = e.stands; heard = e.heard; listed = e.listed })) (pair_noted _ _ _ _ _ _ _ _ c.note_pair.new.self c.in-Ok.heard c.note_pair.ensures.same c.tell.new.self c.tell.ensures.noted) (search rules)
    c.note_pair.ensures.count

pub returns-in-Ok-clause-tells : goal.returns-in-Ok-clause-tells
returns-in-Ok-clause-tells c f is =
    let e = c.in-Ok.ensures.heard f is in
    tells_frame _ _ _ c.take_group_at.new.self.listener c.pass.new.self c.take_group_at.new.lists f (said c.args.group.now) c.args.time c.in-Ok.heard _ _ _ _ c.self.view_is c.pass.ensures is
    (rw (← c.micros-now.ensures) (record { stands = e.stands; heard = e.heard; listed = e.listed })) e.says e.put
    (pair_noted _ _ _ _ _ _ _ _ c.note_pair.new.self c.in-Ok.heard c.note_pair.ensures.same c.tell.new.self c.tell.ensures.noted) (pair_told _ _ _ _ _ _ _ _ c.note_pair.new.self c.in-Ok.heard c.note_pair.ensures.same c.tell.result c.tell.ensures.told)
