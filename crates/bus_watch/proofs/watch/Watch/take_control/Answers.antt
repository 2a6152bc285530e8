use Rattle.listener.specs.ListenerValue.{who_in}
use Rattle.parameter_group.specs.Said.{said}
use Rattle.bus_watch.proofs.IdentifiedRead.{group_aside, group_told_aside}
use Rattle.bus_watch.proofs.watch.Watch.take_control.Goals as goal

pub returns-in_default-clause-takes : goal.returns-in_default-clause-takes
returns-in_default-clause-takes c =
    group_aside c.args.self.now c.take_noting.new.self c.manage_texts.new.self _ (said c.args.group.now) c.args.time (c.manage_texts.ensures (who_in c.args.self.now.listener 0)) c.in_ok-changes.ensures.takes

pub returns-in_default-clause-tells : goal.returns-in_default-clause-tells
returns-in_default-clause-tells c =
    group_told_aside c.args.self.now c.take_noting.new.self c.manage_texts.new.self _ (said c.args.group.now) c.args.time c.in_ok-changes.changes
    (c.manage_texts.ensures (who_in c.args.self.now.listener 0)) c.in_ok-changes.ensures.tells
