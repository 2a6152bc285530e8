use Rattle.std.proofs.Common.{Some, ap, ◌∙◌}
use Rattle.parameter_group.specs.Said.{said}
use Rattle.bus_watch.specs.WatchValue.{WatchValue}
use Rattle.reassembly.specs.Pairs.{pair_at, with_pair}
use Rattle.bus_watch.proofs.IdentifiedRead.{announced_undone, group_then, group_told_then, with_identified}
use Rattle.bus_watch.proofs.watch.Watch.take_announcement.Goals as goal

pub returns-in-Ok-clause-takes : goal.returns-in-Ok-clause-takes
returns-in-Ok-clause-takes c =
    group_then c.args.self.now _ c.take_noting.new.self c.begin.new.self (said c.args.group.now) c.args.time (ap (λ (w : WatchValue). with_identified w c.begin.new.self) c.self.view_is) c.in-Ok.ensures.takes

pub returns-in-Ok-clause-tells : goal.returns-in-Ok-clause-tells
returns-in-Ok-clause-tells c =
    group_told_then c.args.self.now _ c.take_noting.new.self c.begin.new.self (said c.args.group.now) c.args.time c.in-Ok.changes (ap (λ (w : WatchValue). with_identified w c.begin.new.self) c.self.view_is)
    c.in-Ok.ensures.tells

pub returns-in-Err-clause-err : goal.returns-in-Err-clause-err
returns-in-Err-clause-err c =
    announced_undone c.args.self.now _ c.begin.new.self c.restore.new.self c.args.route.source c.args.route.dest (Some c.args.half) c.in_ok-before.before
    (c.self-2.view_is ∙ (c.in-Err.ensures.err ∙ ap (λ (w : WatchValue). with_identified w c.begin.new.self) c.self.view_is))
    (c.in_ok-before.ensures.ok ∙ ap (λ (w : WatchValue). record w.identified { half = with_pair w.identified.half c.args.route.source c.args.route.dest (Some c.args.half) }) c.self.view_is)
    (c.in_ok-before.ensures.before ∙ ap (λ (w : WatchValue). pair_at w.identified.half c.args.route.source c.args.route.dest) c.self.view_is)
    c.restore.ensures
