use Rattle.std.proofs.Common.{rules, ap}
use Rattle.parameter_group.specs.Said.{said}
use Rattle.listener.specs.Paced.{PacedValue}
use Rattle.listener.proofs.Pacing.{frame_if_ok}
use Rattle.listener.proofs.paced.PacedListener.hear_unless.Goals as goal

pub returns-in-Read-clause-heard : goal.returns-in-Read-clause-heard
returns-in-Read-clause-heard g c =
    let e = c.take_group.ensures in
    frame_if_ok c.take_group.result g.L.SentLists.Takes c.args.self.now c.self.inside.listener c.take_group.new.self c.args.lists.now c.take_group.new.lists c.args.now (said c.args.group.now) (ap (λ (l : PacedValue). l.listener) c.self.view_is)
    (search rules) e.stands e.heard e.listed e.entry e.lists
