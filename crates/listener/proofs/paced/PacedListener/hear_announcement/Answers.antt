use Rattle.std.proofs.Common.{ap, ◌∙◌}
use Rattle.parameter_group.specs.Said.{said}
use Rattle.listener.specs.Paced.{PacedValue}
use Rattle.listener.proofs.Pacing.{announced_read, heard_frame, undone}
use Rattle.listener.proofs.paced.PacedListener.hear_announcement.Goals as goal

pub returns-in-Ok-clause-heard : goal.returns-in-Ok-clause-heard
returns-in-Ok-clause-heard g c =
    let e = c.in-Ok.ensures in
    heard_frame g.L.SentLists.Takes c.args.self.now c.self.inside.listener c.take_group.new.self c.args.lists.now c.take_group.new.lists c.args.now (said c.args.group.now) c.in-Ok.heard (ap (λ (l : PacedValue). l.listener) c.self.view_is)
    (announced_read c.args.self.now c.args.now (said c.args.group.now) (c.args.source, c.args.dest) c.requires.announced)
    (λ f is. record { stands = e.stands f is; heard = e.heard f is; listed = e.listed f is; says = e.entry; put = e.lists })

pub returns-in-Err-clause-err : goal.returns-in-Err-clause-err
returns-in-Err-clause-err g c =
    ap (λ l. record { listener = l; paces = c.restore.new.self; silence = c.self.inside.silence }) c.in-Err.ensures.err
    ∙ (ap (λ p. record { listener = c.self.inside.listener; paces = p; silence = c.self.inside.silence })
    (undone c.self.inside.paces c.announce.new.self c.restore.new.self c.args.source c.args.dest _ c.get-before.result c.in_ok-announce.ensures.ok c.get-before.ensures c.restore.ensures)
    ∙ c.self.view_is)
