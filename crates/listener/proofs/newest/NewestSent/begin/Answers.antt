use Rattle.std.proofs.Common.{◌≡◌, ap, ◌∙◌}
use Rattle.entry_lists.specs.Newest.{with_newer}
use Rattle.listener.specs.NewestSent.{NewestSentValue}
use Rattle.listener.proofs.NewestUnits.{begun}
use Rattle.listener.proofs.newest.NewestSent.begin.Goals as goal

pub returns-clause-ok : goal.returns-clause-ok
returns-clause-ok c =
    let same : c.self.inside.keep ≡ c.args.self.now.keep = ap (λ (t : NewestSentValue). t.keep) c.self.view_is in
    begun c.args.self.now c.put.new.self c.args.key c.args.kind c.args.entry c.push.new.self c.requires
    (c.in_ok-push.ensures.ok ∙ (λ i. with_newer (same i) c.args.kind c.args.entry (c.new-kinds.ensures i)))
    c.in_ok-put.ensures.keep c.in_ok-put.ensures.units c.in_ok-put.ensures.lists
