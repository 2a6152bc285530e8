use Rattle.std.proofs.Common.{ap, ◌∙◌}
use Rattle.picture.proofs.Joining.{thinned_if_ok}
use Rattle.picture.proofs.track.Track.add_thinned.Goals as goal

pub returns-clause-kept : goal.returns-clause-kept
returns-clause-kept c =
    thinned_if_ok _ c.args.self.now c.thin.new.self _ _ _ (ap (λ t. t.most) c.self.view_is ∙ c.thin.ensures.same_bound) c.requires c.thin.ensures.drawn (ap (λ t. t.spans) c.self.view_is) c.put.ensures.ok
