use Rattle.std.proofs.Common.{ap}
use Rattle.picture.proofs.Joining.{more_if_ok}
use Rattle.picture.proofs.track.Track.add_whole.Goals as goal

pub returns-clause-kept : goal.returns-clause-kept
returns-clause-kept c = more_if_ok _ _ _ _ _ (ap (λ t. t.most) c.self.view_is) (ap (λ t. t.spans) c.self.view_is) c.put.ensures.ok
