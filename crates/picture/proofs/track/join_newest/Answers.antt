use Rattle.std.proofs.Common.{arith}
use Rattle.picture.proofs.Places.{newest_joined}
use Rattle.picture.proofs.track.join_newest.Goals as goal

pub returns-clause-drawn : goal.returns-clause-drawn
returns-clause-drawn c =
    rw c.truncate.ensures.items
    (newest_joined _ _ _ _ _ _ (omega (arith, c.requires, c.len-newest.ensures, c.args.spans.now.ok.0)) (omega (arith, c.requires, c.len-newest.ensures, c.args.spans.now.ok.0))
    c.index.ensures c.index-2.ensures c.joined-both.ensures)
