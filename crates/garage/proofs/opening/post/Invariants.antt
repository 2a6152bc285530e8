use Rattle.garage.specs.Inside.{ArePostsOf}
use Rattle.garage.specs.Opening.{HaveNames}
use Rattle.garage.proofs.Posting.{IsPosting}
use Rattle.garage.proofs.opening.post.Given as goal

-- the stations before the index have their posts and have claimed
abbrev pub invariant-loop-seat : goal.invariant-loop-seat
invariant-loop-seat l = ArePostsOf l.posts.items l.settings l.seat × HaveNames l.settings l.seat × IsPosting l.settings l.initial.bus.traffic l.bus l.seat
