use Rattle.std.proofs.Common.{rules}
use Rattle.station_c.proofs.BegunLive.{is_of_hearing}
use Rattle.station_c.proofs.LiveKeeping.{stands_heard}
use Rattle.station_c.proofs.listed_live.ListedLive.hear.Goals as goal

pub returns-in-Ok-clause-stands : goal.returns-in-Ok-clause-stands
returns-in-Ok-clause-stands c =
    stands_heard c.args.self.now c.self.inside.live c.hear.new.self c.self.inside.lists c.hear.new.lists c.newer-self-inside.result c.follow.new.self c.args.frame.now
    (search rules) (search rules) c.in-Ok.ensures.stands c.in-Ok.ensures.listed

pub invariant_of-self : goal.invariant_of-self
invariant_of-self c = is_of_hearing c.hear.result c.self.inside.name c.self.inside.grant c.self.inside.times c.args.frame.now c.args.now c.self.inside.live c.hear.new.self c.hear.ensures.heard c.hear.ensures.err c.self.invariant
