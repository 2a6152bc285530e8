use Rattle.std.proofs.Common.{rules}
use Rattle.station_c.proofs.BegunLive.{is_of_missing}
use Rattle.station_c.proofs.LiveKeeping.{stands_missed}
use Rattle.station_c.proofs.listed_live.ListedLive.missed.Goals as goal

pub returns-in-Ok-clause-stands : goal.returns-in-Ok-clause-stands
returns-in-Ok-clause-stands c =
    stands_missed c.args.self.now c.self.inside.live c.missed.new.self c.self.inside.lists c.missed.new.lists c.newer-self-inside.result c.miss.new.self c.args.count
    (search rules) (search rules) c.in-Ok.ensures.stands c.in-Ok.ensures.lists

pub invariant_of-self : goal.invariant_of-self
invariant_of-self c = is_of_missing c.missed.result c.self.inside.name c.self.inside.grant c.self.inside.times c.args.count c.args.now c.self.inside.live c.missed.new.self c.missed.ensures.missed c.missed.ensures.err c.self.invariant
