use Rattle.std.proofs.Common.{rules}
use Rattle.station_c.proofs.BegunLive.{is_of_pulled}
use Rattle.station_c.proofs.LiveKeeping.{stands_pulled}
use Rattle.station_c.proofs.listed_live.ListedLive.pull.Goals as goal

pub returns-clause-stands : goal.returns-clause-stands
returns-clause-stands c =
    stands_pulled c.args.self.now c.self.inside.live c.pull-pulled.new.self c.self.inside.lists c.newer-self-inside.result c.self.inside.shared c.args.now c.pull-pulled.result
    (search rules) (search rules) c.pull-pulled.ensures.turn

pub invariant_of-self : goal.invariant_of-self
invariant_of-self c = is_of_pulled c.self.inside.name c.self.inside.grant c.self.inside.times c.args.now c.pull-pulled.result c.self.inside.live c.pull-pulled.new.self c.pull-pulled.ensures.turn c.self.invariant
