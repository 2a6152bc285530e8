use Rattle.std.proofs.Common.{rules}
use Rattle.station_c.proofs.Begun.{is_of_by_call}
use Rattle.station_c.proofs.Keeping.{change_listed, lists_listed, stands_listed}
use Rattle.station_c.proofs.listed_station.ListedStation.take.Goals as goal

pub returns-clause-stands : goal.returns-clause-stands
returns-clause-stands c = stands_listed c.take.result c.args.self.now c.self.inside.station c.args.reading c.take.new.self (search rules) c.take.ensures.stands

pub returns-clause-lists : goal.returns-clause-lists
returns-clause-lists c =
    lists_listed c.take.result c.args.self.now c.self.inside.station c.self.inside.lists c.take.new.lists c.args.reading (search rules) (search rules) c.take.ensures.listed

pub returns-clause-change : goal.returns-clause-change
returns-clause-change c = change_listed c.take.result c.args.self.now c.self.inside.station c.args.reading (search rules) c.take.ensures.heard

pub invariant_of-self : goal.invariant_of-self
invariant_of-self c = is_of_by_call c.take.result c.self.inside.name c.self.inside.grant c.self.inside.station c.take.new.self c.args.reading c.take.ensures.step c.take.ensures.err c.self.invariant
