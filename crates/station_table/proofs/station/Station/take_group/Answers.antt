use Rattle.parameter_group.specs.Said.{said}
use Rattle.station_table.proofs.Changing.{heard_by_group, stands_by_group}
use Rattle.station_table.proofs.Few.{few_by_group}
use Rattle.station_table.proofs.Listing.{listed_by_group, says_by_group}
use Rattle.station_table.proofs.station.Station.take_group.Goals as goal

pub returns-clause-heard : goal.returns-clause-heard
returns-clause-heard g c = λ f is r grant h st. heard_by_group r grant c.args.self.now h f (said c.args.group.now) _ is c.in_ok-hear_group.ensures.change st

pub returns-clause-listed : goal.returns-clause-listed
returns-clause-listed g c = λ f is r grant h st.
    listed_by_group g.L.Lists.Takes c.args.lists.now c.hear_group.new.lists r grant c.args.self.now h f (said c.args.group.now) is c.in_ok-hear_group.ensures.lists st

pub returns-clause-entry : goal.returns-clause-entry
returns-clause-entry g c = says_by_group c.args.self.now (said c.args.group.now) _ c.in_ok-hear_group.ensures.change

pub returns-clause-stands : goal.returns-clause-stands
returns-clause-stands g c = λ f is r grant h st. stands_by_group r grant c.args.self.now c.hear_group.new.self h f (said c.args.group.now) is c.in_ok-hear_group.ensures.ok st

pub returns-clause-few : goal.returns-clause-few
returns-clause-few g c = few_by_group c.args.self.now (said c.args.group.now) _ c.in_ok-hear_group.ensures.reaction
