-- A reading that is not refused leads from a list of readings to that list with it in front.
use Rattle.station_table.proofs.Changing.{heard_by_reading}
use Rattle.station_table.proofs.Listing.{listed_by_reading, says_by_reading}
use Rattle.station_table.proofs.Stands.{stands_read}
use Rattle.station_table.proofs.station.Station.take.Goals as goal

pub returns-clause-stands : goal.returns-clause-stands
returns-clause-stands g c = λ r grant h st. stands_read r grant c.args.self.now c.hear.new.self h c.args.reading c.in_ok-hear.ensures.ok st

pub returns-clause-heard : goal.returns-clause-heard
returns-clause-heard g c = λ r grant h st. heard_by_reading r grant c.args.self.now h c.args.reading _ c.in_ok-hear.ensures.change st

pub returns-clause-listed : goal.returns-clause-listed
returns-clause-listed g c = λ r grant h st.
    listed_by_reading g.L.Lists.Takes c.args.lists.now c.hear.new.lists r grant c.args.self.now h c.args.reading c.in_ok-hear.ensures.lists st

pub returns-clause-entry : goal.returns-clause-entry
returns-clause-entry g c = says_by_reading c.args.self.now c.args.reading _ c.in_ok-hear.ensures.change
