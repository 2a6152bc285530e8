use Rattle.station_c.proofs.Begun.{told_some}
use Rattle.station_c.proofs.listed_station.ListedStation.tell.Goals as goal

pub returns-in_ok-_outcome-in-Some : goal.returns-in_ok-_outcome-in-Some
returns-in_ok-_outcome-in-Some c =
    told_some c.args.self.now c.take.new.self c.args.claim c.in-Some.claim c.in-Some.is
    c.in_ok-_outcome-in-Some.ensures.stands c.in_ok-_outcome-in-Some.ensures.lists c.in_ok-_outcome-in-Some.ensures.keep
