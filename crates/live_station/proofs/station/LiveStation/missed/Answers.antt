use Rattle.std.proofs.Common.{subst, sym}
use Rattle.station_table.specs.StandsFor.{StandsFor}
use Rattle.live_station.specs.Working.{WorkingValue}
use Rattle.live_station.specs.Ear.{frames_told}
use Rattle.live_station.proofs.station.LiveStation.missed.Goals as goal

pub returns-clause-stands : goal.returns-clause-stands
returns-clause-stands g c = λ r grant h st. c.in_ok-reaction.ensures.stands r grant (frames_told r h)
    (subst (λ (v : WorkingValue). StandsFor r grant v.station (frames_told r h)) (sym c.self.view_is) st)
