use Rattle.std.proofs.Common.{sym, ap, subst, ◌∙◌}
use Rattle.live_station.specs.Ear.{frames_told}
use Rattle.live_station.specs.Working.{WorkingValue}
use Rattle.station_table.specs.StationValue.{StationValue}
use Rattle.station_table.specs.StandsFor.{StandsFor}
use Rattle.station_c.specs.ListedLives.{ListedLiveValue, StandsLive}
use Rattle.station_c.proofs.exports.live.units.hidzgula_live_row.Goals as goal

-- the row is of the station that was lifted
pub returns-in-Some-found-clause-heard : goal.returns-in-Some-found-clause-heard
returns-in-Some-found-clause-heard c = λ done r grant keep h held.
    let it = subst (λ (v : ListedLiveValue). StandsLive r grant keep v h) (sym (c.deref.ensures ∙ c.in-Some.ensures.value)) held.1 in
    c.in-Some-found.ensures.found r grant (frames_told r h)
    (subst (λ (v : StationValue). StandsFor r grant v (frames_told r h)) (sym (c.station.ensures ∙ ap (λ (w : WorkingValue). w.station) c.live.ensures)) it.station)
