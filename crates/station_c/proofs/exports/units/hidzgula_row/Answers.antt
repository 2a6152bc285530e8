use Rattle.std.proofs.Common.{sym, subst, ◌∙◌}
use Rattle.station_table.specs.StationValue.{StationValue}
use Rattle.station_table.specs.StandsFor.{StandsFor}
use Rattle.station_c.specs.ListedStations.{ListedStationValue}
use Rattle.station_c.proofs.exports.units.hidzgula_row.Goals as goal

-- the row is of the station that was lifted
pub returns-in-Some-found-clause-heard : goal.returns-in-Some-found-clause-heard
returns-in-Some-found-clause-heard c = λ done r grant h held.
    let post = subst (λ (v : ListedStationValue). StandsFor r grant v.station h) (sym (c.deref.ensures ∙ c.in-Some.ensures.value)) held.1 in
    c.in-Some-found.ensures.found r grant h (subst (λ (v : StationValue). StandsFor r grant v h) (sym c.station.ensures) post)
