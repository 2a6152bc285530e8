use Rattle.std.proofs.Common.{ℕ, sym, ◌∙◌, subst}
use Rattle.bus_model.specs.Heard.{address_heard, address_known}
use Rattle.station_table.specs.StandsFor.{StandsFor}
use Rattle.station_table.specs.StationValue.{StationValue}
use Rattle.station_c.specs.ListedStations.{ListedStationValue}
use Rattle.station_c.specs.Orders.{OrderAsks}
use Rattle.station_c.proofs.Asked.{asked_told}
use Rattle.station_c.proofs.exports.orders.hidzgula_ask.Goals as goal

-- the station that was lifted answered
pub returns-clause-heard : goal.returns-clause-heard
returns-clause-heard c = λ low r grant h held.
    let lifted = subst (λ (v : ListedStationValue). StandsFor r grant v.station h) (sym (c.deref.ensures ∙ c.in-Some.ensures.value)) held.1 in
    let stands = subst (λ (v : StationValue). StandsFor r grant v h) (sym c.station.ensures) lifted in
    subst (λ (m : ℕ). OrderAsks (address_heard r h) (address_known r m h) c.number-2.result) c.from_number.ensures
    (subst (λ (n : ℕ). OrderAsks (address_heard r h) (address_known r c.from_number.result h) n) (sym c.number-2.ensures)
    (asked_told _ r h c.from_number.result (c.ask-answer.ensures.heard r grant h stands) c.ask-answer.result c.reply_with.result _ _
    c.ask-answer.ensures.ok c.ask-answer.ensures.refused c.ask-answer.ensures.why c.reply_with.ensures.done c.reply_with.ensures.refused))
