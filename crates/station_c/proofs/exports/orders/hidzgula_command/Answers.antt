use Rattle.std.proofs.Common.{ℕ, sym, ◌∙◌, subst}
use Rattle.bus_model.specs.Heard.{address_heard}
use Rattle.station_table.specs.StandsFor.{StandsFor}
use Rattle.station_table.specs.StationValue.{StationValue}
use Rattle.station_c.specs.ListedStations.{ListedStationValue}
use Rattle.station_c.specs.Orders.{OrderCommands}
use Rattle.station_c.proofs.Commanded.{commanded_told}
use Rattle.station_c.proofs.exports.orders.hidzgula_command.Goals as goal

-- the station that was lifted answered
pub returns-clause-heard : goal.returns-clause-heard
returns-clause-heard c = λ r grant h held.
    let lifted = subst (λ (v : ListedStationValue). StandsFor r grant v.station h) (sym (c.deref.ensures ∙ c.in-Some.ensures.value)) held.1 in
    let stands = subst (λ (v : StationValue). StandsFor r grant v h) (sym c.station.ensures) lifted in
    subst (λ (n : ℕ). OrderCommands (address_heard r h) c.args.address n) (sym c.number-2.ensures)
    (commanded_told _ r h c.args.address (c.command-answer.ensures.heard r grant h stands) c.command-answer.result c.reply_with.result _ _
    c.command-answer.ensures.ok c.command-answer.ensures.refused c.command-answer.ensures.why c.reply_with.ensures.done c.reply_with.ensures.refused)
