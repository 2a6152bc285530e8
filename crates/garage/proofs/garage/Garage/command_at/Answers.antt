use Rattle.station_table.specs.declared.error.StationError.TheVariants as station
use Rattle.journal.specs.Journal.{readings_at}
use Rattle.journal.specs.Worlds.{station_of_at}
use Rattle.journal.specs.State.{setting_at}
use Rattle.garage.specs.Room.{IsFull}
use Rattle.garage.proofs.Headline.{kept_tables}
use Rattle.garage.proofs.OrderLemmas.{command_never, both_ways, full_of_two, refuses, not_an_address, not_held}
use Rattle.garage.proofs.garage.Garage.command_at.Goals as goal

pub returns-clause-not_an_address : goal.returns-clause-not_an_address
returns-clause-not_an_address c =
    let a = c.self.inside in
    let heard = c.command-answer.ensures.heard (station_of_at c.args.self.now.settings c.args.station) (setting_at c.args.self.now.settings c.args.station).grant (readings_at c.args.station c.args.self.now.journal) (kept_tables a c.args.self.now c.args.station c.index.result.now c.self.view_is c.self.invariant c.requires c.index.ensures) in
    let refusals = refuses c.obey.result c.command-answer.result _ (IsFull c.args.self.now) (command_never _ c.args.name c.args.address _) c.command-answer.ensures.refused c.command-answer.ensures.why c.command-answer.ensures.ok c.obey.ensures.refused c.obey.ensures.full in
    both_ways (refusals.as_told station.NotAnAddress not_an_address) heard.not_an_address

pub returns-clause-not_held : goal.returns-clause-not_held
returns-clause-not_held c =
    let a = c.self.inside in
    let heard = c.command-answer.ensures.heard (station_of_at c.args.self.now.settings c.args.station) (setting_at c.args.self.now.settings c.args.station).grant (readings_at c.args.station c.args.self.now.journal) (kept_tables a c.args.self.now c.args.station c.index.result.now c.self.view_is c.self.invariant c.requires c.index.ensures) in
    let refusals = refuses c.obey.result c.command-answer.result _ (IsFull c.args.self.now) (command_never _ c.args.name c.args.address _) c.command-answer.ensures.refused c.command-answer.ensures.why c.command-answer.ensures.ok c.obey.ensures.refused c.obey.ensures.full in
    both_ways (refusals.as_told station.NotHeld not_held) heard.not_held

pub returns-clause-full : goal.returns-clause-full
returns-clause-full c =
    let a = c.self.inside in
    let heard = c.command-answer.ensures.heard (station_of_at c.args.self.now.settings c.args.station) (setting_at c.args.self.now.settings c.args.station).grant (readings_at c.args.station c.args.self.now.journal) (kept_tables a c.args.self.now c.args.station c.index.result.now c.self.view_is c.self.invariant c.requires c.index.ensures) in
    let refusals = refuses c.obey.result c.command-answer.result _ (IsFull c.args.self.now) (command_never _ c.args.name c.args.address _) c.command-answer.ensures.refused c.command-answer.ensures.why c.command-answer.ensures.ok c.obey.ensures.refused c.obey.ensures.full in
    full_of_two refusals.book_full heard.commanded
