use Rattle.std.proofs.Common.{rules}
use Rattle.bus_watch.proofs.Steps.{stands_line_ok, told_line_ok}
use Rattle.bus_watch.proofs.IdentifiedRead.{go_on_line_ok}
use Rattle.bus_watch.proofs.watch.Watch.hear.Goals as goal

pub returns-clause-stands : goal.returns-clause-stands
returns-clause-stands c = stands_line_ok c.hear_line.result _ c.args.self.now c.hear_line.new.self c.args.line.now (search rules) c.hear_line.ensures.hears

pub returns-clause-told : goal.returns-clause-told
returns-clause-told c = told_line_ok c.hear_line.result _ c.args.self.now c.hear_line.new.self c.args.line.now (search rules) c.hear_line.ensures.tells

pub returns-clause-identified : goal.returns-clause-identified
returns-clause-identified c = go_on_line_ok c.hear_line.result _ c.args.self.now c.hear_line.new.self c.args.line.now (search rules) c.hear_line.ensures.hears c.hear_line.ensures.identified
