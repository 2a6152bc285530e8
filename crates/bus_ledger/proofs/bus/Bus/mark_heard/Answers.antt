use Rattle.std.proofs.Common.{arith}
use Rattle.bus_ledger.specs.Changes.{hearing}
use Rattle.bus_ledger.proofs.Seats.{changed_traffic, changed_spares, hear_kept}
use Rattle.bus_ledger.proofs.bus.Bus.mark_heard.Goals as goal

pub invariant_of-self : goal.invariant_of-self
invariant_of-self c =
    hear_kept c.self.inside c.args.self.now c.args.seat 1 c.index_mut-place.result.now c.hear.new.self c.self.view_is c.self.invariant c.requires.unit.1 c.index_mut-place.ensures.value
    c.hear.ensures.seat c.requires.unit.0 (omega arith)

pub returns-clause-traffic : goal.returns-clause-traffic
returns-clause-traffic c =
    changed_traffic (hearing 1) c.self.inside c.args.self.now c.args.seat c.index_mut-place.result.now c.hear.new.self c.self.view_is c.requires.unit.1 c.index_mut-place.ensures.value c.hear.ensures.seat

pub returns-clause-spares : goal.returns-clause-spares
returns-clause-spares c =
    changed_spares c.self.inside c.args.self.now c.args.seat c.index_mut-place.result.now c.hear.new.self c.self.view_is c.requires.unit.1 c.index_mut-place.ensures.value (omega arith)
