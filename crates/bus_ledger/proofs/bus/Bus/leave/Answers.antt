use Rattle.std.proofs.Common.{refl}
use Rattle.bus_ledger.specs.Changes.{leaving}
use Rattle.bus_ledger.proofs.Kept.{leave_kept}
use Rattle.bus_ledger.proofs.Seats.{changed_traffic, other_spares}
use Rattle.bus_ledger.proofs.bus.Bus.leave.Goals as goal

pub invariant_of-self : goal.invariant_of-self
invariant_of-self c = leave_kept c.self.inside _ c.args.self.now c.args.seat c.index_mut-place.result.now c.leave.new.self c.self.view_is c.self.invariant c.requires.0 c.requires.1 c.index_mut-place.ensures.value c.leave.ensures.seat refl refl c.forget.ensures refl

pub returns-clause-traffic : goal.returns-clause-traffic
returns-clause-traffic c = changed_traffic leaving c.self.inside c.args.self.now c.args.seat c.index_mut-place.result.now c.leave.new.self c.self.view_is c.requires.1 c.index_mut-place.ensures.value c.leave.ensures.seat

pub returns-clause-spares : goal.returns-clause-spares
returns-clause-spares c = other_spares c.self.inside c.args.self.now c.args.seat c.leave.new.self c.self.view_is
