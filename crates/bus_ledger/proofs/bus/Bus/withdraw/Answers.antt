use Rattle.bus_ledger.specs.Changes.{withdrawing}
use Rattle.bus_ledger.proofs.Seats.{changed_traffic, changed_spares, withdraw_kept, withdraw_count}
use Rattle.bus_ledger.proofs.bus.Bus.withdraw.Goals as goal

pub invariant_of-self : goal.invariant_of-self
invariant_of-self c = withdraw_kept c.self.inside c.args.self.now c.args.seat c.args.which c.index_mut-place.result.now c.withdraw.new.self c.self.view_is c.self.invariant c.requires.0 c.index_mut-place.ensures.value c.withdraw.ensures.seat

pub returns-clause-traffic : goal.returns-clause-traffic
returns-clause-traffic c = changed_traffic (withdrawing c.args.which) c.self.inside c.args.self.now c.args.seat c.index_mut-place.result.now c.withdraw.new.self c.self.view_is c.requires.0 c.index_mut-place.ensures.value c.withdraw.ensures.seat

pub returns-clause-count : goal.returns-clause-count
returns-clause-count c = withdraw_count c.self.inside c.args.self.now c.args.seat c.withdraw.result c.args.which c.index_mut-place.result.now c.withdraw.new.self c.self.view_is c.requires.0 c.index_mut-place.ensures.value c.withdraw.ensures.count

pub returns-clause-spares : goal.returns-clause-spares
returns-clause-spares c = changed_spares c.self.inside c.args.self.now c.args.seat c.index_mut-place.result.now c.withdraw.new.self c.self.view_is c.requires.0 c.index_mut-place.ensures.value c.withdraw.ensures.spare
