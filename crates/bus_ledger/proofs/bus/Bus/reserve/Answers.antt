use Rattle.bus_ledger.proofs.Seats.{same_kept, same_traffic, reserve_ok, reserve_err, changed_spares}
use Rattle.bus_ledger.proofs.bus.Bus.reserve.Goals as goal

pub invariant_of-self : goal.invariant_of-self
invariant_of-self c = same_kept c.self.inside c.args.self.now c.args.seat c.index_mut-place.result.now c.reserve.new.self c.self.view_is c.self.invariant c.requires.0 c.index_mut-place.ensures.value c.reserve.ensures.seat

pub returns-clause-traffic : goal.returns-clause-traffic
returns-clause-traffic c = same_traffic c.self.inside c.args.self.now c.args.seat c.index_mut-place.result.now c.reserve.new.self c.self.view_is c.requires.0 c.index_mut-place.ensures.value c.reserve.ensures.seat

pub returns-clause-ok : goal.returns-clause-ok
returns-clause-ok c = reserve_ok c.self.inside c.args.self.now c.args.seat c.args.count c.reserve.new.self c.reserve.result c.self.view_is c.requires.0 c.reserve.ensures.ok

pub returns-clause-err : goal.returns-clause-err
returns-clause-err c = reserve_err c.self.inside c.args.self.now c.args.seat c.args.count c.index_mut-place.result.now c.reserve.result c.self.view_is c.requires.0 c.index_mut-place.ensures.value c.reserve.ensures.err

pub returns-clause-spares : goal.returns-clause-spares
returns-clause-spares c = changed_spares c.self.inside c.args.self.now c.args.seat c.index_mut-place.result.now c.reserve.new.self c.self.view_is c.requires.0 c.index_mut-place.ensures.value c.reserve.ensures.grows
