use Rattle.bus_ledger.specs.Changes.{queueing_all, run_frames}
use Rattle.bus_ledger.proofs.Seats.{changed_traffic, queue_kept, queue_spare, other_spares}
use Rattle.bus_ledger.proofs.bus.Bus.queue_run_reserved.Goals as goal

pub invariant_of-self : goal.invariant_of-self
invariant_of-self c = queue_kept c.self.inside c.args.self.now c.args.seat (run_frames c.args.message c.args.session c.args.run) c.index_mut-place.result.now c.put_run_reserved.new.self c.self.view_is c.self.invariant c.requires.live.0 c.requires.live.1 c.index_mut-place.ensures.value c.put_run_reserved.ensures.seat

pub returns-clause-traffic : goal.returns-clause-traffic
returns-clause-traffic c = changed_traffic (queueing_all (run_frames c.args.message c.args.session c.args.run)) c.self.inside c.args.self.now c.args.seat c.index_mut-place.result.now c.put_run_reserved.new.self c.self.view_is c.requires.live.0 c.index_mut-place.ensures.value c.put_run_reserved.ensures.seat

pub returns-clause-spare : goal.returns-clause-spare
returns-clause-spare c = queue_spare c.self.inside c.args.self.now c.args.seat c.index_mut-place.result.now c.put_run_reserved.new.self c.self.view_is c.requires.live.0 c.index_mut-place.ensures.value c.put_run_reserved.ensures.spare

pub returns-clause-spares : goal.returns-clause-spares
returns-clause-spares c = other_spares c.self.inside c.args.self.now c.args.seat c.put_run_reserved.new.self c.self.view_is
