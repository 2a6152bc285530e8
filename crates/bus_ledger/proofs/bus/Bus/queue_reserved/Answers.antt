use Rattle.std.proofs.Common.{[], ◌∷◌}
use Rattle.bus_ledger.specs.Changes.{queued_frame, queueing}
use Rattle.bus_ledger.proofs.Seats.{changed_traffic, queue_kept, queue_spare, other_spares}
use Rattle.bus_ledger.proofs.bus.Bus.queue_reserved.Goals as goal

pub invariant_of-self : goal.invariant_of-self
invariant_of-self c = queue_kept c.self.inside c.args.self.now c.args.seat (queued_frame c.args.frame c.args.tag ∷ []) c.index_mut-place.result.now c.put_reserved.new.self c.self.view_is c.self.invariant c.requires.live.0 c.requires.live.1 c.index_mut-place.ensures.value c.put_reserved.ensures.seat

pub returns-clause-traffic : goal.returns-clause-traffic
returns-clause-traffic c = changed_traffic (queueing (queued_frame c.args.frame c.args.tag)) c.self.inside c.args.self.now c.args.seat c.index_mut-place.result.now c.put_reserved.new.self c.self.view_is c.requires.live.0 c.index_mut-place.ensures.value c.put_reserved.ensures.seat

pub returns-clause-spare : goal.returns-clause-spare
returns-clause-spare c = queue_spare c.self.inside c.args.self.now c.args.seat c.index_mut-place.result.now c.put_reserved.new.self c.self.view_is c.requires.live.0 c.index_mut-place.ensures.value c.put_reserved.ensures.spare

pub returns-clause-spares : goal.returns-clause-spares
returns-clause-spares c = other_spares c.self.inside c.args.self.now c.args.seat c.put_reserved.new.self c.self.view_is
