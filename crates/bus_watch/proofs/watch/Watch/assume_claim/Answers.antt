use Rattle.std.proofs.Common.{None, ap}
use Rattle.can_frame.specs.declared.reading.Reading.TheVariants.{Frame}
use Rattle.bus_watch.proofs.Steps.{on_ok, stands_for_assumed}
use Rattle.bus_watch.proofs.Naming.{told_assumed_ok}
use Rattle.bus_watch.specs.WatchValue.{Takes}
use Rattle.bus_watch.proofs.watch.Watch.assume_claim.Goals as goal

pub returns-clause-stands : goal.returns-clause-stands
returns-clause-stands c =
    on_ok c.take.result
    (λ (takes : Takes c.args.self.now c.take.new.self (Frame c.claim_frame-claim.result) None c.args.self.now.followed).
    stands_for_assumed c.args.self.now c.take.new.self c.args.name c.args.address _ (ap Frame c.claim_frame-claim.ensures.frame) takes)
    c.take.ensures.takes

pub returns-clause-told : goal.returns-clause-told
returns-clause-told c =
    told_assumed_ok c.take.result c.args.self.now c.take.new.self c.args.name c.args.address (Frame c.claim_frame-claim.result) (ap Frame c.claim_frame-claim.ensures.frame) c.take.ensures.tells
