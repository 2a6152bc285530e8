use Rattle.std.proofs.Common.{rules, subst}
use Rattle.bus_watch.specs.Over.{HasOwnersBelow}
use Rattle.bus_watch.specs.WatchValue.{WatchValue}
use Rattle.bus_watch.proofs.Over.{at_least}
use Rattle.bus_watch.proofs.watch.Watch.take_holders.Goals.{in-Some+in_ok-hand_over, in_default}
use Rattle.bus_watch.proofs.watch.Watch.take_holders.Goals as goal

pub loop-place-preserved : goal.loop-place-preserved
loop-place-preserved c = elim c.match-address_at.branch [
  | in-Some+in_ok-hand_over w ↦
      subst (λ (f : WatchValue). HasOwnersBelow c.args.other.now 0 f) (search rules)
      (at_least c.args.other.now w.hand_over.new.self _ (w.in_ok-hand_over.ensures 0 c.loop-place.invariant))
  | in_default w ↦ subst (λ (f : WatchValue). HasOwnersBelow c.args.other.now 0 f) (search rules) c.loop-place.invariant
]
