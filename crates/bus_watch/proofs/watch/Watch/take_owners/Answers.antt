use Rattle.std.proofs.Common.{◌≡◌, ◌+◌, ℕ, Bool, if◌then◌else◌, subst, arith}
use Rattle.bus_watch.specs.Over.{HasOwnersBelow}
use Rattle.bus_watch.proofs.Over.{same_self}
use Rattle.bus_watch.proofs.watch.Watch.take_owners.Goals as goal

pub loop-address-preserved : goal.loop-address-preserved
loop-address-preserved c =
    subst (λ (t : Bool). HasOwnersBelow c.args.other.now (if t then c.loop-address.address + 1 else c.loop-address.address) c.hand_over.new.self) (same_self c.loop-address.address)
    (c.in_ok-hand_over.ensures c.loop-address.address c.loop-address.invariant)

pub returns : goal.returns
returns c =
    let all : c.loop-address.address ≡ 254 = omega arith in subst (λ (n : ℕ). HasOwnersBelow c.args.other.now n c.loop-address.self) all c.loop-address.invariant
