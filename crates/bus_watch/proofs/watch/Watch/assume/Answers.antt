use Rattle.std.proofs.Common.{◌∷◌}
use Rattle.bus_watch.specs.Told.{Assumed}
use Rattle.bus_watch.proofs.IdentifiedRead.{stands_aside, told_aside}
use Rattle.bus_watch.proofs.watch.Watch.assume.Goals as goal

pub returns-clause-stands : goal.returns-clause-stands
returns-clause-stands c =
    λ b ts s. stands_aside b (Assumed c.args.name c.args.address ∷ ts) c.assume_claim.new.self c.claim_texts.new.self _ c.claim_texts.ensures (c.in_ok-changes.ensures.stands b ts s)

pub returns-clause-told : goal.returns-clause-told
returns-clause-told c =
    told_aside (Assumed c.args.name c.args.address) c.args.self.now c.assume_claim.new.self c.claim_texts.new.self _ c.in_ok-changes.changes c.claim_texts.ensures c.in_ok-changes.ensures.told
