use Rattle.station_c.proofs.BegunListening.{heard_claim, quiet_claim}
use Rattle.station_c.proofs.listed_listener.ListedListener.take_claim.Goals as goal

pub returns-clause-heard : goal.returns-clause-heard
returns-clause-heard c =
    heard_claim c.take.result c.args.self.now c.self.inside.ear c.take.new.self c.self.inside.lists c.take.new.lists c.self.inside.broken.newest c.self.inside.broken.count
    c.args.claim _ c.self.view_is c.take.ensures.heard

pub returns-clause-quiet : goal.returns-clause-quiet
returns-clause-quiet c =
    quiet_claim c.take.result c.args.self.now c.self.inside.ear c.take.new.self c.self.inside.lists c.take.new.lists c.self.inside.broken.newest c.self.inside.broken.count
    _ _ c.self.view_is c.take.ensures.heard c.take.ensures.paces c.take.ensures.silence
