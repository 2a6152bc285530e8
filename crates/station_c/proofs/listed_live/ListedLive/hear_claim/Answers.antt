use Rattle.station_c.proofs.BegunLive.{heard_claim}
use Rattle.station_c.proofs.listed_live.ListedLive.hear_claim.Goals as goal

pub returns : goal.returns
returns c = heard_claim c.hear.result 0 c.args.claim c.args.self.now c.hear.new.self c.hear.ensures.heard c.hear.ensures.stands
