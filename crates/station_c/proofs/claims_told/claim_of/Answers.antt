use Rattle.station_c.proofs.Claims.{claim_says}
use Rattle.station_c.proofs.claims_told.claim_of.Goals as goal

pub returns-in-Some-clause-says : goal.returns-in-Some-clause-says
returns-in-Some-clause-says c =
    claim_says c.args.name c.in-Some.address c.args.held c.claim_frame.result c.in-Some.is c.if-address-le-GREATEST_ADDRESS.true c.claim_frame.ensures.frame c.claim_frame.ensures.name_fits
