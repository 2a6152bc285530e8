use Rattle.std.proofs.Common.{map, take, []}
use Rattle.station_c.specs.Anew.{KeepsOwners, StandsListed, but, claim_told, holds, with_claims_of}
use Rattle.station_c.proofs.listed_station.ListedStation.with_owners.Given as goal

-- the claims of the NAMEs before the place were told
abbrev pub invariant-loop-place : goal.invariant-loop-place
invariant-loop-place l =
    let station = l.self.station in
    let heard = with_claims_of (λ n. claim_told n (but l.address (holds station.owners station.rows n))) (take l.place (map (λ e. e.0) station.rows)) [] in
    record {
      stands : StandsListed (record { name = station.claimer.name; address = l.address }) station.grant l.self.lists.keep l.fresh heard;
      owners : KeepsOwners station.owners heard;
    }
