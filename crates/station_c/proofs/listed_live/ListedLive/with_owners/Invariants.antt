use Rattle.std.proofs.Common.{map, take, []}
use Rattle.live_station.specs.Ear.{frames_told}
use Rattle.station_c.specs.Anew.{KeepsOwners, StandsAfter, but, claim_told, holds, with_claims_of}
use Rattle.station_c.proofs.listed_live.ListedLive.with_owners.Given as goal

-- the claims of the NAMEs before the place were heard
abbrev pub invariant-loop-place : goal.invariant-loop-place
invariant-loop-place l =
    let station = l.self.live.station in
    let heard = with_claims_of (λ n. claim_told n (but l.address (holds station.owners station.rows n))) (take l.place (map (λ e. e.0) station.rows)) [] in
    record {
      stands : StandsAfter l.address l.self l.fresh heard;
      owners : KeepsOwners station.owners (frames_told (record { name = station.claimer.name; address = l.address }) heard);
    }
