use Rattle.std.proofs.Common.{map, take}
use Rattle.listener.specs.ListenerValue.{gaps_alone}
use Rattle.station_c.specs.Anew.{IsQuietAs, KeepsOwners, claim_told, gaps_anew, holds, with_claims_of}
use Rattle.station_c.specs.ListedListeners.{HasHeard}
use Rattle.station_c.proofs.listed_listener.ListedListener.with_owners.Given as goal

-- the claims of the NAMEs before the place were told
abbrev pub invariant-loop-place : goal.invariant-loop-place
invariant-loop-place l =
    let ear = l.self.ear.listener in
    let told = with_claims_of (λ n. claim_told n (holds ear.owners ear.rows n)) (take l.place (map (λ e. e.0) ear.rows)) (gaps_alone (gaps_anew l.self)) in
    record { heard : HasHeard l.fresh told; owners : KeepsOwners ear.owners told; quiet : IsQuietAs l.self l.fresh }
