use Rattle.std.proofs.Common.{rules, ℕ, List, [], Option, map, subst}
use Rattle.can_frame.specs.FrameValue.{FrameValue}
use Rattle.can_frame.specs.declared.reading.Reading.{Reading}
use Rattle.station_c.specs.Anew.{KeepsOwners, StandsListed, but, claim_told, holds}
use Rattle.station_c.proofs.Begun.{listed_next}
use Rattle.station_c.proofs.Claims.{claims_all, name_is_there, owners_next}
use Rattle.station_c.proofs.listed_station.ListedStation.with_owners.Goals as goal
use Rattle.station_c.proofs.listed_station.ListedStation.with_owners.Goals.{in-Some+in_ok-tell, in_default}

pub loop-place-preserved : goal.loop-place-preserved
loop-place-preserved c =
    let station = c.args.self.now.station in
    let claim : ℕ → Option FrameValue = λ n. claim_told n (but c.args.address (holds station.owners station.rows n)) in
    let names : List ℕ = map (λ e. e.0) station.rows in
    elim c.match-name_at.branch [
      | in-Some+in_ok-tell w ↦ record {
        stands = listed_next (record { name = station.claimer.name; address = c.args.address }) station.grant c.args.self.now.lists.keep
            c.loop-place.fresh w.tell.new.self c.match-name_at.fresh claim names c.loop-place.place w.in-Some.name w.claim_beside-claim.result []
            (search rules) w.claim_beside-claim.ensures.told w.claim_beside-claim.ensures.beside
            (λ r grant keep h is before. w.in_ok-tell.ensures r grant keep h is before) (search rules) c.loop-place.invariant.stands;
        owners = owners_next station.owners claim names c.loop-place.place w.in-Some.name w.claim_beside-claim.result []
            (search rules) w.claim_beside-claim.ensures.told w.claim_beside-claim.ensures.owned c.loop-place.invariant.owners;
      }
      | in_default w ↦ name_is_there station.rows c.loop-place.place _ c.loop-place-test.true (search rules) (search rules)
    ]

pub returns-clause-stands : goal.returns-clause-stands
returns-clause-stands c =
    let station = c.args.self.now.station in
    let claim : ℕ → Option FrameValue = λ n. claim_told n (but c.args.address (holds station.owners station.rows n)) in
    subst (λ (h : List Reading). StandsListed (record { name = station.claimer.name; address = c.args.address }) station.grant c.args.self.now.lists.keep c.loop-place.fresh h)
    (claims_all claim station.rows c.loop-place.place _ [] c.loop-place-test.false c.loop-place.auto.place-end (search rules)) c.loop-place.invariant.stands

pub returns-clause-owners : goal.returns-clause-owners
returns-clause-owners c =
    let station = c.args.self.now.station in
    let claim : ℕ → Option FrameValue = λ n. claim_told n (but c.args.address (holds station.owners station.rows n)) in
    subst (λ (h : List Reading). KeepsOwners station.owners h)
    (claims_all claim station.rows c.loop-place.place _ [] c.loop-place-test.false c.loop-place.auto.place-end (search rules)) c.loop-place.invariant.owners
