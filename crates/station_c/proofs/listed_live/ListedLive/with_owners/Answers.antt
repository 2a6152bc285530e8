use Rattle.std.proofs.Common.{rules, ℕ, List, [], Option, map, subst}
use Rattle.can_frame.specs.FrameValue.{FrameValue}
use Rattle.can_frame.specs.declared.reading.Reading.{Reading}
use Rattle.live_station.specs.Ear.{frames_told}
use Rattle.station_c.specs.Anew.{KeepsOwners, StandsAfter, but, claim_told, holds}
use Rattle.station_c.proofs.BegunLive.{heard_next}
use Rattle.station_c.proofs.Claims.{claims_all, name_is_there, told_next}
use Rattle.station_c.proofs.listed_live.ListedLive.with_owners.Goals as goal
use Rattle.station_c.proofs.listed_live.ListedLive.with_owners.Goals.{in-Some+in_ok-tell, in_default}

pub loop-place-preserved : goal.loop-place-preserved
loop-place-preserved c =
    let station = c.args.self.now.live.station in
    let claim : ℕ → Option FrameValue = λ n. claim_told n (but c.args.address (holds station.owners station.rows n)) in
    let names : List ℕ = map (λ e. e.0) station.rows in
    elim c.match-name_at.branch [
      | in-Some+in_ok-tell w ↦ record {
        stands = heard_next c.args.address c.args.self.now c.loop-place.fresh w.tell.new.self c.match-name_at.fresh claim names c.loop-place.place w.in-Some.name
            w.claim_beside-claim.result [] (search rules) w.claim_beside-claim.ensures.told w.claim_beside-claim.ensures.beside
            (λ address old h is before. w.in_ok-tell.ensures address old h is before) (search rules) c.loop-place.invariant.stands;
        owners = told_next (record { name = station.claimer.name; address = c.args.address }) station.owners claim names c.loop-place.place w.in-Some.name
            w.claim_beside-claim.result [] (search rules) w.claim_beside-claim.ensures.told w.claim_beside-claim.ensures.owned c.loop-place.invariant.owners;
      }
      | in_default w ↦ name_is_there station.rows c.loop-place.place _ c.loop-place-test.true (search rules) (search rules)
    ]

pub returns-clause-stands : goal.returns-clause-stands
returns-clause-stands c =
    let station = c.args.self.now.live.station in
    let claim : ℕ → Option FrameValue = λ n. claim_told n (but c.args.address (holds station.owners station.rows n)) in
    subst (λ (h : List Reading). StandsAfter c.args.address c.args.self.now c.loop-place.fresh h)
    (claims_all claim station.rows c.loop-place.place _ [] c.loop-place-test.false c.loop-place.auto.place-end (search rules)) c.loop-place.invariant.stands

pub returns-clause-owners : goal.returns-clause-owners
returns-clause-owners c =
    let station = c.args.self.now.live.station in
    let claim : ℕ → Option FrameValue = λ n. claim_told n (but c.args.address (holds station.owners station.rows n)) in
    subst (λ (h : List Reading). KeepsOwners station.owners (frames_told (record { name = station.claimer.name; address = c.args.address }) h))
    (claims_all claim station.rows c.loop-place.place _ [] c.loop-place-test.false c.loop-place.auto.place-end (search rules)) c.loop-place.invariant.owners
