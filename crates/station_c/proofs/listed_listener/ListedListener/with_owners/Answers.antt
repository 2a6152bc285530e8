use Rattle.std.proofs.Common.{rules, ◌≡◌, ◌∙◌, ℕ, List, Option, ap, length, map, subst}
use Rattle.can_frame.specs.FrameValue.{FrameValue}
use Rattle.can_frame.specs.declared.reading.Reading.{Reading}
use Rattle.listener.specs.ListenerValue.{ListenerValue, gaps_alone}
use Rattle.station_c.specs.Anew.{IsQuietAs, KeepsOwners, claim_told, gaps_anew, holds}
use Rattle.station_c.specs.ListedListeners.{HasHeard, ListedListenerValue}
use Rattle.station_c.proofs.BegunListening.{heard_next}
use Rattle.station_c.proofs.Claims.{claims_all, name_is_there, owners_next}
use Rattle.station_c.proofs.listed_listener.ListedListener.with_owners.Goals as goal
use Rattle.station_c.proofs.listed_listener.ListedListener.with_owners.Goals.{in-Some+in_ok-tell, in_default}

pub loop-place-preserved : goal.loop-place-preserved
loop-place-preserved c =
    let ear = c.args.self.now.ear.listener in
    let claim : ℕ → Option FrameValue = λ n. claim_told n (holds ear.owners ear.rows n) in
    let names : List ℕ = map (λ e. e.0) ear.rows in
    elim c.match-name_at.branch [
      | in-Some+in_ok-tell w ↦
          (let joined : w.tell.new.self ≡ c.match-name_at.fresh = search rules in
          record {
            heard = heard_next c.loop-place.fresh w.tell.new.self c.match-name_at.fresh claim names c.loop-place.place w.in-Some.name w.claim_held-claim.result (gaps_alone (gaps_anew c.args.self.now))
                (search rules) w.claim_held-claim.ensures.told w.in_ok-tell.ensures.heard joined c.loop-place.invariant.heard;
            owners = owners_next ear.owners claim names c.loop-place.place w.in-Some.name w.claim_held-claim.result (gaps_alone (gaps_anew c.args.self.now))
                (search rules) w.claim_held-claim.ensures.told w.claim_held-claim.ensures.owned c.loop-place.invariant.owners;
            quiet = subst (λ (v : ListedListenerValue). IsQuietAs c.args.self.now v) joined (w.in_ok-tell.ensures.quiet c.args.self.now c.loop-place.invariant.quiet);
          })
      | in_default w ↦ name_is_there ear.rows c.loop-place.place _ c.loop-place-test.true
          (c.names-place-end.ensures.value ∙ ap (λ (l : ListenerValue). length l.rows) (c.listener.ensures ∙ ap (λ (v : ListedListenerValue). v.ear.listener) c.self.view_is)) (search rules)
    ]

pub returns-clause-heard : goal.returns-clause-heard
returns-clause-heard c =
    let ear = c.args.self.now.ear.listener in
    let claim : ℕ → Option FrameValue = λ n. claim_told n (holds ear.owners ear.rows n) in
    subst (λ (h : List Reading). HasHeard c.loop-place.fresh h)
    (claims_all claim ear.rows c.loop-place.place _ (gaps_alone (gaps_anew c.args.self.now)) c.loop-place-test.false c.loop-place.auto.place-end
    (c.names-place-end.ensures.value ∙ ap (λ (l : ListenerValue). length l.rows) (c.listener.ensures ∙ ap (λ (v : ListedListenerValue). v.ear.listener) c.self.view_is))) c.loop-place.invariant.heard

pub returns-clause-owners : goal.returns-clause-owners
returns-clause-owners c =
    let ear = c.args.self.now.ear.listener in
    let claim : ℕ → Option FrameValue = λ n. claim_told n (holds ear.owners ear.rows n) in
    subst (λ (h : List Reading). KeepsOwners ear.owners h)
    (claims_all claim ear.rows c.loop-place.place _ (gaps_alone (gaps_anew c.args.self.now)) c.loop-place-test.false c.loop-place.auto.place-end
    (c.names-place-end.ensures.value ∙ ap (λ (l : ListenerValue). length l.rows) (c.listener.ensures ∙ ap (λ (v : ListedListenerValue). v.ear.listener) c.self.view_is))) c.loop-place.invariant.owners
