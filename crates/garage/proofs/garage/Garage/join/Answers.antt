use Rattle.std.proofs.Common.{ℕ, ◌≡◌, arith, refl, ap, ◌∙◌, sym, subst, List, ◌++◌, ◌∷◌, [], ◌+◌, ◌<◌, ◌^◌, length, map, Some}
use Rattle.std.proofs.lemmas.List.{length_push, map_push}
use Rattle.bus_ledger.specs.BusValue.{Traffic, seat_at}
use Rattle.bus_ledger.specs.Newcomers.{live_units}
use Rattle.journal.specs.State.{State, UnitState, new_unit, table_at}
use Rattle.journal.specs.Journal.{GarageValue, state_of, tally_of}
use Rattle.garage.specs.Inside.{unit_of, place_at}
use Rattle.garage.specs.declared.garage.Place.{Place}
use Rattle.garage.specs.declared.garage.Garage.TheInside.{Inside}
use Rattle.can_frame.specs.FrameValue.{FrameValue}
use Rattle.bus_ledger.specs.Changes.{queued, with_newcomer, newcomer}
use Rattle.node_core.specs.NodeValue.{NodeValue}
use Rattle.address_claim.specs.Frames.{claim_frame_value}
use Rattle.journal.specs.Steps.{untagged}
use Rattle.journal.specs.declared.event.Event.TheVariants.{Join}
use Rattle.bus_ledger.specs.Newcomers.{join_refusal}
use Rattle.garage.proofs.Traffics.{PutsOn, puts, keeps_refl, joined_units, joined_queued}
use Rattle.garage.proofs.InHand.{stations_live}
use Rattle.garage.proofs.Events.{join_is, joins_join}
use Rattle.garage.proofs.Standing.{state, stands_more, tallies_push, fresh_join, added, seated_join}
use Rattle.garage.proofs.Lists.{lists_added}
use Rattle.garage.proofs.garage.Garage.join.Goals as goal

pub invariant_of-self-2 : goal.invariant_of-self-2
invariant_of-self-2 c =
    let a = c.self.inside in
    let stands = c.self.invariant in
    let name = c.args.name in
    let want = c.args.want in
    let t = a.bus.traffic in
    let k = length t.seats in
    let did = c.in_ok-seat.ensures.ok in
    let seat = c.in_ok-seat.seat in
    let small : c.args.name < 2 ^ 64 = subst (λ (n : ℕ). n < 2 ^ 64) (ap (λ (n : NodeValue). n.claimer.name) c.new-node.ensures) c.start-claim.ensures.name_fits in
    let claim = c.start-claim.result in
    let claims = c.start-claim.ensures.frame ∙ ap (λ (n : NodeValue). claim_frame_value n.claimer.name n.claimer.held) c.new-node.ensures in
    let now = c.queue_frames.ensures ∙ (ap (λ (s : ℕ). queued s (untagged claim) c.join.new.self.traffic) did.0 ∙ ap (queued k (untagged claim)) did.2) in
    let is = join_is seat name want (state a) in
    let put : PutsOn 1 (with_newcomer name t) (queued k (untagged claim) (with_newcomer name t)) = puts k (untagged claim ∷ []) (with_newcomer name t) (with_newcomer name t) (keeps_refl (with_newcomer name t)) in
    let more = joined_units t name (stations_live a stands) in
    let lives = ap live_units now ∙ put.units in
    let wires = ap (λ (u : Traffic). length u.wire) now ∙ ap length put.wire in
    let many = ap (λ (u : Traffic). length u.seats) now in
    let many' = put.seats in
    let long = length_push t.seats (newcomer name (length t.wire)) in
    let p : Place = (record { node = c.new-node.result; session_message = 0; tally = record { joined = 1; turned = 0; left = 0; events = 1 } }) in
    let items = c.push_reserved.ensures.items ∙ ap (λ (l : List Place). l ++ p ∷ []) c.reserve.ensures.items in
    let places = ap length items ∙ length_push a.places.items p in
    let fits = c.in_ok-check_room.ensures.ok in
    stands_more a _ (Join seat name want) stands (record {
      settings = refl;
      journal = c.note_join.ensures;
      fits = (did.0 ∙ ap (λ (u : Traffic). length u.seats) stands.traffic, ap (λ (u : Traffic). join_refusal name u) (sym stands.traffic) ∙ did.1, small, c.requires);
      traffic = now ∙ (ap (λ (f : FrameValue). queued k (untagged f) (with_newcomer name t)) claims
          ∙ (ap (λ (u : Traffic). queued (length u.seats) (untagged (claim_frame_value name (Some want))) (with_newcomer name u)) stands.traffic ∙ sym (ap (λ (v : State). v.traffic) is)));
      stations = refl;
      posts = λ y h. stands.posts y h ∙ sym (ap (λ (v : State). table_at v y) is);
      lists = stands.lists;
      units = ap (map unit_of) items ∙ (map_push unit_of a.places.items p ∙ (ap (λ (u : UnitState). map unit_of a.places.items ++ u ∷ []) (ap (λ (x : NodeValue). record { node = x; session_message = 0 }) c.new-node.ensures)
          ∙ (ap (λ (us : List UnitState). us ++ new_unit name want ∷ []) stands.units ∙ sym (ap (λ (v : State). v.units) is))));
      begun = stands.begun ∙ sym (ap (λ (v : State). length v.begun) is);
      injected = omega arith;
      joined = joins_join seat name want a.journal ∙ (let j = stands.joined in omega arith);
      tallies = subst (λ (xs : List Place). (j : ℕ) → j < length xs → (place_at xs j).tally ≡ tally_of (a.stations + j) (Join seat name want ∷ a.journal)) (sym items)
          (tallies_push a.stations a.places.items a.journal p seat name want stands.tallies (let d = did.0 in let x = stands.seats in omega arith) refl (stands.fresh (a.stations + length a.places.items) (omega arith)));
      fresh = λ j l. fresh_join a.journal seat name want (a.stations + length a.places.items) stands.fresh (let d = did.0 in let x = stands.seats in omega arith) j (omega arith);
      seats = (let x = stands.seats in omega arith);
      live = (let x = stands.live in omega arith);
      within = (let w = stands.within in omega arith);
      wire = (let w = stands.wire in omega arith);
      queued = λ j. (let w = stands.queued j in let q = put.queued j in let o = joined_queued t name j in let e = ap (λ (u : Traffic). (seat_at u j).queued) now in omega arith);
      messages = (let w = stands.messages in omega arith);
      places = (let w = stands.places in omega arith);
    })

pub returns-clause-ok : goal.returns-clause-ok
returns-clause-ok c =
    let a = c.self.inside in
    let b : Inside = (record { limit = a.limit; bus = c.queue_frames.new.bus; posts = a.posts; stations = a.stations; places = c.push_reserved.new.self; begun = a.begun; live = a.live + 1; injected = a.injected; journal = c.note_join.new.self }) in
    let stands = c.self.invariant in
    let did = c.in_ok-seat.ensures.ok in
    let small : c.args.name < 2 ^ 64 = subst (λ (n : ℕ). n < 2 ^ 64) (ap (λ (n : NodeValue). n.claimer.name) c.new-node.ensures) c.start-claim.ensures.name_fits in
    let at : c.in_ok-seat.seat ≡ length (state a).traffic.seats = did.0 ∙ ap (λ (u : Traffic). length u.seats) stands.traffic in
    let journal = c.note_join.ensures in (
      at ∙ ap (λ (v : GarageValue). length (state_of v).traffic.seats) c.self.view_is,
      added a b c.args.self.now (Join c.in_ok-seat.seat c.args.name c.args.want) c.self.view_is refl journal (at, ap (λ (u : Traffic). join_refusal c.args.name u) (sym stands.traffic) ∙ did.1, small, c.requires),
      seated_join a b c.args.name c.args.want c.in_ok-seat.seat stands refl journal at,
    )

pub returns-clause-lists : goal.returns-clause-lists
returns-clause-lists c = let did = returns-clause-ok c in lists_added c.self.inside c.args.self.now _ (Join c.in_ok-seat.seat c.args.name c.args.want) c.self.view_is c.self.invariant did.1
