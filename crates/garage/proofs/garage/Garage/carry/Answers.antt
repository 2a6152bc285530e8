use Rattle.std.proofs.Common.{◌+◌, arith, refl, ap, ◌∙◌, sym, subst, length}
use Rattle.std.proofs.lemmas.List.{length-set, length_push}
use Rattle.bus_ledger.specs.BusValue.{Traffic, seat_at}
use Rattle.bus_ledger.specs.Changes.{carried_from, carried_frame}
use Rattle.bus_ledger.specs.Newcomers.{live_units}
use Rattle.bus_ledger.specs.Carrying.{IsCarriedNext, Carries}
use Rattle.bus_ledger.specs.declared.traffic.Carried.{Carried}
use Rattle.bus_ledger.specs.declared.traffic.Carried.TheVariants.{Frame}
use Rattle.bus_ledger.proofs.Sounds.{offer_says}
use Rattle.journal.specs.State.{State}
use Rattle.journal.specs.declared.event.Event.TheVariants.{Carry}
use Rattle.garage.proofs.Events.{carry_table, joins_carry, carry_is, sent_queued, sent_units}
use Rattle.garage.proofs.Standing.{state, stands_more, tallies_still, fresh_still}
use Rattle.garage.proofs.Lists.{lists_pushed}
use Rattle.garage.proofs.garage.Garage.carry.Goals as goal

pub invariant_of-self-2 : goal.invariant_of-self-2
invariant_of-self-2 c =
    let a = c.self.inside in
    let stands = c.self.invariant in
    let k = c.in-Frame.seat in
    let before = a.bus.traffic in
    let did : Carries before (Frame k c.in-Frame.frame) c.carry.new.self.traffic =
    subst (λ (r : Carried). Carries before r c.carry.new.self.traffic) c.in-Frame.is c.in_ok-carried.ensures.ok in
    let q = did.0 in
    let next : IsCarriedNext (state a).traffic k q = subst (λ (t : Traffic). IsCarriedNext t k q) stands.traffic did.1 in
    let now = did.3 in
    let is = carry_is k q (state a) (offer_says (length (state a).traffic.wire) (seat_at (state a).traffic k) q next.offers).first in
    let fits = c.in-Ok.ensures.ok in
    let wires = ap (λ (t : Traffic). length t.wire) now ∙ length_push before.wire (carried_frame k q) in
    let many = ap (λ (t : Traffic). length t.seats) now in
    let lives = ap live_units now ∙ sent_units before k q in
    stands_more a _ (Carry k) stands (record {
      settings = refl;
      journal = c.note_carry.ensures;
      fits = (q, next);
      traffic = now ∙ (ap (carried_from k q) stands.traffic ∙ sym (ap (λ (s : State). s.traffic) is));
      stations = refl;
      posts = λ y h. stands.posts y h ∙ sym (carry_table k y (state a));
      lists = stands.lists;
      units = stands.units ∙ sym (ap (λ (s : State). s.units) is);
      begun = stands.begun ∙ sym (ap (λ (s : State). length s.begun) is);
      injected = omega arith;
      joined = joins_carry k _ ∙ stands.joined;
      tallies = tallies_still a.stations a.places.items _ (Carry k) stands.tallies (λ j t. refl);
      fresh = fresh_still _ (Carry k) (a.stations + length a.places.items) stands.fresh (λ i t. refl);
      seats = (let s = stands.seats in omega (arith, length-set before.seats k));
      live = stands.live ∙ sym lives;
      within = (let w = stands.within in omega arith);
      wire = (let w = stands.wire in omega arith);
      queued = λ j. (let w = stands.queued j in let e = ap (λ (t : Traffic). (seat_at t j).queued) now ∙ sent_queued before k q j in omega arith);
      messages = (let w = stands.messages in omega arith);
      places = (let w = stands.places in omega arith);
    })

pub returns-clause-lists : goal.returns-clause-lists
returns-clause-lists c =
    let a = c.self.inside in
    let k = c.in-Frame.seat in
    let did : Carries a.bus.traffic (Frame k c.in-Frame.frame) c.carry.new.self.traffic =
    subst (λ (r : Carried). Carries a.bus.traffic r c.carry.new.self.traffic) c.in-Frame.is c.in_ok-carried.ensures.ok in
    let next : IsCarriedNext (state a).traffic k did.0 = subst (λ (t : Traffic). IsCarriedNext t k did.0) c.self.invariant.traffic did.1 in
    lists_pushed a c.args.self.now _ _ (Carry k) c.self.view_is c.self.invariant refl (c.note_carry.ensures) (did.0, next)
