use Rattle.std.proofs.Common.{◌+◌, arith, refl, ap, ◌∙◌, sym, length}
use Rattle.std.proofs.lemmas.List.{length_push}
use Rattle.bus_ledger.specs.BusValue.{Traffic, seat_at}
use Rattle.bus_ledger.specs.Changes.{injected, stray_frame}
use Rattle.bus_ledger.specs.Newcomers.{live_units}
use Rattle.journal.specs.State.{State, table_at}
use Rattle.journal.specs.declared.event.Event.TheVariants.{Inject}
use Rattle.garage.proofs.Events.{inject_is, injected_few, joins_inject}
use Rattle.garage.proofs.Standing.{state, fresh_still, stands_more, tallies_still}
use Rattle.garage.proofs.Lists.{lists_pushed}
use Rattle.garage.proofs.garage.Garage.inject.Goals as goal

pub overflow_add-self : goal.overflow_add-self
overflow_add-self c =
    let stands = c.self.invariant in
    let i = stands.injected in let f = injected_few c.self.inside.journal in let w = stands.within in let l = stands.few in omega arith

pub invariant_of-self-2 : goal.invariant_of-self-2
invariant_of-self-2 c =
    let a = c.self.inside in
    let stands = c.self.invariant in
    let f = c.args.frame in
    let is = inject_is f (state a) in
    let now = c.in_ok-inject.ensures.ok in
    let fits = c.in_ok-check_room.ensures.ok in
    let wires = ap (λ (t : Traffic). length t.wire) now ∙ length_push a.bus.traffic.wire (stray_frame f) in
    let many = ap (λ (t : Traffic). length t.seats) now in
    stands_more a _ (Inject f) stands (record {
      settings = refl;
      journal = c.note_inject.ensures;
      fits = tt;
      traffic = now ∙ (ap (injected f) stands.traffic ∙ sym (ap (λ (s : State). s.traffic) is));
      stations = refl;
      posts = λ y h. stands.posts y h ∙ sym (ap (λ (s : State). table_at s y) is);
      lists = stands.lists;
      units = stands.units ∙ sym (ap (λ (s : State). s.units) is);
      begun = stands.begun ∙ sym (ap (λ (s : State). length s.begun) is);
      injected = refl;
      joined = joins_inject f _ ∙ stands.joined;
      tallies = tallies_still a.stations a.places.items _ (Inject f) stands.tallies (λ j t. refl);
      fresh = fresh_still _ (Inject f) (a.stations + length a.places.items) stands.fresh (λ i t. refl);
      seats = (let s = stands.seats in omega arith);
      live = stands.live ∙ sym (ap live_units now);
      within = (let w = stands.within in omega arith);
      wire = (let w = stands.wire in omega arith);
      queued = λ j. (let w = stands.queued j in let e = ap (λ (t : Traffic). (seat_at t j).queued) now in omega arith);
      messages = (let w = stands.messages in omega arith);
      places = (let w = stands.places in omega arith);
    })

pub returns-clause-lists : goal.returns-clause-lists
returns-clause-lists c =
    lists_pushed c.self.inside c.args.self.now _ _ (Inject c.args.frame) c.self.view_is c.self.invariant refl (c.note_inject.ensures) tt
