use Rattle.std.proofs.Common.{arith, refl, ap, ◌∙◌, sym, ◌+◌, ◌-◌, length}
use Rattle.std.proofs.lemmas.List.{length-set}
use Rattle.journal.specs.Journal.{one_more}
use Rattle.journal.specs.declared.event.Event.TheVariants.{Turned}
use Rattle.journal.specs.declared.tally.Tally.{Tally}
use Rattle.garage.proofs.Events.{joins_turned}
use Rattle.garage.proofs.Standing.{windows_are, seat_few, place_within, unit_now, units_same, place_tally, stands_more, tallies_one, fresh_one}
use Rattle.garage.proofs.garage.Garage.turned.Goals as goal

pub overflow_add-place : goal.overflow_add-place
overflow_add-place c =
    let f = seat_few c.self.inside c.args.self.now c.args.seat c.index_mut-place.result.now c.self.view_is c.self.invariant c.requires c.index_mut-place.ensures.value in
    let w = c.self.invariant.within in let l = c.self.invariant.few in let t = f.turned in omega arith

pub overflow_add-place-2 : goal.overflow_add-place-2
overflow_add-place-2 c =
    let f = seat_few c.self.inside c.args.self.now c.args.seat c.index_mut-place.result.now c.self.view_is c.self.invariant c.requires c.index_mut-place.ensures.value in
    let w = c.self.invariant.within in let l = c.self.invariant.few in let t = f.events in omega arith

pub invariant_of-self : goal.invariant_of-self
invariant_of-self c =
    let a = c.self.inside in
    let stands = c.self.invariant in
    let x = c.index_mut-place.result.now in
    let u = unit_now a c.args.self.now c.args.seat c.self.view_is c.requires in
    let one_is = windows_are a stands in
    let low = u.0 in
    let h = place_within a c.args.seat stands u in
    let k = c.args.seat - a.stations in
    let fits = c.in_ok-check_room.ensures.ok in
    stands_more a _ (Turned c.args.seat) stands (record {
      settings = refl;
      journal = c.note_turned.ensures;
      fits = u;
      traffic = stands.traffic;
      stations = refl;
      posts = stands.posts;
      lists = stands.lists;
      units = units_same a.places.items k x _ h c.index_mut-place.ensures.value refl ∙ stands.units;
      begun = stands.begun;
      injected = omega arith;
      joined = joins_turned c.args.seat _ ∙ (stands.joined ∙ sym (length-set a.places.items k _));
      tallies = tallies_one a.stations a.places.items _ (Turned c.args.seat) k c.args.seat _ (λ (t : Tally). one_more (record t { turned = t.turned + 1 })) stands.tallies (λ j t. refl) (omega arith) h
          (ap (λ (t : Tally). one_more (record t { turned = t.turned + 1 })) (place_tally a k x h c.index_mut-place.ensures.value));
      fresh = λ j l. fresh_one _ (Turned c.args.seat) c.args.seat (a.stations + length a.places.items) (λ (t : Tally). one_more (record t { turned = t.turned + 1 })) stands.fresh (λ i t. refl) (omega arith) j (omega (arith, length-set a.places.items k));
      seats = (let s = stands.seats in omega (arith, length-set a.places.items k));
      live = stands.live;
      within = (let w = stands.within in omega arith);
      wire = (let w = stands.wire in omega arith);
      queued = λ j. (let w = stands.queued j in omega arith);
      messages = (let w = stands.messages in omega arith);
      places = (let w = stands.places in omega (arith, length-set a.places.items k));
    })
