use Rattle.std.proofs.Common.{arith, refl, ap, ◌∙◌, sym, ◌+◌, ◌-◌, length}
use Rattle.std.proofs.lemmas.List.{length-set}
use Rattle.bus_ledger.specs.BusValue.{Traffic, seat_at}
use Rattle.bus_ledger.specs.Changes.{left}
use Rattle.bus_ledger.specs.Newcomers.{live_units}
use Rattle.journal.specs.State.{State, table_at}
use Rattle.journal.specs.Journal.{one_more}
use Rattle.journal.specs.declared.event.Event.TheVariants.{Leave}
use Rattle.journal.specs.declared.tally.Tally.{Tally}
use Rattle.garage.proofs.Traffics.{some_live, live_left}
use Rattle.garage.proofs.InHand.{stations_live}
use Rattle.garage.proofs.Events.{joins_leave, leave_is, left_queued}
use Rattle.garage.proofs.Standing.{seat_low, seat_placed, windows_are, seat_few, place_within, unit_now, units_same, place_tally, stands_more, tallies_one, fresh_one, bus_unit}
use Rattle.garage.proofs.Lists.{lists_pushed}
use Rattle.garage.proofs.garage.Garage.leave.Goals as goal

pub overflow_sub-seat : goal.overflow_sub-seat
overflow_sub-seat c = seat_low c.self.inside c.args.self.now c.args.seat c.self.view_is c.self.invariant c.requires

pub index_mut-place-requires : goal.index_mut-place-requires
index_mut-place-requires c =
    let within = seat_placed c.self.inside c.args.self.now c.args.seat c.self.view_is c.self.invariant c.requires in
    grind (arith)

pub overflow_add-place : goal.overflow_add-place
overflow_add-place c =
    let f = seat_few c.self.inside c.args.self.now c.args.seat c.index_mut-place.result.now c.self.view_is c.self.invariant c.requires c.index_mut-place.ensures.value in
    let w = c.self.invariant.within in let l = c.self.invariant.few in let t = f.left in omega arith

pub overflow_add-place-2 : goal.overflow_add-place-2
overflow_add-place-2 c =
    let f = seat_few c.self.inside c.args.self.now c.args.seat c.index_mut-place.result.now c.self.view_is c.self.invariant c.requires c.index_mut-place.ensures.value in
    let w = c.self.invariant.within in let l = c.self.invariant.few in let t = f.events in omega arith

pub overflow_sub-self : goal.overflow_sub-self
overflow_sub-self c =
    let a = c.self.inside in
    let u = bus_unit a c.args.seat c.self.invariant (unit_now a c.args.self.now c.args.seat c.self.view_is c.requires) in
    let s = some_live a.bus.traffic c.args.seat (stations_live a c.self.invariant) u in
    let l = c.self.invariant.live in omega arith

pub note_leave-requires : goal.note_leave-requires
note_leave-requires c =
    let a = c.self.inside in
    let u = bus_unit a c.args.seat c.self.invariant (unit_now a c.args.self.now c.args.seat c.self.view_is c.requires) in
    let s = some_live a.bus.traffic c.args.seat (stations_live a c.self.invariant) u in
    let l = c.self.invariant.live in let w = c.self.invariant.within in let f = c.self.invariant.few in omega arith

pub invariant_of-self : goal.invariant_of-self
invariant_of-self c =
    let a = c.self.inside in
    let stands = c.self.invariant in
    let x = c.index_mut-place.result.now in
    let u = unit_now a c.args.self.now c.args.seat c.self.view_is c.requires in
    let ub = bus_unit a c.args.seat stands u in
    let one_is = windows_are a stands in
    let low = u.0 in
    let h = place_within a c.args.seat stands u in
    let k = c.args.seat - a.stations in
    let gone = live_left a.bus.traffic c.args.seat (stations_live a c.self.invariant) ub in
    let one = some_live a.bus.traffic c.args.seat (stations_live a c.self.invariant) ub in
    let lives = ap live_units c.leave.ensures.traffic in
    let wires = ap (λ (t : Traffic). length t.wire) c.leave.ensures.traffic in
    let many = ap (λ (t : Traffic). length t.seats) c.leave.ensures.traffic in
    stands_more a _ (Leave c.args.seat) stands (record {
      settings = refl;
      journal = c.note_leave.ensures;
      fits = u;
      traffic = c.leave.ensures.traffic ∙ (ap (left c.args.seat) stands.traffic ∙ sym (ap (λ (s : State). s.traffic) (leave_is c.args.seat _)));
      stations = refl;
      posts = λ y h. stands.posts y h ∙ sym (ap (λ (s : State). table_at s y) (leave_is c.args.seat _));
      lists = stands.lists;
      units = units_same a.places.items k x _ h c.index_mut-place.ensures.value refl ∙ (stands.units ∙ sym (ap (λ (s : State). s.units) (leave_is c.args.seat _)));
      begun = stands.begun ∙ sym (ap (λ (s : State). length s.begun) (leave_is c.args.seat _));
      injected = omega arith;
      joined = joins_leave c.args.seat _ ∙ (stands.joined ∙ sym (length-set a.places.items k _));
      tallies = tallies_one a.stations a.places.items _ (Leave c.args.seat) k c.args.seat _ (λ (t : Tally). one_more (record t { left = t.left + 1 })) stands.tallies (λ j t. refl) (omega arith) h
          (ap (λ (t : Tally). one_more (record t { left = t.left + 1 })) (place_tally a k x h c.index_mut-place.ensures.value));
      fresh = λ j l. fresh_one _ (Leave c.args.seat) c.args.seat (a.stations + length a.places.items) (λ (t : Tally). one_more (record t { left = t.left + 1 })) stands.fresh (λ i t. refl) (omega arith) j (omega (arith, length-set a.places.items k));
      seats = (let s = stands.seats in omega (arith, length-set a.places.items k, length-set a.bus.traffic.seats c.args.seat));
      live = (let l = stands.live in omega arith);
      within = (let w = stands.within in let l = stands.live in omega arith);
      wire = (let w = stands.wire in omega arith);
      queued = λ j. (let w = stands.queued j in let q = left_queued a.bus.traffic c.args.seat j in let e = ap (λ (t : Traffic). (seat_at t j).queued) c.leave.ensures.traffic in omega arith);
      messages = (let w = stands.messages in omega arith);
      places = (let w = stands.places in omega (arith, length-set a.places.items k));
    })

pub returns-clause-lists : goal.returns-clause-lists
returns-clause-lists c =
    let a = c.self.inside in
    lists_pushed a c.args.self.now _ _ (Leave c.args.seat) c.self.view_is c.self.invariant refl c.note_leave.ensures (unit_now a c.args.self.now c.args.seat c.self.view_is c.requires)
