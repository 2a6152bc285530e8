use Rattle.std.proofs.Common.{◌+◌, ◌≡◌, arith, refl, ap, ◌∙◌, sym, subst, length, Result, IfOk}
use Rattle.bus_ledger.specs.BusValue.{Traffic, IsLive, seat_at}
use Rattle.bus_ledger.specs.Newcomers.{live_units}
use Rattle.station_table.specs.declared.error.StationError.{StationError}
use Rattle.station_table.specs.declared.reaction.Reaction.{Reaction}
use Rattle.journal.specs.State.{State, table_at}
use Rattle.journal.specs.Steps.{reacted}
use Rattle.journal.specs.Journal.{GarageValue, state_of}
use Rattle.journal.specs.declared.event.Event.TheVariants.{Ordered}
use Rattle.garage.specs.Obeying.{Obeys}
use Rattle.garage.proofs.Standing.{added, station_below, station_there, state, stands_more, tallies_still, fresh_still}
use Rattle.garage.proofs.OrderLemmas.{joins_ordered, ordered_is, reacts}
use Rattle.garage.proofs.InHand.{seat_of_station}
use Rattle.garage.proofs.Lists.{lists_of_event}
use Rattle.garage.proofs.garage.Garage.obey.Goals as goal

pub reserve-requires : goal.reserve-requires
reserve-requires c = seat_of_station c.self.inside c.args.self.now c.args.station c.self.view_is c.self.invariant c.requires.station

pub react-requires-clause-live : goal.react-requires-clause-live
react-requires-clause-live c =
    subst (λ (t : Traffic). IsLive t c.args.station) (sym c.reserve.ensures.traffic) (seat_of_station c.self.inside c.args.self.now c.args.station c.self.view_is c.self.invariant c.requires.station)

pub invariant_of-self-2 : goal.invariant_of-self-2
invariant_of-self-2 c =
    let a = c.self.inside in
    let stands = c.self.invariant in
    let r = c.in-Ok.reaction in
    let now : Obeys (table_at (state_of c.args.self.now) c.args.station) c.args.order r =
    subst (λ (x : Result Reaction StationError). IfOk x (Obeys (table_at (state_of c.args.self.now) c.args.station) c.args.order)) c.in-Ok.is c.requires.obeys in
    let obeys : Obeys (table_at (state a) c.args.station) c.args.order r =
    subst (λ (g : GarageValue). Obeys (table_at (state_of g) c.args.station) c.args.order r) (sym c.self.view_is) now in
    let is = ordered_is c.args.station c.args.order (state a) r obeys.queues in
    let few = obeys.few in
    let kept = reacts c.args.station r a.bus.traffic in
    let done : c.react.new.bus.traffic ≡ reacted c.args.station r a.bus.traffic = c.react.ensures ∙ ap (reacted c.args.station r) c.reserve.ensures.traffic in
    let fits = c.in_ok-check_room.ensures.ok in
    let many = ap (λ (t : Traffic). length t.seats) done ∙ kept.seats in
    let wires = ap (λ (t : Traffic). length t.wire) done ∙ kept.wire in
    let lives = ap live_units done ∙ kept.units in
    stands_more a _ (Ordered c.args.station c.args.order) stands (record {
      settings = refl;
      journal = c.note_order.ensures;
      fits = (station_there a c.args.station stands (station_below a c.args.self.now c.args.station c.self.view_is stands c.requires.station), (r, obeys.queues));
      traffic = done ∙ (ap (reacted c.args.station r) stands.traffic ∙ sym (ap (λ (s : State). s.traffic) is));
      stations = refl;
      posts = λ y h. stands.posts y h ∙ sym (ap (λ (s : State). table_at s y) is);
      lists = stands.lists;
      units = stands.units ∙ sym (ap (λ (s : State). s.units) is);
      begun = stands.begun ∙ sym (ap (λ (s : State). length s.begun) is);
      injected = omega arith;
      joined = joins_ordered c.args.station c.args.order _ ∙ stands.joined;
      tallies = tallies_still a.stations a.places.items _ (Ordered c.args.station c.args.order) stands.tallies (λ j t. refl);
      fresh = fresh_still _ (Ordered c.args.station c.args.order) (a.stations + length a.places.items) stands.fresh (λ i t. refl);
      seats = (let s = stands.seats in omega arith);
      live = stands.live ∙ sym lives;
      within = (let w = stands.within in omega arith);
      wire = (let w = stands.wire in omega arith);
      queued = λ j. (let w = stands.queued j in let e = ap (λ (t : Traffic). (seat_at t j).queued) done in let k = kept.queued j in omega arith);
      messages = (let w = stands.messages in omega arith);
      places = (let w = stands.places in omega arith);
    })

pub returns-clause-ok : goal.returns-clause-ok
returns-clause-ok c =
    let a = c.self.inside in
    let y = c.args.station in
    let r = c.in-Ok.reaction in
    let now : Obeys (table_at (state_of c.args.self.now) y) c.args.order r =
    subst (λ (x : Result Reaction StationError). IfOk x (Obeys (table_at (state_of c.args.self.now) y) c.args.order)) c.in-Ok.is c.requires.obeys in
    let obeys : Obeys (table_at (state a) y) c.args.order r =
    subst (λ (g : GarageValue). Obeys (table_at (state_of g) y) c.args.order r) (sym c.self.view_is) now in
    added a (record { limit = a.limit; bus = c.react.new.bus; posts = a.posts; stations = a.stations; places = a.places; begun = a.begun; live = a.live; injected = a.injected; journal = c.note_order.new.self }) c.args.self.now (Ordered y c.args.order)
    c.self.view_is refl (c.note_order.ensures)
    (station_there a y c.self.invariant (station_below a c.args.self.now y c.self.view_is c.self.invariant c.requires.station), (r, obeys.queues))

pub returns-clause-lists : goal.returns-clause-lists
returns-clause-lists c = lists_of_event c.args.self.now _ (Ordered c.args.station c.args.order) (returns-clause-ok c)
