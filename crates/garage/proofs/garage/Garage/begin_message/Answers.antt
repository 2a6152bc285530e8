use Rattle.std.proofs.Common.{ℕ, suc, false, ◌≡◌, arith, refl, ap, ◌∙◌, sym, subst, ◌+◌, ◌-◌, length, map}
use Rattle.std.proofs.lemmas.List.{length-set, length-map}
use Rattle.std.specs.Vec.{with_item}
use Rattle.fault_memory.specs.Memory.{IsLawfulMemory}
use Rattle.bus_ledger.specs.BusValue.{Traffic, seat_at}
use Rattle.bus_ledger.specs.Newcomers.{live_units}
use Rattle.journal.specs.State.{State, UnitState, unit_at, table_at}
use Rattle.journal.specs.Steps.{put_all, tagged}
use Rattle.journal.specs.Journal.{one_more}
use Rattle.journal.specs.declared.event.Event.TheVariants.{Begin}
use Rattle.garage.specs.declared.garage.Place.{Place}
use Rattle.garage.proofs.BeginLemmas.{begins_inside}
use Rattle.garage.proofs.Traffics.{some_live, puts, keeps_refl}
use Rattle.garage.proofs.InHand.{stations_live}
use Rattle.garage.proofs.Events.{begin_did, begin_fits, joins_begin}
use Rattle.garage.proofs.Standing.{windows_are, state, begins_of, seat_few, place_within, unit_now, bus_unit, unit_is, units_same, place_tally, stands_more, tallies_one, fresh_one}
use Rattle.garage.proofs.garage.Garage.begin_message.Goals as goal

pub overflow_add-place : goal.overflow_add-place
overflow_add-place g c =
    let f = seat_few c.self.inside c.args.self.now c.args.seat c.index_mut-place.result.now c.self.view_is c.self.invariant c.requires.unit c.index_mut-place.ensures.value in
    let w = c.self.invariant.within in let l = c.self.invariant.few in let t = f.events in omega arith

pub queue_outs-requires-clause-few : goal.queue_outs-requires-clause-few
queue_outs-requires-clause-few g c =
    let a = c.self.inside in
    let stands = c.self.invariant in
    let ub = bus_unit a c.args.seat stands (unit_now a c.args.self.now c.args.seat c.self.view_is c.requires.unit) in
    let one = some_live a.bus.traffic c.args.seat (stations_live a stands) ub in
    let q = stands.queued c.args.seat in
    let same = ap (λ (t : Traffic). (seat_at t c.args.seat).queued) c.make_ready.ensures.traffic in
    let few = c.requires.few in
    let fits = c.in_ok-make_ready.ensures.room in
    let limit = stands.few in
    let live = stands.live in
    omega arith

pub invariant_of-self-2 : goal.invariant_of-self-2
invariant_of-self-2 g c =
    let a = c.self.inside in
    let stands = c.self.invariant in
    let seat = c.args.seat in
    let k = seat - a.stations in
    let t = a.bus.traffic in
    let s = state a in
    let x = c.index_mut-place.result.now in
    let u = unit_now a c.args.self.now seat c.self.view_is c.requires.unit in
    let one_is = windows_are a stands in
    let low = u.0 in
    let h = place_within a seat stands u in
    let memory = c.of.result in
    let same = unit_is a seat x stands h c.index_mut-place.ensures.value in
    let mem_is = c.of.ensures.value ∙ c.memory.ensures in
    let lawful : IsLawfulMemory memory = subst IsLawfulMemory (sym c.of.ensures.value) c.of.ensures.lawful in
    let put = c.args.put in
    let begins = begins_inside a c.args.self.now seat memory _ put c.self.view_is mem_is c.requires.begins in
    let node = (unit_at s seat).node in
    let fit = begin_fits seat memory s node begins.0 begins.1 put u lawful refl begins.2 begins.3 in
    let is = begin_did seat memory s node begins.0 begins.1 put refl begins.2 begins.3 in
    let number = stands.begun in
    let p : Place = record x { tally = one_more x.tally } in
    let last : x.session_message ≡ (unit_at s seat).session_message = sym (ap (λ (v : UnitState). v.session_message) same) in
    let now = c.queue_outs.ensures
    ∙ ap (put_all seat (map (tagged a.begun false x.session_message) put)) c.make_ready.ensures.traffic in
    let more = puts seat (map (tagged a.begun false x.session_message) put) t t (keeps_refl t) in
    let long = length-map put (tagged a.begun false x.session_message) in
    let few = c.requires.few in
    let lives = ap live_units now ∙ more.units in
    let wires = ap (λ (v : Traffic). length v.wire) now ∙ ap length more.wire in
    let many = ap (λ (v : Traffic). length v.seats) now ∙ more.seats in
    let fits = c.in_ok-make_ready.ensures.room in
    stands_more a _ (Begin seat memory) stands (record {
      settings = refl;
      journal = c.note_begin.ensures;
      fits = fit;
      traffic = now ∙ (ap (λ (i : ℕ). put_all seat (map (tagged i false x.session_message) put) t) number
          ∙ (ap (λ (l : ℕ). put_all seat (map (tagged (length s.begun) false l) put) t) last
          ∙ (ap (put_all seat (map (tagged (length s.begun) false (unit_at s seat).session_message) put)) stands.traffic ∙ sym (ap (λ (v : State). v.traffic) is))));
      stations = refl;
      posts = λ y h. stands.posts y h ∙ sym (ap (λ (v : State). table_at v y) is);
      lists = stands.lists;
      units = units_same a.places.items k x p h c.index_mut-place.ensures.value refl ∙ (stands.units ∙ sym (ap (λ (v : State). v.units) is));
      begun = (let e : a.begun + 1 ≡ suc (length s.begun) = omega arith in e) ∙ sym (ap (λ (v : State). length v.begun) is);
      injected = omega arith;
      joined = joins_begin seat memory _ ∙ (stands.joined ∙ sym (length-set a.places.items k p));
      tallies = tallies_one a.stations a.places.items _ (Begin seat memory) k seat p one_more stands.tallies (λ j t'. refl) (omega arith) h (ap one_more (place_tally a k x h c.index_mut-place.ensures.value));
      fresh = λ j l. fresh_one _ (Begin seat memory) seat (a.stations + length a.places.items) one_more stands.fresh (λ i t'. refl) (omega arith) j (omega (arith, length-set a.places.items k));
      seats = (let y = stands.seats in omega (arith, length-set a.places.items k p));
      live = stands.live ∙ sym lives;
      within = (let w = stands.within in omega arith);
      wire = (let w = stands.wire in omega arith);
      queued = λ j. (let w = stands.queued j in let q = more.queued j in let e = ap (λ (v : Traffic). (seat_at v j).queued) now in omega arith);
      messages = (let w = stands.messages in omega arith);
      places = (let w = stands.places in omega (arith, length-set a.places.items k p));
    })

pub returns-clause-ok : goal.returns-clause-ok
returns-clause-ok g c =
    let a = c.self.inside in
    let stands = c.self.invariant in
    let seat = c.args.seat in
    let s = state a in
    let x = c.index_mut-place.result.now in
    let u = unit_now a c.args.self.now seat c.self.view_is c.requires.unit in
    let h = place_within a seat stands u in
    let memory = c.of.result in
    let mem_is = c.of.ensures.value ∙ c.memory.ensures in
    let lawful : IsLawfulMemory memory = subst IsLawfulMemory (sym c.of.ensures.value) c.of.ensures.lawful in
    let put = c.args.put in
    let begins = begins_inside a c.args.self.now seat memory _ put c.self.view_is mem_is c.requires.begins in
    let node = (unit_at s seat).node in
    let fit = begin_fits seat memory s node begins.0 begins.1 put u lawful refl begins.2 begins.3 in
    begins_of a (record {
      limit = a.limit;
      bus = c.queue_outs.new.bus;
      posts = a.posts;
      stations = a.stations;
      places = with_item a.places (seat - a.stations) (record x { tally = one_more x.tally });
      begun = a.begun + 1;
      live = a.live;
      injected = a.injected;
      journal = c.note_begin.new.self;
    })
    c.args.self.now seat memory _ c.self.view_is refl
    (c.note_begin.ensures)
    mem_is fit
