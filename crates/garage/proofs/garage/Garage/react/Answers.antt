use Rattle.std.proofs.Common.{◌+◌, ℕ, ◌≡◌, arith, refl, ap, ◌∙◌, sym, subst, List, ◌-◌, ◌<◌, length, map, set, Bool, Some}
use Rattle.std.proofs.lemmas.List.{length-set, length-map, map-set}
use Rattle.fault_memory.specs.Memory.{MemoryValue, IsLawfulMemory}
use Rattle.bus_ledger.specs.BusValue.{Traffic, seat_at}
use Rattle.bus_ledger.specs.Changes.{heard_more}
use Rattle.bus_ledger.specs.Newcomers.{live_units}
use Rattle.node_core.specs.NodeValue.{NodeValue}
use Rattle.node_core.specs.Reaction.{reaction, node_after}
use Rattle.unit_trait.specs.declared.question.Question.{Question}
use Rattle.node_core.specs.Deed.{heard_of}
use Rattle.journal.specs.State.{State, UnitState, unit_at, table_at}
use Rattle.journal.specs.Steps.{put_all, tagged, begins_session, session_message_after, withdrawn_by, next_for}
use Rattle.journal.specs.Journal.{GarageValue, state_of, one_more}
use Rattle.journal.specs.declared.event.Event.TheVariants.{Hear}
use Rattle.std.specs.Vec.{with_item}
use Rattle.garage.specs.Inside.{unit_of}
use Rattle.garage.specs.Answers.{count_with_begun}
use Rattle.garage.specs.declared.garage.Place.{Place}
use Rattle.garage.proofs.Traffics.{some_live, puts, keeps_heard, keeps_withdrawn_by, keeps_then}
use Rattle.garage.proofs.InHand.{stations_live}
use Rattle.garage.proofs.Events.{hear_did, begun_length, begun_few, next_within, is_answered, joins_hear}
use Rattle.garage.proofs.Standing.{stations_are, windows_are, state, seat_few, place_within, unit_now, bus_unit, unit_is, place_tally, stands_more, tallies_one, fresh_one, hears_of, still, same_place}
use Rattle.garage.proofs.Lent.{on_err}
use Rattle.garage.proofs.garage.Garage.react.Goals as goal

pub invariant_of-self-in_err-heard : goal.invariant_of-self-in_err-heard
invariant_of-self-in_err-heard g c =
    let a = c.self.inside in
    let stands = c.self.invariant in
    let x = c.index_mut-place.result.now in
    let u = unit_now a c.args.self.now c.args.seat c.self.view_is c.requires.unit in
    let h = place_within a c.args.seat stands u in
    let node = c.in_err-heard.ensures.kept in
    still a _ stands refl c.make_ready.ensures.traffic refl refl
    (same_place a.places.items (c.args.seat - a.stations) x _ h c.index_mut-place.ensures.value (ap (λ (n : NodeValue). record { node = n; session_message = x.session_message; tally = x.tally }) node))
    refl refl refl refl

pub overflow_add-place : goal.overflow_add-place
overflow_add-place g c =
    let f = seat_few c.self.inside c.args.self.now c.args.seat c.index_mut-place.result.now c.self.view_is c.self.invariant c.requires.unit c.index_mut-place.ensures.value in
    let w = c.self.invariant.within in let l = c.self.invariant.few in let t = f.events in omega arith

pub do_heard-requires-clause-next : goal.do_heard-requires-clause-next
do_heard-requires-clause-next g c =
    let a = c.self.inside in
    let s = state a in
    let next : next_for s c.args.seat ≡ Some c.args.frame = ap (λ (w : GarageValue). next_for (state_of w) c.args.seat) c.self.view_is ∙ c.requires.next in
    let there = next_within s.traffic.wire (seat_at s.traffic c.args.seat).heard c.args.frame next in
    subst (λ (t : Traffic). (seat_at t c.args.seat).heard < length t.wire) (sym (c.make_ready.ensures.traffic ∙ c.self.invariant.traffic)) there

pub do_heard-requires-clause-few : goal.do_heard-requires-clause-few
do_heard-requires-clause-few g c =
    let a = c.self.inside in
    let stands = c.self.invariant in
    let ub = bus_unit a c.args.seat stands (unit_now a c.args.self.now c.args.seat c.self.view_is c.requires.unit) in
    let one = some_live a.bus.traffic c.args.seat (stations_live a stands) ub in
    let q = stands.queued c.args.seat in
    let same = ap (λ (t : Traffic). (seat_at t c.args.seat).queued) c.make_ready.ensures.traffic in
    let few = c.in_ok-heard.ensures.few in
    let fits = c.in_ok-make_ready.ensures.room in
    let limit = stands.few in
    let live = stands.live in
    omega arith

pub invariant_of-self-2 : goal.invariant_of-self-2
invariant_of-self-2 g c =
    let a = c.self.inside in
    let stands = c.self.invariant in
    let seat = c.args.seat in
    let k = seat - a.stations in
    let t = a.bus.traffic in
    let s = state a in
    let x = c.index_mut-place.result.now in
    let u = unit_now a c.args.self.now seat c.self.view_is c.requires.unit in
    let ub = bus_unit a seat stands u in
    let one_is = windows_are a stands in
    let low = u.0 in
    let h = place_within a seat stands u in
    let f = c.args.frame in
    let heard = c.in_ok-heard.heard in
    let memory = c.of-memory.result in
    let node' = c.hear.new.self in
    let last = c.last_session-place.result in
    let p : Place = (record { node = node'; session_message = last; tally = one_more x.tally }) in
    let same = unit_is a seat x stands h c.index_mut-place.ensures.value in
    let next : next_for s seat ≡ Some f = ap (λ (w : GarageValue). next_for (state_of w) seat) c.self.view_is ∙ c.requires.next in
    let there = next_within s.traffic.wire (seat_at s.traffic seat).heard f next in
    let mem_is = c.of-memory.ensures.value ∙ c.memory.ensures in
    let lawful = subst IsLawfulMemory (sym c.of-memory.ensures.value) c.of-memory.ensures.lawful in
    let reacts = c.in_ok-heard.ensures.heard in
    let is = hear_did seat memory f s x.node heard node' next (ap (λ (v : UnitState). v.node) same)
    (reacts.heard_is ∙ ap (λ (m : MemoryValue). heard_of heard.answer (reaction x.node m heard.answer f)) (sym mem_is))
    (reacts.node_is ∙ ap (λ (m : MemoryValue). node_after x.node m heard.answer f) (sym mem_is)) in
    let said = c.begins_session.ensures in
    let number = stands.begun in
    let last_is = c.last_session-place.ensures ∙ (ap (λ (m : ℕ). session_message_after m a.begun heard.begun) (sym (ap (λ (v : UnitState). v.session_message) same))
    ∙ ap (λ (n : ℕ). session_message_after (unit_at s seat).session_message n heard.begun) number) in
    let now = c.do_heard.ensures ∙ ap (λ (b : Traffic). put_all seat (map (tagged a.begun c.begins_session.result last) heard.put) (withdrawn_by seat heard.withdraw (heard_more seat 1 b))) c.make_ready.ensures.traffic in
    let put = puts seat (map (tagged a.begun c.begins_session.result last) heard.put) t (withdrawn_by seat heard.withdraw (heard_more seat 1 t))
    (keeps_then t (heard_more seat 1 t) _ (keeps_heard t seat 1) (keeps_withdrawn_by seat heard.withdraw (heard_more seat 1 t))) in
    let long = length-map heard.put (tagged a.begun c.begins_session.result last) in
    let few = c.in_ok-heard.ensures.few in
    let lives = ap live_units now ∙ put.units in
    let wires = ap (λ (b : Traffic). length b.wire) now ∙ ap length put.wire in
    let many = ap (λ (b : Traffic). length b.seats) now in
    let many' = put.seats in
    let fits = c.in_ok-make_ready.ensures.room in
    let counted = c.begun_count-begun.ensures in
    let one = begun_few a.begun heard.begun in
    stands_more a _ (Hear seat memory heard.answer) stands (record {
      settings = refl;
      journal = c.note_hear.ensures;
      fits = (u, there, lawful, is_answered (unit_at s seat).node x.node (next_for s seat) f heard.answer (ap (λ (v : UnitState). v.node) same) next reacts.answer_is);
      traffic = now ∙ (ap (λ (n : ℕ). put_all seat (map (tagged n c.begins_session.result last) heard.put) (withdrawn_by seat heard.withdraw (heard_more seat 1 t))) number
          ∙ (ap (λ (b : Bool). put_all seat (map (tagged (length s.begun) b last) heard.put) (withdrawn_by seat heard.withdraw (heard_more seat 1 t))) said
          ∙ (ap (λ (l : ℕ). put_all seat (map (tagged (length s.begun) (begins_session heard.begun) l) heard.put) (withdrawn_by seat heard.withdraw (heard_more seat 1 t))) last_is
          ∙ (ap (λ (b : Traffic). put_all seat (map (tagged (length s.begun) (begins_session heard.begun) (session_message_after (unit_at s seat).session_message (length s.begun) heard.begun)) heard.put) (withdrawn_by seat heard.withdraw (heard_more seat 1 b))) stands.traffic
          ∙ sym (ap (λ (v : State). v.traffic) is)))));
      stations = refl;
      posts = λ y h. stands.posts y h ∙ sym (ap (λ (v : State). table_at v y) is);
      lists = stands.lists;
      units = map-set unit_of a.places.items k p ∙ (ap (λ (l : ℕ). set (map unit_of a.places.items) k (record { node = node'; session_message = l })) last_is
          ∙ (ap (λ (us : List UnitState). set us k (record { node = node'; session_message = session_message_after (unit_at s seat).session_message (length s.begun) heard.begun })) stands.units
          ∙ (ap (λ (n : ℕ). set s.units (seat - n) (record { node = node'; session_message = session_message_after (unit_at s seat).session_message (length s.begun) heard.begun })) (sym (stations_are a stands)) ∙ sym (ap (λ (v : State). v.units) is))));
      begun = counted ∙ (ap (λ (n : ℕ). count_with_begun n heard.begun) number ∙ (sym (begun_length s.begun seat (seat_at s.traffic seat).name memory heard.begun) ∙ sym (ap (λ (v : State). length v.begun) is)));
      injected = omega arith;
      joined = joins_hear seat memory heard.answer _ ∙ (stands.joined ∙ sym (length-set a.places.items k p));
      tallies = tallies_one a.stations a.places.items _ (Hear seat memory heard.answer) k seat p one_more stands.tallies (λ j t'. refl) (omega arith) h (ap one_more (place_tally a k x h c.index_mut-place.ensures.value));
      fresh = λ j l. fresh_one _ (Hear seat memory heard.answer) seat (a.stations + length a.places.items) one_more stands.fresh (λ i t'. refl) (omega arith) j (omega (arith, length-set a.places.items k));
      seats = (let y = stands.seats in omega (arith, length-set a.places.items k p));
      live = stands.live ∙ sym lives;
      within = (let w = stands.within in omega arith);
      wire = (let w = stands.wire in omega arith);
      queued = λ j. (let w = stands.queued j in let q = put.queued j in let e = ap (λ (b : Traffic). (seat_at b j).queued) now in omega arith);
      messages = (let w = stands.messages in omega arith);
      places = (let w = stands.places in omega (arith, length-set a.places.items k p));
    })

pub returns-clause-ok : goal.returns-clause-ok
returns-clause-ok g c =
    let asked = c.in_ok-heard.ensures.asked in
    let a = c.self.inside in
    let stands = c.self.invariant in
    let seat = c.args.seat in
    let t = a.bus.traffic in
    let x = c.index_mut-place.result.now in
    let u = unit_now a c.args.self.now seat c.self.view_is c.requires.unit in
    let h = place_within a seat stands u in
    let f = c.args.frame in
    let heard = c.in_ok-heard.heard in
    let memory = c.of-memory.result in
    let same = unit_is a seat x stands h c.index_mut-place.ensures.value in
    let s = state a in
    let next : next_for s seat ≡ Some f = ap (λ (w : GarageValue). next_for (state_of w) seat) c.self.view_is ∙ c.requires.next in
    let there = next_within s.traffic.wire (seat_at s.traffic seat).heard f next in
    let mem_is = c.of-memory.ensures.value ∙ c.memory.ensures in
    let lawful = subst IsLawfulMemory c.memory.ensures c.of-memory.ensures.lawful in
    let reacts = c.in_ok-heard.ensures.heard in
    let answers : Question → Bool → _ → Type 0 = (goal.Unit-dyn g c.args.unit.now).Answers c.args.unit.now.1 in (
      asked.0,
      asked.1,
      hears_of a (record {
        limit = a.limit;
        bus = c.do_heard.new.bus;
        posts = a.posts;
        stations = a.stations;
        places = with_item a.places (seat - a.stations) (record { node = c.hear.new.self; session_message = c.last_session-place.result; tally = one_more x.tally });
        begun = c.begun_count-begun.result;
        live = a.live;
        injected = a.injected;
        journal = c.note_hear.new.self;
      })
          c.args.self.now seat x.node f heard.answer memory _ _ answers c.args.unit.now.1 asked.0 c.self.view_is refl
          (c.note_hear.ensures)
          mem_is next (u, there, lawful, is_answered (unit_at (state a) seat).node x.node (next_for (state a) seat) f heard.answer (ap (λ (v : UnitState). v.node) same) next reacts.answer_is)
          (ap (λ (v : UnitState). v.node) same) reacts.memory_is asked.2,
    )

pub returns-in_err-heard-clause-unasked : goal.returns-in_err-heard-clause-unasked
returns-in_err-heard-clause-unasked g c = on_err c.from_residual-in_err-heard.result c.in_err-heard.ensures.unasked
