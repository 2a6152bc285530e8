use Rattle.std.proofs.Common.{ℕ, ◌≢◌, ◌<◌, set, inl, inr, ◌+◌, ◌≡◌, arith, refl, ap, ◌∙◌, sym, subst, List, length, map, reverse}
use Rattle.bus_ledger.specs.BusValue.{Traffic, IsLive, IsStation, seat_at}
use Rattle.bus_ledger.specs.Newcomers.{live_units}
use Rattle.bus_ledger.specs.Reception.{next_reading, reading_taken}
use Rattle.can_frame.specs.declared.reading.Reading.{Reading}
use Rattle.can_frame.specs.declared.reading.Reading.TheVariants as reading
use Rattle.garage.specs.Answers.{Reads}
use Rattle.std.specs.Vec.{with_item}
use Rattle.station_table.specs.StationValue.{StationValue}
use Rattle.station_table.specs.Steps.{after_reading as station_after}
use Rattle.station_table.specs.Reactions.{station_reaction}
use Rattle.station_table.specs.declared.reaction.Reaction.{Reaction}
use Rattle.journal.specs.State.{Settings, State, StationSetting, table_at}
use Rattle.journal.specs.Steps.{after, reacted}
use Rattle.journal.specs.declared.event.Event.TheVariants.{Read}
use Rattle.garage.proofs.Traffics.{live_read, keeps_read, puts_reacted}
use Rattle.garage.proofs.InHand.{seat_of_station}
use Rattle.garage.proofs.Events.{read_is, readings_with, joins_read}
use Rattle.garage.proofs.Standing.{added, other_table, post_table, read_table, station_below, station_there, state, stands_more, still, tallies_still, fresh_still}
use Rattle.garage.proofs.Headline.{reading_heard}
use Rattle.garage.proofs.Listed.{listed_now, other_reading, own_reading}
use Rattle.garage.proofs.Lists.{lists_read}
use Rattle.bus_model.specs.Heard.{entries_heard}
use Rattle.entry_lists.specs.Entries.{entries_under}
use Rattle.journal.specs.Worlds.{station_of_at}
use Rattle.garage.specs.Inside.{garage_value_of, post_at, post_setting, settings_of}
use Rattle.garage.specs.declared.garage.Post.{Post}
use Rattle.garage.proofs.Posts.{other_post, own_post, same_post, set_settings}
use Rattle.bus_ledger.proofs.Numbers.{same_or_not}
use Rattle.garage.specs.declared.garage.Garage.TheInside.{Inside}
use Rattle.journal.specs.Journal.{Adds, GarageValue, readings_at, state_of}
use Rattle.garage.proofs.garage.Garage.take_reading.Goals as goal

-- a reading that is not empty was taken by its event
reads_some : (y : ℕ) (old : GarageValue) (r : Reading) (new : GarageValue) → r ≢ reading.Empty → Adds old (Read y r) new → Reads y old r new
reads_some y old reading.Empty new n h = absurd (n refl)
reads_some y old (reading.Frame f) new n h = h
reads_some y old (reading.Gap m) new n h = h

-- the reading is the next one of the state
next_is : (a : Inside) (g : GarageValue) (y : ℕ) (r : Reading) → garage_value_of a ≡ g → r ≡ next_reading (state_of g).traffic y → r ≡ next_reading (state a).traffic y
next_is a g y r is next = next ∙ ap (λ (v : GarageValue). next_reading (state_of v).traffic y) (sym is)

pub reserve-requires : goal.reserve-requires
reserve-requires c = seat_of_station c.self.inside c.args.self.now c.args.station c.self.view_is c.self.invariant c.requires.station

pub tap_pass_at-requires : goal.tap_pass_at-requires
tap_pass_at-requires c =
    subst (λ (u : Traffic). IsStation u c.args.station) (sym (c.reserve.ensures.traffic ∙ c.self.invariant.traffic))
    (station_there c.self.inside c.args.station c.self.invariant (station_below c.self.inside c.args.self.now c.args.station c.self.view_is c.self.invariant c.requires.station))

pub react-requires-clause-live : goal.react-requires-clause-live
react-requires-clause-live c =
    let there : IsLive c.reserve.new.self.traffic c.args.station =
    subst (λ (u : Traffic). IsLive u c.args.station) (sym c.reserve.ensures.traffic) (seat_of_station c.self.inside c.args.self.now c.args.station c.self.view_is c.self.invariant c.requires.station) in
    subst (λ (u : Traffic). IsLive u c.args.station) (sym c.tap_pass_at.ensures.traffic) (live_read c.reserve.new.self.traffic c.args.station (next_reading c.reserve.new.self.traffic c.args.station) there)

pub invariant_of-self-2 : goal.invariant_of-self-2
invariant_of-self-2 c =
    let a = c.self.inside in
    let stands = c.self.invariant in
    let y = c.args.station in
    let r = c.args.reading.now in
    let t = a.bus.traffic in
    let s = state a in
    let rx = c.in_ok-reaction.field-0.reaction in
    let few = c.in_ok-reaction.ensures.few in
    let kept = c.reserve.ensures.traffic in
    let below = station_below a c.args.self.now y c.self.view_is stands c.requires.station in
    let x = c.index_mut-post.result.now in
    let read = c.index_mut-post.ensures.value in
    let table = post_table a y x stands below read in
    let in' : y < length a.posts.items = (let e = stands.stations in omega arith) in
    let fit = next_is a c.args.self.now y r c.self.view_is c.requires.next in
    let same = ap (λ (u : Traffic). next_reading u y) (kept ∙ stands.traffic) ∙ sym fit in
    let taken = c.tap_pass_at.ensures.traffic ∙ (ap (λ (z : Reading). reading_taken y z c.reserve.new.self.traffic) same ∙ ap (reading_taken y r) kept) in
    let now = c.react.ensures ∙ ap (reacted y rx) taken in
    let is = read_is y r s in
    let puts = puts_reacted y rx t (reading_taken y r t) (keeps_read y r t) in
    let many = ap (λ (u : Traffic). length u.seats) now in
    let wires = ap (λ (u : Traffic). length u.wire) now ∙ ap length puts.wire in
    let lives = ap live_units now ∙ puts.units in
    let fits = c.in_ok-check_room.ensures.ok in
    let p : Post = (record { setting = x.setting; station = c.take.new.self; lists = c.take.new.lists }) in
    let heard = reading_heard a y x stands below read in
    let lists = listed_now (station_of_at (settings_of a) y) r (readings_at y a.journal) x.lists c.take.new.lists (c.in_ok-reaction.ensures.listed _ _ _ heard.0) heard.1 in
    stands_more a _ (Read y r) stands (record {
      settings = ap (λ (l : List StationSetting). let z : Settings = record { stations = l; limit = a.limit } in z) (set_settings a.posts.items y x p in' read refl);
      journal = c.note_read.ensures;
      fits = (station_there a y stands below, fit, c.requires.some);
      traffic = now ∙ (ap (λ (z : Reaction). reacted y z (reading_taken y r t)) c.in_ok-reaction.ensures.reaction ∙ (ap (λ (z : StationValue). reacted y (station_reaction z r) (reading_taken y r t)) table
          ∙ (ap (λ (u : Traffic). reacted y (station_reaction (table_at s y) r) (reading_taken y r u)) stands.traffic ∙ sym (ap (λ (v : State). v.traffic) is))));
      stations = refl;
      posts = λ j h. elim (same_or_not j y) [
        | inl e ↦
            ap (λ (i : ℕ). (post_at (set a.posts.items y p) i).station) e ∙ (ap (λ (q : Post). q.station) (own_post a.posts.items y p in')
            ∙ (c.in_ok-reaction.ensures.step ∙ (ap (λ (z : StationValue). station_after z r) table ∙ (sym (read_table a y r stands below) ∙ ap (λ (i : ℕ). table_at (after (Read y r) s) i) (sym e)))))
        | inr z ↦ ap (λ (q : Post). q.station) (other_post a.posts.items y j p z) ∙ (stands.posts j h ∙ sym (other_table a y j r z))
      ];
      lists = λ j n k h. elim (same_or_not j y) [
        | inl e ↦
            ap (λ (i : ℕ). entries_under (post_at (set a.posts.items y p) i).lists n k) e ∙ (ap (λ (q : Post). entries_under q.lists n k) (own_post a.posts.items y p in')
            ∙ (lists n k ∙ sym (ap (λ (i : ℕ). reverse (entries_heard (station_of_at (settings_of a) i) n k (readings_with (Read y r) i (readings_at i a.journal)))) e
            ∙ ap (λ (rs : List Reading). reverse (entries_heard (station_of_at (settings_of a) y) n k rs)) (own_reading y r (readings_at y a.journal)))))
        | inr z ↦
            ap (λ (q : Post). entries_under q.lists n k) (other_post a.posts.items y j p z)
            ∙ (stands.lists j n k h ∙ sym (ap (λ (rs : List Reading). reverse (entries_heard (station_of_at (settings_of a) j) n k rs)) (other_reading y j r (readings_at j a.journal) z)))
      ];
      units = stands.units ∙ sym (ap (λ (v : State). v.units) is);
      begun = stands.begun ∙ sym (ap (λ (v : State). length v.begun) is);
      injected = omega arith;
      joined = joins_read y r _ ∙ stands.joined;
      tallies = tallies_still a.stations a.places.items _ (Read y r) stands.tallies (λ j u. refl);
      fresh = fresh_still _ (Read y r) (a.stations + length a.places.items) stands.fresh (λ i u. refl);
      seats = (let e = stands.seats in let z = puts.seats in omega arith);
      live = stands.live ∙ sym lives;
      within = (let w = stands.within in omega arith);
      wire = (let w = stands.wire in omega arith);
      queued = λ j. (let w = stands.queued j in let q = puts.queued j in let e = ap (λ (u : Traffic). (seat_at u j).queued) now in omega arith);
      messages = (let w = stands.messages in omega arith);
      places = (let w = stands.places in omega arith);
    })

pub returns-clause-ok : goal.returns-clause-ok
returns-clause-ok c =
    let a = c.self.inside in
    let y = c.args.station in
    let r = c.args.reading.now in
    let below = station_below a c.args.self.now y c.self.view_is c.self.invariant c.requires.station in
    let in' : y < length a.posts.items = (let e = c.self.invariant.stations in omega arith) in
    let x = c.index_mut-post.result.now in
    let settings = ap (λ (l : List StationSetting). let z : Settings = record { stations = l; limit = a.limit } in z) (set_settings a.posts.items y x (record { setting = x.setting; station = c.take.new.self; lists = c.take.new.lists }) in' c.index_mut-post.ensures.value refl) in
    reads_some y c.args.self.now r _ c.requires.some
    (added a (record { limit = a.limit; bus = c.react.new.bus; posts = with_item a.posts y (record { setting = x.setting; station = c.take.new.self; lists = c.take.new.lists }); stations = a.stations; places = a.places; begun = a.begun; live = a.live; injected = a.injected; journal = c.note_read.new.self })
    c.args.self.now (Read y r) c.self.view_is settings (c.note_read.ensures)
    (station_there a y c.self.invariant below, next_is a c.args.self.now y r c.self.view_is c.requires.next, c.requires.some))

pub returns-clause-lists : goal.returns-clause-lists
returns-clause-lists c = lists_read c.args.station c.args.self.now c.args.reading.now _ (returns-clause-ok c)

-- the station and its lists are as they were (to find that by search takes a third of this function's proof)
pub invariant_of-self-in_err-reaction : goal.invariant_of-self-in_err-reaction
invariant_of-self-in_err-reaction c =
    let a = c.self.inside in
    let stands = c.self.invariant in
    let x = c.index_mut-post.result.now in
    let p : Post = (record { setting = x.setting; station = c.take.new.self; lists = c.take.new.lists }) in
    let in' : c.args.station < length a.posts.items = (let e = stands.stations in let b = station_below a c.args.self.now c.args.station c.self.view_is stands c.requires.station in omega arith) in
    let as_it_was : p ≡ x =
    ap (λ (s : StationValue). let z : Post = record { setting = x.setting; station = s; lists = c.take.new.lists } in z) c.in_err-reaction.ensures.err
    ∙ ap (λ (l : List _). let z : Post = record { setting = x.setting; station = x.station; lists = l } in z) c.in_err-reaction.ensures.err_lists in
    let posts = same_post a.posts.items c.args.station x p in' c.index_mut-post.ensures.value as_it_was in
    still a _ stands (ap (λ (l : List Post). let z : Settings = record { stations = map post_setting l; limit = a.limit } in z) posts) c.reserve.ensures.traffic posts refl refl refl refl refl refl
