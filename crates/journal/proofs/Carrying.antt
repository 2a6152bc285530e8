-- A frame of a unit that is carried is a step of the law's machine.
use Rattle.std.proofs.Common.{ℕ, suc, zero, ◌≡◌, ◌+◌, ◌<◌, List, [], ◌∷◌, ◌++◌, map, reverse, take, drop, length, get_or, set, slice_get, true, Some, refl, sym, ap, ◌∙◌, subst, arith}
use Rattle.std.proofs.lemmas.List.{length-set, length_push, length-map, map-append, reverse-append, set-get_or, set_past, take_all, get_or-set_same, get_or-set_other}
use Rattle.bus_ledger.specs.BusValue.{SeatValue, Traffic, IsUnit, nobody, seat_at}
use Rattle.bus_ledger.specs.Changes.{carried_frame, carried_from, sending}
use Rattle.bus_ledger.specs.Carrying.{IsCarriedNext, offer}
use Rattle.bus_ledger.specs.declared.traffic.QueuedFrame.{QueuedFrame}
use Rattle.bus_ledger.proofs.Sounds.{IsOffer, offer_says}
use Rattle.bus_model.specs.Messages.{Message}
use Rattle.bus_model.specs.Traffic.{Item}
use Rattle.bus_model.specs.Machine.{Carry, Seat, Step}
use Rattle.journal.specs.State.{Settings, State, StationState, UnitState, new_unit, path_at}
use Rattle.journal.specs.Steps.{after_carry_of, item_of}
use Rattle.journal.specs.Worlds.{items_of, queued_item, queue_of, world_of}
use Rattle.journal.proofs.Seated.{AreKnown, IsKnown, IsSeat, Stands, no_seat}
use Rattle.journal.proofs.Growth.{carried_push, items_same, numbers_set, seat_carried, seated_set}
use Rattle.journal.proofs.Changed.{names_changed}
use Rattle.journal.proofs.Posts.{post_carried, stations_same, world_parts}
use Rattle.journal.proofs.Coming.{live_seat, place_within}

-- a queue with a first frame
pub first_of : (qs : List QueuedFrame) (q : QueuedFrame) → slice_get qs 0 ≡ Some q → qs ≡ q ∷ drop 1 qs
first_of [] q e = absurd cc
first_of (p ∷ qs) q e = go p q e
  where
    go : (p q : QueuedFrame) → Some p ≡ Some q → p ∷ qs ≡ q ∷ qs
    go p q e = cc

-- a seat that offers a frame was given
pub offers_given : (t : Traffic) (k : ℕ) (q : QueuedFrame) → offer t k ≡ Some q → k < length t.seats
offers_given t k q e = go t.seats k (offer_says (length t.wire) (seat_at t k) q e).live
  where
    go : (xs : List SeatValue) (k : ℕ) → (get_or xs k nobody).live ≡ true → k < length xs
    go [] k e = absurd cc
    go (x ∷ xs) zero e = omega arith
    go (x ∷ xs) (suc k) e = let l = go xs k e in omega arith

-- ---- the state after it

-- the first frame of unit j's queue is carried
sent : ℕ → QueuedFrame → State → State
sent j q s = record s { traffic = carried_from (length s.stations + j) q s.traffic }

sent_is : (j : ℕ) (q : QueuedFrame) (s : State) → after_carry_of (Some q) (length s.stations + j) s ≡ sent j q s
unfolding after_carry_of sent
sent_is j q s = ap (λ (xs : List StationState). record (sent j q s) { stations = xs }) (set_past s.stations (length s.stations + j) _ (omega arith))

carried_item : State → ℕ → QueuedFrame → Item
carried_item s j q = queued_item s.begun (length s.stations + j) (seat_at s.traffic (length s.stations + j)).name q

items_sent : (r : Settings) (s : State) (seats : List Seat) (j : ℕ) (q : QueuedFrame) → Stands r s seats → length s.stations + j < length s.traffic.seats → items_of (sent j q s) ≡ items_of s ++ carried_item s j q ∷ []
unfolding sent carried_item
items_sent r s seats j q st l =
    let v : SeatValue = sending (seat_at s.traffic (length s.stations + j)) in
    let there : seat_at (carried_from (length s.stations + j) q s.traffic) (length s.stations + j) ≡ v = get_or-set_same s.traffic.seats (length s.stations + j) v nobody l in
    map-append (item_of (sent j q s)) s.traffic.wire (carried_frame (length s.stations + j) q ∷ [])
    ∙ (ap (λ (es : List Item). es ++ item_of (sent j q s) (carried_frame (length s.stations + j) q) ∷ []) (items_same s (sent j q s) s.traffic.wire (λ k lt. names_changed s j v refl l k) refl st.carried)
    ∙ rw there refl)

first_known : (begun : List Message) (qs : List QueuedFrame) (q : QueuedFrame) → qs ≡ q ∷ drop 1 qs → AreKnown begun qs → IsKnown begun q.tag × AreKnown begun (drop 1 qs)
first_known begun qs q e k = subst (AreKnown begun) e k

pub carry_runs : (r : Settings) (s : State) (seats : List Seat) (j : ℕ) (q : QueuedFrame) → Stands r s seats → IsCarriedNext s.traffic (length s.stations + j) q
    → (seats' : List Seat) × Step (world_of r s seats) (Carry j) (world_of r (after_carry_of (slice_get (seat_at s.traffic (length s.stations + j)).queue 0) (length s.stations + j) s) seats')
    × Stands r (after_carry_of (slice_get (seat_at s.traffic (length s.stations + j)).queue 0) (length s.stations + j) s) seats'
unfolding sent carried_item
carry_runs r s seats j q st next = rw ((offer_says (length s.traffic.wire) (seat_at s.traffic (length s.stations + j)) q next.offers).first, sent_is j q s) runs
  where
    v : SeatValue
    v = seat_at s.traffic (length s.stations + j)

    offers : IsOffer (length s.traffic.wire) v q
    offers = offer_says (length s.traffic.wire) v q next.offers

    given : length s.stations + j < length s.traffic.seats
    given = offers_given s.traffic (length s.stations + j) q next.offers

    unit : IsUnit s.traffic (length s.stations + j)
    unit = ((let w = st.windows in omega arith), given, offers.live)

    l : j < length s.units
    l = place_within r s seats j st unit

    x : Seat
    x = get_or seats j no_seat

    u : UnitState
    u = get_or s.units j (new_unit 0 0)

    e : Item
    e = carried_item s j q

    rest : List Item
    rest = reverse (map (queued_item s.begun (length s.stations + j) v.name) (drop 1 v.queue))

    split : v.queue ≡ q ∷ drop 1 v.queue
    split = first_of v.queue q offers.first

    queue : x.queue ≡ rest ++ e ∷ []
    queue =
        (st.seated j l).queue
        ∙ (ap (λ (k : ℕ). reverse (map (queued_item s.begun k v.name) v.queue)) (st.numbers j l)
        ∙ (ap (λ (qs : List QueuedFrame). reverse (map (queued_item s.begun (length s.stations + j) v.name) qs)) split
        ∙ reverse-append (queued_item s.begun (length s.stations + j) v.name q ∷ []) (map (queued_item s.begun (length s.stations + j) v.name) (drop 1 v.queue))))

    whole : take v.heard (items_of s) ≡ items_of s
    whole = (let h = offers.heard in let n = length-map s.traffic.wire (item_of s) in take_all v.heard (items_of s) (omega arith))

    heard : x.heard ≡ reverse (items_of s)
    heard = (st.seated j l).heard ∙ ap reverse whole

    y : Seat
    y = record x { queue = rest; heard = e ∷ reverse (items_of s) }

    now : State
    now = sent j q s

    items : items_of now ≡ items_of s ++ e ∷ []
    items = items_sent r s seats j q st given

    wire : reverse (items_of now) ≡ e ∷ reverse (items_of s)
    wire = ap reverse items ∙ reverse-append (items_of s) (e ∷ [])

    known : IsKnown s.begun q.tag × AreKnown s.begun (drop 1 v.queue)
    known = first_known s.begun v.queue q split (st.seated j l).known

    seat : IsSeat s.begun (items_of s ++ e ∷ []) (sending v) u y
    seat =
        let old = st.seated j l in
        let long = length-map s.traffic.wire (item_of s) in
        let more = length_push (items_of s) e in
        let h = offers.heard in
        record {
          unit = old.unit;
          live = old.live;
          queue = ap (λ (k : ℕ). reverse (map (queued_item s.begun k v.name) (drop 1 v.queue))) (sym (st.numbers j l));
          known = known.1;
          heard = sym (ap reverse (take_all (v.heard + 1) (items_of s ++ e ∷ []) (omega arith)) ∙ reverse-append (items_of s) (e ∷ []));
          within = omega arith;
          session = old.session;
          owner = old.owner;
        }

    of_station : (y : ℕ) → y < length s.stations → seat_at now.traffic y ≡ seat_at s.traffic y
    of_station y h = get_or-set_other s.traffic.seats (length s.stations + j) y (sending v) nobody (λ e. absurd (omega (arith, e, h)))

    seats_now : now.traffic.seats ≡ set s.traffic.seats (length s.stations + j) (sending v)
    seats_now = refl

    wire_now : now.traffic.wire ≡ s.traffic.wire ++ carried_frame (length s.stations + j) q ∷ []
    wire_now = refl

    same : (now.units ≡ s.units) × (now.begun ≡ s.begun) × (now.stations ≡ s.stations)
    same = (refl, refl, refl)

    seated : (i : ℕ) → i < length s.units → IsSeat s.begun (items_of s ++ e ∷ []) (get_or (set s.traffic.seats (length s.stations + j) (sending v)) (length s.stations + i) nobody) (get_or s.units i (new_unit 0 0)) (get_or (set seats j y) i no_seat)
    seated i lt =
        let at = seated_set (IsSeat s.begun (items_of s ++ e ∷ [])) (length s.stations) s.traffic.seats s.units seats j (sending v) u y st.count st.places seat
        (λ i lt. seat_carried s.begun (items_of s) e (seat_at s.traffic (length s.stations + i)) (get_or s.units i (new_unit 0 0)) (get_or seats i no_seat) (st.seated i lt)) i lt in
        subst (λ (us : List UnitState). IsSeat s.begun (items_of s ++ e ∷ []) (get_or (set s.traffic.seats (length s.stations + j) (sending v)) (length s.stations + i) nobody) (get_or us i (new_unit 0 0)) (get_or (set seats j y) i no_seat))
        (set-get_or s.units j (new_unit 0 0)) at

    stands : Stands r now (set seats j y)
    stands =
        let long = length-map s.traffic.wire (item_of s) in
        let more = length_push s.traffic.wire (carried_frame (length s.stations + j) q) in
        let places = length-set seats j y in
        record {
          settings = st.settings;
          windows = st.windows;
          posts = λ y h. rw (of_station y h, items) (post_carried (items_of s) e (seat_at s.traffic y) (path_at s y) (st.posts y h));
          carried = rw (length-set s.traffic.seats (length s.stations + j) (sending v)) (carried_push s.begun (length s.traffic.seats) s.traffic.wire (carried_frame (length s.stations + j) q) st.carried (record { seat = given; known = known.0 }));
          count = (let n = st.count in let m = length-set s.traffic.seats (length s.stations + j) (sending v) in omega arith);
          places = (let n = st.places in omega arith);
          numbers = numbers_set (length s.stations) seats j (length s.units) y st.places (st.numbers j l) st.numbers;
          seated = λ i lt. rw items (seated i lt);
        }

    runs : (seats' : List Seat) × Step (world_of r s seats) (Carry j) (world_of r now seats') × Stands r now seats'
    runs = (
      set seats j y,
      (x, e, rest, live_seat r s seats j st unit, queue, heard, world),
      stands,
    )
      where
        world : world_of r now (set seats j y) ≡ record (world_of r s seats) { wire = e ∷ reverse (items_of s); seats = set seats j y }
        world =
            world_parts (stations_same r s now (λ y h. (let given : y < length s.stations = subst (λ (k : ℕ). y < k) (sym st.settings) h in record { asked = ap (queue_of s.begun y) (of_station y given); path = refl }))) items refl
            ∙ ap (λ (l : List Item). record (world_of r s seats) { wire = l; seats = set seats j y }) (reverse-append (items_of s) (e ∷ []))
