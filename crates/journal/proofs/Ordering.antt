-- What a station is told to send, and what it carries, are steps of the machine.
use Rattle.std.proofs.Common.{ℕ, suc, zero, ◌≡◌, ◌≢◌, ◌+◌, ◌<◌, ◌≤◌, ◌==◌, ◌&&◌, List, [], ◌∷◌, ◌++◌, map, reverse, take, drop, length, set, slice_get, Bool, true, false, Option, Some, None, Result, Ok, Err, nat_lt, if◌then◌else◌, take_all, refl, sym, ap, ap₂, ◌∙◌, subst, arith, inl, inr}
use Rattle.std.proofs.lemmas.List.{get_or-set_same, length-append, length-map, reverse-append, map-append}
use Rattle.address_claim.specs.Claiming.{is_held, CanHold}
use Rattle.bus_ledger.specs.BusValue.{SeatValue, seat_at}
use Rattle.bus_ledger.proofs.Numbers.{same_or_not}
use Rattle.bus_ledger.specs.Carrying.{IsCarriedNext}
use Rattle.bus_ledger.specs.Changes.{carried_frame, carried_from, sending, with_seat}
use Rattle.bus_ledger.specs.declared.traffic.CarriedFrame.{CarriedFrame}
use Rattle.bus_ledger.specs.declared.traffic.QueuedFrame.{QueuedFrame}
use Rattle.bus_model.specs.Traffic.{Item}
use Rattle.bus_model.specs.Heard.{address_heard}
use Rattle.bus_model.specs.Expected.{Own, passed, readings}
use Rattle.bus_model.specs.Machine.{Carry_station, IsFit, Seat, Step}
use Rattle.bus_model.specs.Machine.{Ask as Asks}
use Rattle.bus_model.proofs.Lookback.{true_test}
use Rattle.entry_lists.specs.KeptValue.{KeptValue, kept_under}
use Rattle.entry_lists.specs.KnownRows.{address_in, row_of, still_owned}
use Rattle.station_table.specs.Orders.{ask_from, command_from}
use Rattle.station_table.specs.declared.error.StationError.{StationError}
use Rattle.station_table.specs.declared.error.StationError.TheVariants.{NotAnAddress}
use Rattle.reassembly.specs.Tables.{at}
use Rattle.station_table.specs.StationValue.{StationValue}
use Rattle.station_table.specs.Reactions.{asking, commanding}
use Rattle.station_table.specs.declared.reaction.Ask.{Ask as Asked}
use Rattle.station_table.specs.declared.reaction.Reaction.{Reaction}
use Rattle.journal.specs.State.{Settings, State, StationState, no_station, path_at, setting_at, station_at, table_at}
use Rattle.journal.specs.Steps.{after, after_carry_of, after_order_of, item_of, order_answer, reacted}
use Rattle.journal.specs.Fits.{Fits}
use Rattle.journal.specs.Worlds.{items_of, queued_item, queue_of, station_of_at, world_of, world_station}
use Rattle.journal.specs.declared.event.Event.TheVariants.{Carry, Ordered}
use Rattle.journal.specs.declared.order.Order.{Order}
use Rattle.journal.specs.declared.order.Order.TheVariants as order
use Rattle.journal.proofs.Seated.{AreCarried, AreKnown, IsPost, Stands}
use Rattle.journal.proofs.Growth.{carried_push, items_same, seat_carried, SameNames}
use Rattle.journal.proofs.Station.{AtStation}
use Rattle.journal.proofs.OwnSeat.{OwnChange, OwnStation, own_set, post_as, seat_as, set_at, stands_own, station_same, station_set}
use Rattle.journal.proofs.Posts.{IsSamePost, post_carried, station_with, stations_set, world_parts}
use Rattle.journal.proofs.StationAnswers.{Answers, ask_answers, command_answers}
use Rattle.journal.proofs.Reading.{Runs, at_post, heard_held, heard_holds, own_reacted, reacted_asked, reacted_heard, reacted_known, seat_given, world_own}

-- ---- orders

-- an address that a table of addresses has an owner of is one of them
owned_below : (owners : List (Option ℕ)) (a n : ℕ) → is_held (at owners a) n ≡ true → a < length owners
owned_below [] a n e = absurd cc
owned_below (o ∷ owners) zero n e = omega arith
owned_below (o ∷ owners) (suc a) n e = let l = owned_below owners a n e in omega arith

-- an address that is known is of one byte
abbrev IsByte : Option ℕ → Type 0
IsByte None = Unit {0}
IsByte (Some a) = a ≤ 255

known_byte : (owners : List (Option ℕ)) (n : ℕ) (kept : Option KeptValue) → length owners ≡ 256 → IsByte (address_in (row_of owners n kept))
known_byte owners n None long = tt
known_byte owners n (Some kept) long = go kept.claimed
  where
    go : (o : Option ℕ) → IsByte (still_owned owners n o)
    go None = tt
    go (Some a) = at_owner (is_held (at owners a) n) refl
      where
        at_owner : (b : Bool) → is_held (at owners a) n ≡ b → IsByte (if b then Some a else None)
        at_owner true e = let l = owned_below owners a n e in omega arith
        at_owner false e = tt

asks : (n : ℕ) (held : Option ℕ) (ask : Asked) (to : Option ℕ) (x : Reaction) → CanHold held → IsByte to → ask_from held to ask ≡ Ok x → Answers x n false held
asks n None ask to x hold byte e = absurd cc
asks n (Some own) ask None x hold byte e = absurd cc
asks n (Some own) ask (Some d) x hold byte e =
    let same : asking own ask d ≡ x = cc in
    subst (λ (y : Reaction). Answers y n false (Some own)) same (ask_answers n own ask d hold byte)

commands : (n : ℕ) (held : Option ℕ) (name address : ℕ) (x : Reaction) → CanHold held → command_from held name address ≡ Ok x → Answers x n false held
commands n None name address x hold e = absurd cc
commands n (Some own) name address x hold e =
    let same : commanding own name address ≡ x = cc in
    subst (λ (y : Reaction). Answers y n false (Some own)) same (command_answers n own name address hold)

-- a command that is not refused for its address
within : (b : Bool) (e : StationError) (a : Result Reaction StationError) (x : Reaction) → (if b then Err e else a) ≡ Ok x → a ≡ Ok x
within true e a x h = absurd cc
within false e a x h = h

order_answers : (n : ℕ) (s : StationValue) (o : Order) (x : Reaction) → length s.owners ≡ 256 → CanHold s.claimer.held → order_answer s o ≡ Ok x → Answers x n false s.claimer.held
order_answers n s (order.Ask name ask) x long hold e =
    asks n s.claimer.held ask (address_in (row_of s.owners name (kept_under s.rows name))) x hold (known_byte s.owners name (kept_under s.rows name) long) e
order_answers n s (order.AskAll ask) x long hold e = asks n s.claimer.held ask (Some 255) x hold (omega arith) e
order_answers n s (order.Command name address) x long hold e =
    commands n s.claimer.held name address x hold (within (nat_lt 253 address) NotAnAddress (command_from s.claimer.held name address) x e)

-- what a station is told to queue
queued_runs : (r : Settings) (y : ℕ) (s : State) (seats : List Seat) (x : Reaction) → Stands r s seats → y < length s.stations → Answers x (setting_at r y).name false (address_heard (station_of_at r y) (readings (path_at s y)))
    → Runs r s (record s { traffic = reacted y x s.traffic }) seats
queued_runs r y s seats x stands h a = (
  Asks y a.frames,
  (
    world_station s y (setting_at r y),
    at_post r y s seats stands h,
    a.may,
    world_own r y s now seats _ (path_at s y) stands own (station_same y s now refl) refl (reacted_asked s.begun y x s.traffic (setting_at r y).name false _ a given post.name) refl,
  ),
  stands_own r y s now seats stands h own (station_same y s now refl) refl refl (record {
    name = own.name ∙ post.name;
    live = own.live ∙ post.live;
    known = reacted_known s.begun y x s.traffic given post.known;
    within = subst (λ (n : ℕ). n ≤ length (items_of s)) (sym heard) post.within;
    passed' = post.passed' ∙ ap (λ (n : ℕ). reverse (take n (items_of s))) (sym heard);
  }),
)
  where
    now : State
    now = record s { traffic = reacted y x s.traffic }

    post : IsPost (setting_at r y) s.begun (items_of s) (seat_at s.traffic y) (path_at s y)
    post = stands.posts y h

    given : y < length s.traffic.seats
    given = seat_given r y s seats stands h

    own : OwnChange y s.traffic (reacted y x s.traffic)
    own = own_reacted y x s.traffic

    heard : (seat_at (reacted y x s.traffic) y).heard ≡ (seat_at s.traffic y).heard
    heard = reacted_heard y x s.traffic given

-- an order is a step of the machine
pub order_runs : (r : Settings) (y : ℕ) (s : State) (seats : List Seat) (o : Order) → IsFit (station_of_at r y) → Stands r s seats → y < length s.stations → AtStation r y s → Fits s (Ordered y o) → Runs r s (after (Ordered y o) s) seats
unfolding after_order_of
order_runs r y s seats o fit stands h at fits =
    subst (λ (x : Result Reaction StationError). Runs r s (after_order_of y x s) seats) (sym fits.1.1)
    (queued_runs r y s seats fits.1.0 stands h
    (subst (λ (held : Option ℕ). Answers fits.1.0 (setting_at r y).name false held) (heard_held r y s at)
    (order_answers (setting_at r y).name (table_at s y) o fits.1.0 at.places.owners (heard_holds r y s fit at) fits.1.1)))

-- ---- what a station carries

-- a seat that offers a frame has heard the whole wire, and the frame is the first of its queue
offered_first : (live : Bool) (heard n : ℕ) (qs : List QueuedFrame) (q : QueuedFrame) → (if live && (heard == n) then slice_get qs 0 else None) ≡ Some q → (heard ≡ n) × ((rest : List QueuedFrame) × (qs ≡ q ∷ rest))
offered_first live heard n qs q e = go live (heard == n) refl qs e
  where
    go : (a b : Bool) → (heard == n) ≡ b → (qs : List QueuedFrame) → (if a && b then slice_get qs 0 else None) ≡ Some q → (heard ≡ n) × ((rest : List QueuedFrame) × (qs ≡ q ∷ rest))
    go false b i qs e = absurd cc
    go true false i qs e = absurd cc
    go true true i [] e = absurd cc
    go true true i (p ∷ qs) e = (true_test heard n i, (qs, cc))

-- a station that sent its frame
abbrev station_sent : ℕ → State → QueuedFrame → StationState
station_sent y s q = record (station_at s y) { path = Own (item_of s (carried_frame y q)) ∷ path_at s y }

-- the state after the first frame of a station is carried
abbrev carried_state : ℕ → State → QueuedFrame → State
carried_state y s q = record s { traffic = carried_from y q s.traffic; stations = set s.stations y (station_sent y s q) }

own_sending : (y : ℕ) (s : State) → OwnChange y s.traffic (with_seat s.traffic y (sending (seat_at s.traffic y)))
own_sending y s = own_set y s.traffic (sending (seat_at s.traffic y)) refl refl

station_sends : (y : ℕ) (s : State) (q : QueuedFrame) → OwnStation y s (carried_state y s q)
station_sends y s q = station_set y s (carried_state y s q) (station_sent y s q) refl

carried_names : (y : ℕ) (s : State) (q : QueuedFrame) → SameNames s (carried_state y s q)
carried_names y s q k l = elim (same_or_not k y) [
  | inl e ↦ subst (λ (i : ℕ). (seat_at (carried_state y s q).traffic i).name ≡ (seat_at s.traffic i).name) (sym e) (own_sending y s).name
  | inr other ↦ ap (λ (v : SeatValue). v.name) ((own_sending y s).others k other)
]

-- the wire has one item more
carried_items : (r : Settings) (y : ℕ) (s : State) (seats : List Seat) (q : QueuedFrame) → Stands r s seats → items_of (carried_state y s q) ≡ items_of s ++ item_of s (carried_frame y q) ∷ []
carried_items r y s seats q stands =
    map-append (item_of (carried_state y s q)) s.traffic.wire (carried_frame y q ∷ [])
    ∙ ap₂ (λ (l : List Item) (n : ℕ). l ++ record { seat = y; name = n; frame = q.frame; tag = (item_of s (carried_frame y q)).tag } ∷ []) (items_same s (carried_state y s q) s.traffic.wire (carried_names y s q) refl stands.carried) (own_sending y s).name

carried_stands : (r : Settings) (y : ℕ) (s : State) (seats : List Seat) (q : QueuedFrame) (rest : List QueuedFrame) → Stands r s seats → y < length s.stations → (seat_at s.traffic y).heard ≡ length s.traffic.wire → (seat_at s.traffic y).queue ≡ q ∷ rest
    → Stands r (carried_state y s q) seats
carried_stands r y s seats q rest stands h whole first = record {
  settings = st.count ∙ stands.settings;
  windows = stands.windows ∙ sym st.count;
  posts = λ i l. elim (same_or_not i y) [
    | inl e ↦ subst (λ (k : ℕ). IsPost (setting_at r k) s.begun (items_of now) (seat_at now.traffic k) (path_at now k)) (sym e) own
    | inr other ↦ post_as items refl ((own_sending y s).others i other) (ap (λ (v : StationState). v.path) (st.others i other)) (post_carried (items_of s) (item_of s c) (seat_at s.traffic i) (path_at s i) (stands.posts i (subst (λ (n : ℕ). i < n) st.count l)))
  ];
  carried = subst (λ (n : ℕ). AreCarried s.begun n (s.traffic.wire ++ c ∷ [])) (sym (own_sending y s).places) (carried_push s.begun (length s.traffic.seats) s.traffic.wire c stands.carried (record { seat = given; known = known.0 }));
  count = (own_sending y s).places ∙ (stands.count ∙ ap (λ (n : ℕ). n + length s.units) (sym st.count));
  places = stands.places;
  numbers = λ i l. stands.numbers i l ∙ ap (λ (n : ℕ). n + i) (sym st.count);
  seated = λ i l.
      (let n = stands.count in
      let same : seat_at now.traffic (length now.stations + i) ≡ seat_at s.traffic (length s.stations + i) =
      ap (λ (n : ℕ). seat_at now.traffic (n + i)) st.count ∙ (own_sending y s).others (length s.stations + i) (λ e. absurd (omega (arith, e, h))) in
      seat_as items refl same refl (seat_carried s.begun (items_of s) (item_of s c) _ _ _ (stands.seated i l)));
}
  where
    c : CarriedFrame
    c = carried_frame y q

    now : State
    now = carried_state y s q

    st : OwnStation y s now
    st = station_sends y s q

    post : IsPost (setting_at r y) s.begun (items_of s) (seat_at s.traffic y) (path_at s y)
    post = stands.posts y h

    given : y < length s.traffic.seats
    given = seat_given r y s seats stands h

    there : seat_at now.traffic y ≡ sending (seat_at s.traffic y)
    there = set_at y s.traffic (sending (seat_at s.traffic y)) given

    known : AreKnown s.begun (q ∷ rest)
    known = subst (AreKnown s.begun) first post.known

    heard : (seat_at now.traffic y).heard ≡ length s.traffic.wire + 1
    heard = ap (λ (v : SeatValue). v.heard) there ∙ ap (λ (n : ℕ). n + 1) whole

    items : items_of now ≡ items_of s ++ item_of s c ∷ []
    items = carried_items r y s seats q stands

    all : take (seat_at now.traffic y).heard (items_of now) ≡ items_of s ++ item_of s c ∷ []
    all =
        ap (take (seat_at now.traffic y).heard) items
        ∙ take_all (seat_at now.traffic y).heard (items_of s ++ item_of s c ∷ []) (omega (arith, heard, length-map s.traffic.wire (item_of s), length-append (items_of s) (item_of s c ∷ [])))

    path : path_at now y ≡ Own (item_of s c) ∷ path_at s y
    path = ap (λ (v : StationState). v.path) (get_or-set_same s.stations y (station_sent y s q) no_station h)

    own : IsPost (setting_at r y) s.begun (items_of now) (seat_at now.traffic y) (path_at now y)
    own = record {
      name = (own_sending y s).name ∙ post.name;
      live = (own_sending y s).live ∙ post.live;
      known = subst (AreKnown s.begun) (sym (ap (λ (v : SeatValue). v.queue) there ∙ ap (drop 1) first)) known.1;
      within = (let n = length-map s.traffic.wire (item_of s) in let m = length-append (items_of s) (item_of s c ∷ []) in let k = ap length items in omega (arith, heard, k, m, n));
      passed' =
          ap passed path
          ∙ (ap (λ (l : List Item). item_of s c ∷ l) (post.passed' ∙ ap reverse (take_all (seat_at s.traffic y).heard (items_of s) (omega (arith, length-map s.traffic.wire (item_of s)))))
          ∙ (sym (reverse-append (items_of s) (item_of s c ∷ [])) ∙ ap reverse (sym all)));
    }

carried_runs : (r : Settings) (y : ℕ) (s : State) (seats : List Seat) (q : QueuedFrame) (rest : List QueuedFrame) → Stands r s seats → y < length s.stations → (seat_at s.traffic y).heard ≡ length s.traffic.wire → (seat_at s.traffic y).queue ≡ q ∷ rest
    → Step (world_of r s seats) (Carry_station y) (world_of r (carried_state y s q) seats) × Stands r (carried_state y s q) seats
carried_runs r y s seats q rest stands h whole first = (
  (
    world_station s y (setting_at r y),
    item_of s c,
    reverse (map item rest),
    at_post r y s seats stands h,
    asked,
    sym (post.passed' ∙ ap reverse (take_all (seat_at s.traffic y).heard (items_of s) (omega (arith, length-map s.traffic.wire (item_of s))))),
    world,
  ),
  carried_stands r y s seats q rest stands h whole first,
)
  where
    c : CarriedFrame
    c = carried_frame y q

    now : State
    now = carried_state y s q

    post : IsPost (setting_at r y) s.begun (items_of s) (seat_at s.traffic y) (path_at s y)
    post = stands.posts y h

    item : QueuedFrame → Item
    item = queued_item s.begun y (seat_at s.traffic y).name

    given : y < length s.traffic.seats
    given = seat_given r y s seats stands h

    asked : queue_of s.begun y (seat_at s.traffic y) ≡ reverse (map item rest) ++ item q ∷ []
    asked = ap (λ (qs : List QueuedFrame). reverse (map item qs)) first ∙ reverse-append (item q ∷ []) (map item rest)

    left : queue_of s.begun y (seat_at now.traffic y) ≡ reverse (map item rest)
    left = ap (queue_of s.begun y) (set_at y s.traffic (sending (seat_at s.traffic y)) given) ∙ ap (λ (qs : List QueuedFrame). reverse (map item (drop 1 qs))) first

    path : path_at now y ≡ Own (item_of s c) ∷ path_at s y
    path = ap (λ (v : StationState). v.path) (get_or-set_same s.stations y (station_sent y s q) no_station h)

    other : (i : ℕ) → i ≢ y → IsSamePost s now i
    other i n = record {
      asked = ap (queue_of s.begun i) ((own_sending y s).others i n);
      path = ap (λ (v : StationState). v.path) ((station_sends y s q).others i n);
    }

    world : world_of r now seats
        ≡ record (world_of r s seats) { wire = item_of s c ∷ reverse (items_of s); stations = set (world_of r s seats).stations y (station_with (setting_at r y) (reverse (map item rest)) (Own (item_of s c) ∷ path_at s y)) }
    world =
        world_parts (stations_set r s now y (reverse (map item rest)) (Own (item_of s c) ∷ path_at s y) left path (λ i n l. other i n)) (carried_items r y s seats q stands) refl
        ∙ ap (λ (l : List Item). record (world_of r s seats) { wire = l; stations = set (world_of r s seats).stations y (station_with (setting_at r y) (reverse (map item rest)) (Own (item_of s c) ∷ path_at s y)) }) (reverse-append (items_of s) (item_of s c ∷ []))

-- a carry of a station is a step of the machine
pub carry_station_runs : (r : Settings) (y : ℕ) (s : State) (seats : List Seat) (q : QueuedFrame) → Stands r s seats → y < length s.stations → IsCarriedNext s.traffic y q
    → Step (world_of r s seats) (Carry_station y) (world_of r (after (Carry y) s) seats) × Stands r (after (Carry y) s) seats
unfolding after_carry_of
carry_station_runs r y s seats q stands h next =
    let o = offered_first (seat_at s.traffic y).live (seat_at s.traffic y).heard (length s.traffic.wire) (seat_at s.traffic y).queue q next.offers in
    subst (λ (qs : List QueuedFrame). Step (world_of r s seats) (Carry_station y) (world_of r (after_carry_of (slice_get qs 0) y s) seats) × Stands r (after_carry_of (slice_get qs 0) y s) seats)
    (sym o.1.1) (carried_runs r y s seats q o.1.0 stands h o.0 o.1.1)
