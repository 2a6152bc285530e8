-- What a change of a station's own seat leaves as it was.
use Rattle.std.proofs.Common.{ℕ, suc, zero, ◌≡◌, ◌≢◌, ◌+◌, ◌<◌, List, [], ◌∷◌, ◌++◌, map, reverse, length, get_or, set, Bool, true, false, if◌then◌else◌, append_assoc, append-nil, refl, sym, ap, ◌∙◌, subst, arith, inl, inr}
use Rattle.std.proofs.lemmas.List.{length-set, get_or-set_same, get_or-set_other, reverse-append, map-append}
use Rattle.can_frame.specs.FrameValue.{FrameValue}
use Rattle.bus_ledger.specs.BusValue.{SeatValue, Traffic, nobody, seat_at}
use Rattle.bus_ledger.specs.Changes.{with_seat, queued, queueing, heard_more, hearing, withdrawn, withdrawing}
use Rattle.bus_ledger.specs.declared.traffic.QueuedFrame.{QueuedFrame}
use Rattle.bus_ledger.specs.declared.traffic.Which.TheVariants as which
use Rattle.bus_ledger.proofs.Numbers.{same_or_not}
use Rattle.bus_model.specs.Messages.{Message}
use Rattle.bus_model.specs.Traffic.{Item}
use Rattle.bus_model.specs.Machine.{Seat, all_plain, plain_item}
use Rattle.bus_model.specs.Expected.{Reception}
use Rattle.journal.specs.State.{Settings, State, StationSetting, StationState, UnitState, new_unit, no_station, path_at, setting_at, station_at}
use Rattle.journal.specs.Steps.{item_of, put_all, untagged}
use Rattle.journal.specs.Worlds.{items_of, queued_item}
use Rattle.journal.proofs.Seated.{AreKnown, IsPost, IsSeat, Stands}
use Rattle.journal.proofs.Growth.{SameNames, items_same, known_push}
use Rattle.journal.proofs.Posts.{IsSamePost}

-- ---- the bus

-- the same wire and windows, the same seats but for y's, whose NAME is the same and which is as live
pub record OwnChange (y : ℕ) (t u : Traffic) : Type 0 where
  pub wire : u.wire ≡ t.wire
  pub windows : u.windows ≡ t.windows
  pub places : length u.seats ≡ length t.seats
  pub others : (i : ℕ) → i ≢ y → seat_at u i ≡ seat_at t i
  pub name : (seat_at u y).name ≡ (seat_at t y).name
  pub live : (seat_at u y).live ≡ (seat_at t y).live

pub own_same : (y : ℕ) (t : Traffic) → OwnChange y t t
own_same y t = record { wire = refl; windows = refl; places = refl; others = λ i n. refl; name = refl; live = refl }

pub own_then : (y : ℕ) (t u v : Traffic) → OwnChange y t u → OwnChange y u v → OwnChange y t v
own_then y t u v a b = record {
  wire = b.wire ∙ a.wire;
  windows = b.windows ∙ a.windows;
  places = b.places ∙ a.places;
  others = λ i n. b.others i n ∙ a.others i n;
  name = b.name ∙ a.name;
  live = b.live ∙ a.live;
}

-- what is the same of a seat before and after is the same in its place
same_in_place : {A : Type 0} (f : SeatValue → A) (xs : List SeatValue) (y : ℕ) (v : SeatValue) → f v ≡ f (get_or xs y nobody) → f (get_or (set xs y v) y nobody) ≡ f (get_or xs y nobody)
same_in_place f [] y v e = refl
same_in_place f (x ∷ xs) zero v e = e
same_in_place f (x ∷ xs) (suc y) v e = same_in_place f xs y v e

pub own_set : (y : ℕ) (t : Traffic) (v : SeatValue) → v.name ≡ (seat_at t y).name → v.live ≡ (seat_at t y).live → OwnChange y t (with_seat t y v)
own_set y t v n l = record {
  wire = refl;
  windows = refl;
  places = length-set t.seats y v;
  others = λ i other. get_or-set_other t.seats y i v nobody other;
  name = same_in_place (λ (x : SeatValue). x.name) t.seats y v n;
  live = same_in_place (λ (x : SeatValue). x.live) t.seats y v l;
}

pub own_put : (y : ℕ) (qs : List QueuedFrame) (t : Traffic) → OwnChange y t (put_all y qs t)
own_put y [] t = own_same y t
own_put y (q ∷ qs) t = own_then y t (queued y q t) (put_all y qs (queued y q t)) (own_set y t (queueing q (seat_at t y)) refl refl) (own_put y qs (queued y q t))

pub own_heard : (y n : ℕ) (t : Traffic) → OwnChange y t (heard_more y n t)
own_heard y n t = own_set y t (hearing n (seat_at t y)) refl refl

pub own_withdrawn_if : (y : ℕ) (b : Bool) (t : Traffic) → OwnChange y t (if b then withdrawn y which.All t else t)
own_withdrawn_if y true t = own_set y t (withdrawing which.All (seat_at t y)) refl refl
own_withdrawn_if y false t = own_same y t

-- ---- the seat itself

pub set_at : (y : ℕ) (t : Traffic) (v : SeatValue) → y < length t.seats → seat_at (with_seat t y v) y ≡ v
set_at y t v h = get_or-set_same t.seats y v nobody h

still_given : (y k : ℕ) (t : Traffic) (v : SeatValue) → y < length t.seats → y < length (set t.seats k v)
still_given y k t v h = subst (λ (n : ℕ). y < n) (sym (length-set t.seats k v)) h

pub put_heard : (y : ℕ) (qs : List QueuedFrame) (t : Traffic) → y < length t.seats → (seat_at (put_all y qs t) y).heard ≡ (seat_at t y).heard
put_heard y [] t h = refl
put_heard y (q ∷ qs) t h =
    put_heard y qs (queued y q t) (still_given y y t (queueing q (seat_at t y)) h)
    ∙ ap (λ (v : SeatValue). v.heard) (set_at y t (queueing q (seat_at t y)) h)

pub put_queue : (y : ℕ) (qs : List QueuedFrame) (t : Traffic) → y < length t.seats → (seat_at (put_all y qs t) y).queue ≡ (seat_at t y).queue ++ qs
put_queue y [] t h = sym (append-nil (seat_at t y).queue)
put_queue y (q ∷ qs) t h =
    put_queue y qs (queued y q t) (still_given y y t (queueing q (seat_at t y)) h)
    ∙ (ap (λ (v : SeatValue). v.queue ++ qs) (set_at y t (queueing q (seat_at t y)) h) ∙ append_assoc (seat_at t y).queue (q ∷ []) qs)

-- the queue where all was withdrawn, or nothing
abbrev pub kept_if : Bool → List QueuedFrame → List QueuedFrame
kept_if withdraw qs = if withdraw then [] else qs

pub withdrawn_queue : (y : ℕ) (b : Bool) (t : Traffic) → y < length t.seats → (seat_at (if b then withdrawn y which.All t else t) y).queue ≡ kept_if b (seat_at t y).queue
withdrawn_queue y true t h = ap (λ (v : SeatValue). v.queue) (set_at y t (withdrawing which.All (seat_at t y)) h)
withdrawn_queue y false t h = refl

pub withdrawn_heard : (y : ℕ) (b : Bool) (t : Traffic) → y < length t.seats → (seat_at (if b then withdrawn y which.All t else t) y).heard ≡ (seat_at t y).heard
withdrawn_heard y true t h = ap (λ (v : SeatValue). v.heard) (set_at y t (withdrawing which.All (seat_at t y)) h)
withdrawn_heard y false t h = refl

-- ---- queues

-- frames that are no parts of messages, in the order of the queue
pub plain_queue : (begun : List Message) (k n : ℕ) (fs : List FrameValue) → map (queued_item begun k n) (map untagged fs) ≡ all_plain k n fs
plain_queue begun k n [] = refl
plain_queue begun k n (f ∷ fs) = rw (plain_queue begun k n fs) refl

pub plain_append : (k n : ℕ) (fs gs : List FrameValue) → all_plain k n (fs ++ gs) ≡ all_plain k n fs ++ all_plain k n gs
plain_append k n [] gs = refl
plain_append k n (f ∷ fs) gs = rw (plain_append k n fs gs) refl

plain_reverse : (k n : ℕ) (fs : List FrameValue) → all_plain k n (reverse fs) ≡ reverse (all_plain k n fs)
plain_reverse k n [] = refl
plain_reverse k n (f ∷ fs) =
    ap (all_plain k n) (reverse-append (f ∷ []) fs)
    ∙ (plain_append k n (reverse fs) (f ∷ []) ∙ (ap (λ (l : List Item). l ++ plain_item k n f ∷ []) (plain_reverse k n fs) ∙ sym (reverse-append (plain_item k n f ∷ []) (all_plain k n fs))))

-- a queue with such frames behind it
pub queue_put : (begun : List Message) (k n : ℕ) (qs : List QueuedFrame) (fs : List FrameValue)
    → reverse (map (queued_item begun k n) (qs ++ map untagged fs)) ≡ all_plain k n (reverse fs) ++ reverse (map (queued_item begun k n) qs)
queue_put begun k n qs fs =
    ap reverse (map-append (queued_item begun k n) qs (map untagged fs) ∙ ap (λ l. map (queued_item begun k n) qs ++ l) (plain_queue begun k n fs))
    ∙ (reverse-append (map (queued_item begun k n) qs) (all_plain k n fs) ∙ ap (λ l. l ++ reverse (map (queued_item begun k n) qs)) (sym (plain_reverse k n fs)))

pub known_put : (begun : List Message) (qs : List QueuedFrame) (fs : List FrameValue) → AreKnown begun qs → AreKnown begun (qs ++ map untagged fs)
known_put begun qs [] k = subst (AreKnown begun) (sym (append-nil qs)) k
known_put begun qs (f ∷ fs) k =
    subst (AreKnown begun) (append_assoc qs (untagged f ∷ []) (map untagged fs)) (known_put begun (qs ++ untagged f ∷ []) fs (known_push begun qs (untagged f) k tt))

pub known_if : (begun : List Message) (b : Bool) (qs : List QueuedFrame) → AreKnown begun qs → AreKnown begun (kept_if b qs)
known_if begun true qs k = tt
known_if begun false qs k = k

-- ---- the state

pub names_own : (y : ℕ) (s t : State) → OwnChange y s.traffic t.traffic → SameNames s t
names_own y s t own k l = elim (same_or_not k y) [
  | inl e ↦ subst (λ (i : ℕ). (seat_at t.traffic i).name ≡ (seat_at s.traffic i).name) (sym e) own.name
  | inr other ↦ ap (λ (v : SeatValue). v.name) (own.others k other)
]

-- the items carried are the same
pub items_own : (r : Settings) (y : ℕ) (s t : State) (seats : List Seat) → Stands r s seats → OwnChange y s.traffic t.traffic → t.begun ≡ s.begun → items_of t ≡ items_of s
items_own r y s t seats stands own begun = ap (map (item_of t)) own.wire ∙ items_same s t s.traffic.wire (names_own y s t own) begun stands.carried

pub seat_as : {begun begun' : List Message} {items items' : List Item} {v v' : SeatValue} {u u' : UnitState} {x : Seat}
    → items' ≡ items → begun' ≡ begun → v' ≡ v → u' ≡ u → IsSeat begun items v u x → IsSeat begun' items' v' u' x
seat_as a b c d h = rw (a, b, c, d) h

pub post_as : {r : StationSetting} {begun begun' : List Message} {items items' : List Item} {v v' : SeatValue} {path path' : List Reception}
    → items' ≡ items → begun' ≡ begun → v' ≡ v → path' ≡ path → IsPost r begun items v path → IsPost r begun' items' v' path'
post_as a b c d h = rw (a, b, c, d) h

-- as many stations, and but for y's tables and path the same
pub record OwnStation (y : ℕ) (s t : State) : Type 0 where
  pub count : length t.stations ≡ length s.stations
  pub others : (i : ℕ) → i ≢ y → station_at t i ≡ station_at s i

pub station_same : (y : ℕ) (s t : State) → t.stations ≡ s.stations → OwnStation y s t
station_same y s t e = record { count = ap length e; others = λ i n. ap (λ (xs : List StationState). get_or xs i no_station) e }

pub station_set : (y : ℕ) (s t : State) (v : StationState) → t.stations ≡ set s.stations y v → OwnStation y s t
station_set y s t v e = record {
  count = ap length e ∙ length-set s.stations y v;
  others = λ i n. ap (λ (xs : List StationState). get_or xs i no_station) e ∙ get_or-set_other s.stations y i v no_station n;
}

-- the other stations have the same queue and have the same of the wire
pub others_same : (y : ℕ) (s t : State) → OwnChange y s.traffic t.traffic → OwnStation y s t → t.begun ≡ s.begun → (i : ℕ) → i ≢ y → IsSamePost s t i
others_same y s t own st begun i n = record {
  asked = rw (begun, own.others i n) refl;
  path = ap (λ (v : StationState). v.path) (st.others i n);
}

-- the seats of units are the same
pub stands_own : (r : Settings) (y : ℕ) (s t : State) (seats : List Seat) → Stands r s seats → y < length s.stations → OwnChange y s.traffic t.traffic → OwnStation y s t → t.units ≡ s.units → t.begun ≡ s.begun
    → IsPost (setting_at r y) s.begun (items_of s) (seat_at t.traffic y) (path_at t y) → Stands r t seats
stands_own r y s t seats stands h own st units begun post = record {
  settings = st.count ∙ stands.settings;
  windows = ap length own.windows ∙ (stands.windows ∙ sym st.count);
  posts = λ i l. elim (same_or_not i y) [
    | inl e ↦ subst (λ (k : ℕ). IsPost (setting_at r k) t.begun (items_of t) (seat_at t.traffic k) (path_at t k)) (sym e) (post_as items begun refl refl post)
    | inr other ↦ post_as items begun (own.others i other) (ap (λ (v : StationState). v.path) (st.others i other)) (stands.posts i (subst (λ (n : ℕ). i < n) st.count l))
  ];
  carried = rw (begun, own.places, own.wire) stands.carried;
  count = own.places ∙ (stands.count ∙ sum);
  places = stands.places ∙ ap length (sym units);
  numbers = λ i l. stands.numbers i (subst (λ (xs : List UnitState). i < length xs) units l) ∙ ap (λ (n : ℕ). n + i) (sym st.count);
  seated = λ i l.
      (let lt : i < length s.units = subst (λ (xs : List UnitState). i < length xs) units l in
      let n = stands.count in
      let same : seat_at t.traffic (length t.stations + i) ≡ seat_at s.traffic (length s.stations + i) =
      ap (λ (n : ℕ). seat_at t.traffic (n + i)) st.count ∙ own.others (length s.stations + i) (λ e. absurd (omega (arith, e, h))) in
      seat_as items begun same (ap (λ (xs : List UnitState). get_or xs i (new_unit 0 0)) units) (stands.seated i lt));
}
  where
    items : items_of t ≡ items_of s
    items = items_own r y s t seats stands own begun

    sum : length s.stations + length s.units ≡ length t.stations + length t.units
    sum = rw (st.count, units) refl
