-- What a change of one seat does to the value of a bus.
use Rattle.std.proofs.Common.{ℕ, suc, zero, ◌≡◌, ◌≢◌, ◌+◌, ◌<◌, ◌≤◌, ◌^◌, List, [], ◌∷◌, map, length, get_or, set, drop, Bool, true, false, Some, Result, Ok, Err, OnOk, IfErr, refl, sym, ap, ◌∙◌, subst, arith, inl, inr, ◌-◌, nat_lt, if◌then◌else◌, length-append}
use Rattle.std.proofs.lemmas.List.{map-set, length-set, length-drop, length-map, get_or_read, get_or-set_same, get_or-set_other, set-get_or, drop-drop}
use Rattle.std.proofs.lemmas.List.Elements.{All-drop}
use Rattle.std.specs.List.{All}
use Rattle.std.specs.Vec.{with_item}
use Rattle.bus_ledger.specs.BusValue.{IsStation, SeatValue, SeatBook, Traffic, BusValue, KeepsSpares, nobody, no_book, book_at, seat_at, spare_at}
use Rattle.bus_ledger.specs.Changes.{with_seat, hearing, heard_more, queueing_all, kept, withdrawing, leaving}
use Rattle.bus_ledger.specs.declared.traffic.QueuedFrame.{QueuedFrame}
use Rattle.bus_ledger.specs.declared.error.BusError.{BusError}
use Rattle.bus_ledger.specs.declared.error.BusError.TheVariants.{OutOfMemory}
use Rattle.bus_ledger.specs.declared.traffic.Which.{Which}
use Rattle.bus_ledger.specs.declared.traffic.Which.TheVariants.{Session, All as Everything}
use Rattle.bus_ledger.specs.Ledger.{IsBalanced, IsSound}
use Rattle.bus_ledger.specs.Reception.{not_yet_read, first_reading, next_reading, passes, window_at}
use Rattle.can_frame.specs.declared.reading.Reading.{Reading}
use Rattle.can_frame.specs.declared.reading.Reading.TheVariants.{Frame, Gap, Empty}
use Rattle.bus_ledger.specs.Inside.{seat_of, spare_of, traffic_of, tap_at, bus_value_of, live_numbers, IsKept}
use Rattle.bus_ledger.specs.declared.bus.Bus.TheInside.{Inside}
use Rattle.bus_ledger.specs.declared.traffic.CarriedFrame.{CarriedFrame}
use Rattle.bus_ledger.specs.Window.{WindowValue, no_window, size_of, window_in, window_of, reading_of, rest_of}
use Rattle.bus_ledger.proofs.Numbers.{same_or_not}
use Rattle.bus_ledger.proofs.Windows.{window_reading, window_set, window_rest, rest_size}
use Rattle.bus_ledger.proofs.Taps.{set_sizes, stations_are, station_within, tap_is}
use Rattle.bus_ledger.proofs.Live.{live_set}
use Rattle.bus_ledger.proofs.Sounds.{live_within}
use Rattle.bus_ledger.proofs.Queues.{kept_fewer}

pub seat_book : (xs : List SeatBook) (k : ℕ) → get_or (map seat_of xs) k nobody ≡ (book_at xs k).seat
seat_book [] k = refl
seat_book (x ∷ xs) zero = refl
seat_book (x ∷ xs) (suc k) = seat_book xs k

pub spare_book : (xs : List SeatBook) (k : ℕ) → get_or (map spare_of xs) k 0 ≡ (book_at xs k).spare
spare_book [] k = refl
spare_book (x ∷ xs) zero = refl
spare_book (x ∷ xs) (suc k) = spare_book xs k

-- a sound bus in which one seat changes and stays balanced is sound
pub sound_set : (t : Traffic) (k : ℕ) (y : SeatValue) → IsSound t → k < length t.seats
    → (IsStation t k → y.live ≡ true) → (IsBalanced t.wire k (seat_at t k) → IsBalanced t.wire k y) → IsSound (with_seat t k y)
sound_set t k y s in' live balanced = record {
  some = s.some;
  few = s.few;
  stations = λ i h. elim (same_or_not i k) [
    | inl e ↦ let here : i < length t.seats = omega arith in rw (← e, get_or-set_same) (live (subst (IsStation t) e h))
    | inr n ↦ rw get_or-set_other (s.stations i h)
  ];
  windows = s.windows;
  senders = rw (length-set t.seats k y) s.senders;
  seats = λ j h.
      let h' : j < length t.seats = rw (sym (length-set t.seats k y)) h in
      elim (same_or_not j k) [
        | inl e ↦ let there : j < length t.seats = h' in subst (λ (n : ℕ). IsBalanced t.wire n (get_or (set t.seats k y) n nobody)) (sym e) (rw get_or-set_same (balanced (s.seats k in')))
        | inr n ↦ rw get_or-set_other (s.seats j h')
      ];
}

-- a bus in whose list of seats one is replaced
abbrev pub placed : Inside → ℕ → SeatBook → Inside
placed a k y = record { wire = a.wire; seats = with_item a.seats k y; live = a.live; receive_windows = a.receive_windows }

pub within : (a : Inside) (v : BusValue) (k : ℕ) → bus_value_of a ≡ v → k < length v.traffic.seats → k < length a.seats.items
within a v k is h =
    let e : length v.traffic.seats ≡ length a.seats.items = ap (λ (b : BusValue). length b.traffic.seats) (sym is) ∙ length-map a.seats.items seat_of in
    omega arith

-- what was read of the list is what the value has there
pub seat_is : (a : Inside) (v : BusValue) (k : ℕ) (x : SeatBook) → bus_value_of a ≡ v → k < length a.seats.items → x ≡ get_or a.seats.items k x → x.seat ≡ seat_at v.traffic k
seat_is a v k x is in' read =
    ap (λ (b : SeatBook). b.seat) (get_or_read a.seats.items k x in' read no_book)
    ∙ (sym (seat_book a.seats.items k) ∙ ap (λ (b : BusValue). seat_at b.traffic k) is)

pub spare_is : (a : Inside) (v : BusValue) (k : ℕ) (x : SeatBook) → bus_value_of a ≡ v → k < length a.seats.items → x ≡ get_or a.seats.items k x → x.spare ≡ spare_at v k
spare_is a v k x is in' read =
    ap (λ (b : SeatBook). b.spare) (get_or_read a.seats.items k x in' read no_book)
    ∙ (sym (spare_book a.seats.items k) ∙ ap (λ (b : BusValue). spare_at b k) is)

pub placed_traffic : (a : Inside) (v : BusValue) (k : ℕ) (y : SeatBook) (s : SeatValue) → bus_value_of a ≡ v → y.seat ≡ s → traffic_of (placed a k y) ≡ with_seat v.traffic k s
placed_traffic a v k y s is e =
    ap (λ (l : List SeatValue). let t : Traffic = record { wire = a.wire.carried; seats = l; windows = map size_of a.receive_windows.items } in t) (map-set seat_of a.seats.items k y)
    ∙ (ap (λ (z : SeatValue). with_seat (traffic_of a) k z) e ∙ ap (λ (b : BusValue). with_seat b.traffic k s) is)

-- a seat replaced by itself
pub placed_same : (a : Inside) (v : BusValue) (k : ℕ) (x y : SeatBook) → bus_value_of a ≡ v → k < length a.seats.items → x ≡ get_or a.seats.items k x → y.seat ≡ x.seat → traffic_of (placed a k y) ≡ v.traffic
placed_same a v k x y is in' read e =
    placed_traffic a v k y (seat_at v.traffic k) is (e ∙ seat_is a v k x is in' read)
    ∙ ap (λ (l : List SeatValue). record v.traffic { seats = l }) (set-get_or v.traffic.seats k nobody)

pub own_spare : (a : Inside) (k : ℕ) (y : SeatBook) → k < length a.seats.items → spare_at (bus_value_of (placed a k y)) k ≡ y.spare
own_spare a k y in' = spare_book (set a.seats.items k y) k ∙ ap (λ (b : SeatBook). b.spare) (get_or-set_same a.seats.items k y no_book in')

pub other_spares : (a : Inside) (v : BusValue) (k : ℕ) (y : SeatBook) → bus_value_of a ≡ v → (j : ℕ) → j ≢ k → spare_at v j ≤ spare_at (bus_value_of (placed a k y)) j
other_spares a v k y is j n =
    let e : spare_at (bus_value_of (placed a k y)) j ≡ spare_at v j =
    spare_book (set a.seats.items k y) j ∙ (ap (λ (b : SeatBook). b.spare) (get_or-set_other a.seats.items k j y no_book n)
    ∙ (sym (spare_book a.seats.items j) ∙ ap (λ (b : BusValue). spare_at b j) is)) in
    omega arith

pub placed_spares : (a : Inside) (v : BusValue) (k : ℕ) (x y : SeatBook) → bus_value_of a ≡ v → k < length a.seats.items → x ≡ get_or a.seats.items k x → x.spare ≤ y.spare → KeepsSpares v (bus_value_of (placed a k y))
placed_spares a v k x y is in' read grows j =
    elim (same_or_not j k) [
      | inl e ↦
          let here : spare_at (bus_value_of (placed a k y)) j ≡ y.spare = ap (λ (n : ℕ). spare_at (bus_value_of (placed a k y)) n) e ∙ own_spare a k y in' in
          let there : x.spare ≡ spare_at v j = spare_is a v k x is in' read ∙ ap (λ (n : ℕ). spare_at v n) (sym e) in
          omega arith
      | inr n ↦ other_spares a v k y is j n
    ]

placed_sound : (a : Inside) (k : ℕ) (x y : SeatBook) → IsKept a → k < length a.seats.items → x ≡ get_or a.seats.items k x
    → y.seat.live ≡ x.seat.live → (IsBalanced a.wire.carried k x.seat → IsBalanced a.wire.carried k y.seat) → IsSound (traffic_of (placed a k y))
placed_sound a k x y kept in' read live balanced =
    let s = seat_is a (bus_value_of a) k x refl in' read in
    let in'' : k < length (map seat_of a.seats.items) = rw length-map in' in
    subst (λ (l : List SeatValue). IsSound (record { wire = a.wire.carried; seats = l; windows = map size_of a.receive_windows.items })) (sym (map-set seat_of a.seats.items k y))
    (sound_set (traffic_of a) k y.seat kept.sound in''
    (λ station. live ∙ (ap (λ (b : SeatValue). b.live) s ∙ kept.sound.stations k station))
    (λ b. balanced (subst (λ (v : SeatValue). IsBalanced a.wire.carried k v) (sym s) b)))

placed_live : (a : Inside) (k : ℕ) (x y : SeatBook) → IsKept a → k < length a.seats.items → x ≡ get_or a.seats.items k x
    → y.seat.live ≡ x.seat.live → a.live.items ≡ live_numbers 0 (set a.seats.items k y)
placed_live a k x y kept in' read live =
    kept.live ∙ sym (live_set 0 a.seats.items k y (live ∙ ap (λ (b : SeatBook). b.seat.live) (get_or_read a.seats.items k x in' read no_book)))

-- a bus stays in order where one seat is replaced by one as live, which is balanced; a station's has heard as much
pub placed_kept : (a : Inside) (k : ℕ) (x y : SeatBook) → IsKept a → k < length a.seats.items → x ≡ get_or a.seats.items k x
    → y.seat.live ≡ x.seat.live → (IsStation (traffic_of a) k → y.seat.heard ≡ x.seat.heard) → (IsBalanced a.wire.carried k x.seat → IsBalanced a.wire.carried k y.seat) → IsKept (placed a k y)
placed_kept a k x y kept in' read live heard balanced =
    let s = seat_is a (bus_value_of a) k x refl in' read in
    let in'' : k < length (map seat_of a.seats.items) = rw length-map in' in
    let same : (i : ℕ) → IsStation (traffic_of a) i → k ≡ i → y.seat.heard ≡ (seat_at (traffic_of a) i).heard =
    λ i h z. heard (subst (IsStation (traffic_of a)) (sym z) h) ∙ (ap (λ (b : SeatValue). b.heard) s ∙ ap (λ (n : ℕ). (seat_at (traffic_of a) n).heard) z) in
    record {
      sound = placed_sound a k x y kept in' read live balanced;
      receive_windows = λ i h. kept.receive_windows i h ∙ sym (ap (λ (t : Traffic). window_of t i) (placed_traffic a (bus_value_of a) k y y.seat refl refl) ∙ window_set i (traffic_of a) k y.seat in'' (same i (let n = stations_are a (bus_value_of a) refl in omega arith)));
      live = placed_live a k x y kept in' read live;
      few_seats = rw (length-set a.seats.items k y) kept.few_seats;
      few_frames = kept.few_frames;
    }

-- a seat that hears more frames stays balanced
pub balanced_hearing : (wire : List CarriedFrame) (k n : ℕ) (s : SeatValue) → s.heard + n ≤ length wire → IsBalanced wire k s → IsBalanced wire k (hearing n s)
balanced_hearing wire k n s h b = record {
  ledger = b.ledger;
  carried = b.carried;
  gone = b.gone;
  heard = h;
  own = subst (λ (l : List CarriedFrame). All (λ c. c.seat ≢ Some k) l) (drop-drop n s.heard wire) (All-drop (λ (c : CarriedFrame). c.seat ≢ Some k) n (drop s.heard wire) b.own);
}

-- the same at what callers see, for each change of a seat
pub changed_traffic : (f : SeatValue → SeatValue) (a : Inside) (v : BusValue) (k : ℕ) (x y : SeatBook) → bus_value_of a ≡ v → k < length v.traffic.seats → x ≡ get_or a.seats.items k x
    → y.seat ≡ f x.seat → traffic_of (placed a k y) ≡ with_seat v.traffic k (f (seat_at v.traffic k))
changed_traffic f a v k x y is h read e =
    placed_traffic a v k y (f (seat_at v.traffic k)) is (e ∙ ap f (seat_is a v k x is (within a v k is h) read))

pub changed_spares : (a : Inside) (v : BusValue) (k : ℕ) (x y : SeatBook) → bus_value_of a ≡ v → k < length v.traffic.seats → x ≡ get_or a.seats.items k x → x.spare ≤ y.spare → KeepsSpares v (bus_value_of (placed a k y))
changed_spares a v k x y is h read grows = placed_spares a v k x y is (within a v k is h) read grows

pub changed_kept : (a : Inside) (v : BusValue) (k : ℕ) (x y : SeatBook) → bus_value_of a ≡ v → IsKept a → k < length v.traffic.seats → x ≡ get_or a.seats.items k x
    → y.seat.live ≡ x.seat.live → (IsStation v.traffic k → y.seat.heard ≡ x.seat.heard) → (IsBalanced a.wire.carried k x.seat → IsBalanced a.wire.carried k y.seat) → IsKept (placed a k y)
changed_kept a v k x y is kept h read live heard balanced =
    placed_kept a k x y kept (within a v k is h) read live (λ st. heard (subst (λ (b : BusValue). IsStation b.traffic k) is st)) balanced

pub hear_kept : (a : Inside) (v : BusValue) (k n : ℕ) (x y : SeatBook) → bus_value_of a ≡ v → IsKept a → k < length v.traffic.seats → x ≡ get_or a.seats.items k x
    → y.seat ≡ hearing n x.seat → length v.traffic.windows ≤ k → (seat_at v.traffic k).heard + n ≤ length v.traffic.wire → IsKept (placed a k y)
hear_kept a v k n x y is kept h read e unit bound =
    let s = seat_is a v k x is (within a v k is h) read in
    let wire : a.wire.carried ≡ v.traffic.wire = ap (λ (b : BusValue). b.traffic.wire) is in
    let bound' : x.seat.heard + n ≤ length a.wire.carried = rw (wire, s) bound in
    changed_kept a v k x y is kept h read (ap (λ (z : SeatValue). z.live) e) (λ z. absurd (omega arith))
    (λ b. subst (λ (z : SeatValue). IsBalanced a.wire.carried k z) (sym e) (balanced_hearing a.wire.carried k n x.seat bound' b))

-- a live seat stays balanced where it queues frames
balanced_queueing : (wire : List CarriedFrame) (k : ℕ) (qs : List QueuedFrame) (s : SeatValue) → s.live ≡ true → IsBalanced wire k s → IsBalanced wire k (queueing_all qs s)
balanced_queueing wire k qs s live b = record {
  ledger = let e = length-append s.queue qs in let l = b.ledger in omega arith;
  carried = b.carried;
  gone = λ e. absurd cc;
  heard = b.heard;
  own = b.own;
}

kept_nil : (which : Which) → kept which [] ≡ []
kept_nil Session = refl
kept_nil Everything = refl

-- a seat stays balanced where frames of its queue are withdrawn
balanced_withdrawing : (wire : List CarriedFrame) (k : ℕ) (which : Which) (s : SeatValue) → IsBalanced wire k s → IsBalanced wire k (withdrawing which s)
balanced_withdrawing wire k which s b = record {
  ledger = let f = kept_fewer which s.queue in let l = b.ledger in omega arith;
  carried = b.carried;
  gone = λ e. ap (kept which) (b.gone e) ∙ kept_nil which;
  heard = b.heard;
  own = b.own;
}

-- a seat that is given up is balanced
pub balanced_leaving : (wire : List CarriedFrame) (k : ℕ) (s : SeatValue) → IsBalanced wire k s → IsBalanced wire k (leaving s)
balanced_leaving wire k s b = record {
  ledger = let l = b.ledger in omega arith;
  carried = b.carried;
  gone = λ e. refl;
  heard = b.heard;
  own = b.own;
}

pub same_kept : (a : Inside) (v : BusValue) (k : ℕ) (x y : SeatBook) → bus_value_of a ≡ v → IsKept a → k < length v.traffic.seats → x ≡ get_or a.seats.items k x → y.seat ≡ x.seat → IsKept (placed a k y)
same_kept a v k x y is kept h read e =
    changed_kept a v k x y is kept h read (ap (λ (z : SeatValue). z.live) e) (λ z. ap (λ (w : SeatValue). w.heard) e) (λ b. subst (λ (z : SeatValue). IsBalanced a.wire.carried k z) (sym e) b)

pub same_traffic : (a : Inside) (v : BusValue) (k : ℕ) (x y : SeatBook) → bus_value_of a ≡ v → k < length v.traffic.seats → x ≡ get_or a.seats.items k x → y.seat ≡ x.seat → traffic_of (placed a k y) ≡ v.traffic
same_traffic a v k x y is h read e = placed_same a v k x y is (within a v k is h) read e

pub withdraw_kept : (a : Inside) (v : BusValue) (k : ℕ) (which : Which) (x y : SeatBook) → bus_value_of a ≡ v → IsKept a → k < length v.traffic.seats → x ≡ get_or a.seats.items k x
    → y.seat ≡ withdrawing which x.seat → IsKept (placed a k y)
withdraw_kept a v k which x y is kept h read e =
    changed_kept a v k x y is kept h read (ap (λ (z : SeatValue). z.live) e) (λ z. ap (λ (w : SeatValue). w.heard) e)
    (λ b. subst (λ (z : SeatValue). IsBalanced a.wire.carried k z) (sym e) (balanced_withdrawing a.wire.carried k which x.seat b))

pub queue_kept : (a : Inside) (v : BusValue) (k : ℕ) (qs : List QueuedFrame) (x y : SeatBook) → bus_value_of a ≡ v → IsKept a → k < length v.traffic.seats → (seat_at v.traffic k).live ≡ true → x ≡ get_or a.seats.items k x
    → y.seat ≡ queueing_all qs x.seat → IsKept (placed a k y)
queue_kept a v k qs x y is kept h live read e =
    let s = seat_is a v k x is (within a v k is h) read in
    changed_kept a v k x y is kept h read (ap (λ (z : SeatValue). z.live) e) (λ z. ap (λ (w : SeatValue). w.heard) e)
    (λ b. subst (λ (z : SeatValue). IsBalanced a.wire.carried k z) (sym e) (balanced_queueing a.wire.carried k qs x.seat (ap (λ (z : SeatValue). z.live) s ∙ live) b))

pub queue_spare : (a : Inside) (v : BusValue) (k : ℕ) (x y : SeatBook) → bus_value_of a ≡ v → k < length v.traffic.seats → x ≡ get_or a.seats.items k x
    → x.spare ≤ y.spare + 1 → spare_at v k ≤ spare_at (bus_value_of (placed a k y)) k + 1
queue_spare a v k x y is h read le =
    let in' = within a v k is h in
    let old = spare_is a v k x is in' read in
    let new = own_spare a k y in' in
    omega arith

pub reserve_ok : (a : Inside) (v : BusValue) (k n : ℕ) (y : SeatBook) (r : Result (Unit {0}) BusError) → bus_value_of a ≡ v → k < length v.traffic.seats
    → OnOk r (n ≤ y.spare) → OnOk r (n ≤ spare_at (bus_value_of (placed a k y)) k)
reserve_ok a v k n y (Ok u) is h ok = let new = own_spare a k y (within a v k is h) in omega arith
reserve_ok a v k n y (Err e) is h ok = tt

pub reserve_err : (a : Inside) (v : BusValue) (k n : ℕ) (x : SeatBook) (r : Result (Unit {0}) BusError) → bus_value_of a ≡ v → k < length v.traffic.seats → x ≡ get_or a.seats.items k x
    → IfErr r (λ e. (e ≡ OutOfMemory) × (x.spare < n)) → IfErr r (λ e. (e ≡ OutOfMemory) × (spare_at v k < n))
reserve_err a v k n x (Ok u) is h read err = tt
reserve_err a v k n x (Err e) is h read err = (err.0, let old = spare_is a v k x is (within a v k is h) read in let l = err.1 in omega arith)

-- the counts of a withdrawal
pub withdraw_count : (a : Inside) (v : BusValue) (k n : ℕ) (which : Which) (x y : SeatBook) → bus_value_of a ≡ v → k < length v.traffic.seats → x ≡ get_or a.seats.items k x
    → n + length y.seat.queue ≡ length x.seat.queue → n + length (seat_at (traffic_of (placed a k y)) k).queue ≡ length (seat_at v.traffic k).queue
withdraw_count a v k n which x y is h read e =
    let in' = within a v k is h in
    let old = ap (λ (z : SeatValue). length z.queue) (seat_is a v k x is in' read) in
    let new : (seat_at (traffic_of (placed a k y)) k) ≡ y.seat = seat_book (set a.seats.items k y) k ∙ ap (λ (b : SeatBook). b.seat) (get_or-set_same a.seats.items k y no_book in') in
    let new' = ap (λ (z : SeatValue). length z.queue) new in
    omega arith

-- a reading passes over no more frames than are unread
gap_or : (n m not_yet_read : ℕ) (r : Reading) (b : Bool) → n ≤ not_yet_read → passes r ≤ not_yet_read → passes (if b then Gap n else r) ≤ not_yet_read
gap_or n m not_yet_read r true g h = g
gap_or n m not_yet_read r false g h = h

pub station_given : (t : Traffic) (y : ℕ) → IsSound t → IsStation t y → y < length t.seats
station_given t y s h = live_within t.seats y (s.stations y h)

reading_within : (not_yet_read window : ℕ) (l : List CarriedFrame) → length l ≡ not_yet_read → passes (if nat_lt 0 (not_yet_read - window) then Gap (not_yet_read - window) else first_reading l) ≤ not_yet_read
reading_within not_yet_read window [] e = gap_or (not_yet_read - window) 0 not_yet_read Empty (nat_lt 0 (not_yet_read - window)) (omega arith) (omega arith)
reading_within not_yet_read window (c ∷ cs) e = gap_or (not_yet_read - window) 1 not_yet_read (Frame c.frame) (nat_lt 0 (not_yet_read - window)) (omega arith) (omega arith)

pub passes_within : (t : Traffic) (y : ℕ) → IsSound t → IsStation t y → (seat_at t y).heard + passes (next_reading t y) ≤ length t.wire
passes_within t y s given =
    let h = (s.seats y (station_given t y s given)).heard in
    let n : length (not_yet_read t y) ≡ length t.wire - (seat_at t y).heard = length-drop (seat_at t y).heard t.wire in
    let r = reading_within (length (not_yet_read t y)) (window_at t y) (not_yet_read t y) refl in
    omega arith

-- a bus of which a station has taken a reading
abbrev pub tapped : Inside → ℕ → SeatBook → WindowValue → Inside
tapped a s y w = record { wire = a.wire; seats = with_item a.seats s y; live = a.live; receive_windows = with_item a.receive_windows s w }

-- the window that was read of
pub read_tap : (a : Inside) (s : ℕ) (u : WindowValue) → s < length a.receive_windows.items → u ≡ get_or a.receive_windows.items s u → u ≡ tap_at a s
read_tap a s u h read = get_or_read a.receive_windows.items s u h read no_window

tapped_sizes : (a : Inside) (s : ℕ) (u w : WindowValue) → s < length a.receive_windows.items → u ≡ get_or a.receive_windows.items s u → w ≡ rest_of u → map size_of (set a.receive_windows.items s w) ≡ map size_of a.receive_windows.items
tapped_sizes a s u w h read rest =
    set_sizes a.receive_windows.items s w (ap (λ (z : WindowValue). z.size) rest ∙ (rest_size u ∙ ap (λ (z : WindowValue). z.size) (read_tap a s u h read)))

pub tapped_traffic : (a : Inside) (v : BusValue) (s n : ℕ) (x y : SeatBook) (u w : WindowValue) → bus_value_of a ≡ v → IsKept a → IsStation v.traffic s → x ≡ get_or a.seats.items s x → u ≡ get_or a.receive_windows.items s u → w ≡ rest_of u
    → y.seat ≡ hearing n x.seat → traffic_of (tapped a s y w) ≡ heard_more s n v.traffic
tapped_traffic a v s n x y u w is kept st read first rest e =
    let sound : IsSound v.traffic = subst (λ (b : BusValue). IsSound b.traffic) is kept.sound in
    let sizes = tapped_sizes a s u w (station_within a v s is st) first rest in
    ap (λ (m : List ℕ). let t : Traffic = record { wire = a.wire.carried; seats = map seat_of (set a.seats.items s y); windows = m } in t) sizes
    ∙ changed_traffic (hearing n) a v s x y is (station_given v.traffic s sound st) read e

pub read_kept : (a : Inside) (v : BusValue) (s n : ℕ) (x y : SeatBook) (u w : WindowValue) → bus_value_of a ≡ v → IsKept a → IsStation v.traffic s → x ≡ get_or a.seats.items s x → n ≡ passes (next_reading v.traffic s)
    → u ≡ get_or a.receive_windows.items s u → w ≡ rest_of u → y.seat ≡ hearing n x.seat → IsKept (tapped a s y w)
read_kept a v s n x y u w is kept st read passed first rest e =
    let sound : IsSound v.traffic = subst (λ (b : BusValue). IsSound b.traffic) is kept.sound in
    let given = station_given v.traffic s sound st in
    let within_wire = passes_within v.traffic s sound st in
    let q = seat_is a v s x is (within a v s is given) read in
    let wire : a.wire.carried ≡ v.traffic.wire = ap (λ (b : BusValue). b.traffic.wire) is in
    let bound : x.seat.heard + n ≤ length a.wire.carried = rw (wire, q) (omega arith) in
    let here = station_within a v s is st in
    let sizes = tapped_sizes a s u w here first rest in
    let in' = within a v s is given in
    let live : y.seat.live ≡ x.seat.live = ap (λ (z : SeatValue). z.live) e in
    let placed_is = placed_sound a s x y kept in' read live (λ b. subst (λ (z : SeatValue). IsBalanced a.wire.carried s z) (sym e) (balanced_hearing a.wire.carried s n x.seat bound b)) in
    let now = tapped_traffic a v s n x y u w is kept st read first rest e in
    let own : w ≡ window_of (heard_more s n v.traffic) s =
    rest ∙ (ap rest_of (read_tap a s u here first ∙ tap_is a v s is kept st) ∙ (window_rest v.traffic s given ∙ ap (λ (m : ℕ). window_of (heard_more s m v.traffic) s) (sym passed))) in
    record {
      sound = subst (λ (m : List ℕ). IsSound (record { wire = a.wire.carried; seats = map seat_of (set a.seats.items s y); windows = m })) (sym sizes) placed_is;
      receive_windows = λ i h.
          let h' : i < length a.receive_windows.items = (let l = length-set a.receive_windows.items s w in omega arith) in
          elim (same_or_not i s) [
            | inl z ↦ ap (window_in (set a.receive_windows.items s w)) z ∙ (get_or-set_same a.receive_windows.items s w no_window here ∙ (own ∙ (ap (λ (t : Traffic). window_of t s) (sym now) ∙ ap (window_of (traffic_of (tapped a s y w))) (sym z))))
            | inr z ↦ get_or-set_other a.receive_windows.items s i w no_window z ∙ (kept.receive_windows i h' ∙ (ap (λ (b : BusValue). window_of b.traffic i) is
                ∙ (sym (window_set i v.traffic s (hearing n (seat_at v.traffic s)) given (λ c. absurd (z (sym c)))) ∙ ap (λ (t : Traffic). window_of t i) (sym now))))
          ];
      live = placed_live a s x y kept in' read live;
      few_seats = rw (length-set a.seats.items s y) kept.few_seats;
      few_frames = kept.few_frames;
    }

-- a station's seat was given
pub pass_seat : (a : Inside) (v : BusValue) (s : ℕ) → bus_value_of a ≡ v → IsKept a → IsStation v.traffic s → s < length a.seats.items
pass_seat a v s is kept st = within a v s is (station_given v.traffic s (subst (λ (b : BusValue). IsSound b.traffic) is kept.sound) st)

-- what its window and its seat say of the reading that is passed over
pub pass_count : (a : Inside) (v : BusValue) (s n : ℕ) (u : WindowValue) → bus_value_of a ≡ v → IsKept a → IsStation v.traffic s → u ≡ get_or a.receive_windows.items s u → n ≡ passes (reading_of u) → n ≡ passes (next_reading v.traffic s)
pass_count a v s n u is kept st first count =
    count ∙ ap passes (ap reading_of (read_tap a s u (station_within a v s is st) first ∙ tap_is a v s is kept st) ∙ window_reading v.traffic s)

pub pass_few : (a : Inside) (v : BusValue) (s n : ℕ) (x : SeatBook) → bus_value_of a ≡ v → IsKept a → IsStation v.traffic s → x ≡ get_or a.seats.items s x → n ≡ passes (next_reading v.traffic s) → x.seat.heard + n < 2 ^ 32
pass_few a v s n x is kept st read count =
    let sound : IsSound v.traffic = subst (λ (b : BusValue). IsSound b.traffic) is kept.sound in
    let q = ap (λ (z : SeatValue). z.heard) (seat_is a v s x is (pass_seat a v s is kept st) read) in
    let within_wire = passes_within v.traffic s sound st in
    let wire : length a.wire.carried ≡ length v.traffic.wire = ap (λ (b : BusValue). length b.traffic.wire) is in
    let few = kept.few_frames in
    omega arith

-- no seat has less room
pub tapped_spares : (a : Inside) (v : BusValue) (s : ℕ) (x y : SeatBook) (w : WindowValue) → bus_value_of a ≡ v → IsKept a → IsStation v.traffic s → x ≡ get_or a.seats.items s x → x.spare ≤ y.spare → KeepsSpares v (bus_value_of (tapped a s y w))
tapped_spares a v s x y w is kept st read grows = placed_spares a v s x y is (pass_seat a v s is kept st) read grows
