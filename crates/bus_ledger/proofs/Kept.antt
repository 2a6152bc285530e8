-- A carry, a join and a leave keep the fields of a bus in order.
use Rattle.std.proofs.Common.{ℕ, ◌≡◌, ◌+◌, ◌<◌, ◌≤◌, ◌^◌, List, [], ◌∷◌, ◌++◌, map, length, get_or, set, not, ◌==◌, Some, slice_get, refl, sym, ap, ◌∙◌, subst, arith}
use Rattle.std.specs.List.{filter}
use Rattle.std.proofs.lemmas.List.{map-set, map_push, length-set, length-map, length_push, get_or_read, get_or_append_left}
use Rattle.can_frame.specs.FrameValue.{FrameValue}
use Rattle.bus_ledger.specs.BusValue.{IsStation, SeatValue, SeatBook, Traffic, BusValue, no_book, seat_at}
use Rattle.bus_ledger.specs.Changes.{newcomer, with_newcomer, sending, leaving, left, carried_frame, carried_from, injected, stray_frame}
use Rattle.bus_ledger.specs.Carrying.{IsCarriedNext}
use Rattle.bus_ledger.specs.Ledger.{IsSound}
use Rattle.bus_ledger.specs.Inside.{seat_of, traffic_of, bus_value_of, live_numbers, IsKept}
use Rattle.bus_ledger.specs.declared.bus.Bus.TheInside.{Inside}
use Rattle.bus_ledger.specs.declared.traffic.QueuedFrame.{QueuedFrame}
use Rattle.bus_ledger.specs.Window.{WindowValue, size_of, window_in, window_of, pushed, taken_in}
use Rattle.bus_ledger.proofs.Taps.{Pushes, Takes, pushes_sizes, stations_are, takes_sizes, tap_is}
use Rattle.bus_ledger.proofs.Windows.{window_set, window_same, window_carried, window_injected}
use Rattle.bus_ledger.proofs.Live.{live_set, live_push, live_left}
use Rattle.bus_ledger.proofs.Seats.{within, seat_is, sound_set, station_given, balanced_leaving}
use Rattle.bus_ledger.proofs.Sounds.{sound_carried, sound_injected, sound_joined, live_within, offer_says, first_rest, carries_first}

-- the seat of an offer was given
pub next_within : (t : Traffic) (k : ℕ) (q : QueuedFrame) → IsCarriedNext t k q → k < length t.seats
next_within t k q n = live_within t.seats k (offer_says (length t.wire) (seat_at t k) q n.offers).live

-- the sender of an offer may send
pub send_waits : (a : Inside) (v : BusValue) (k : ℕ) (q : QueuedFrame) (x : SeatBook) → bus_value_of a ≡ v → IsCarriedNext v.traffic k q → x ≡ get_or a.seats.items k x → 0 < length x.seat.queue
send_waits a v k q x is n read =
    let s = seat_is a v k x is (within a v k is (next_within v.traffic k q n)) read in
    let o = offer_says (length v.traffic.wire) (seat_at v.traffic k) q n.offers in
    let r = first_rest (seat_at v.traffic k).queue q o.first in
    let same : length x.seat.queue ≡ length (seat_at v.traffic k).queue = ap (λ (z : SeatValue). length z.queue) s in
    omega arith

-- what is sent is the frame that is carried next
pub sent_is : (a : Inside) (v : BusValue) (k : ℕ) (q r : QueuedFrame) (x : SeatBook) → bus_value_of a ≡ v → IsCarriedNext v.traffic k q → x ≡ get_or a.seats.items k x → slice_get x.seat.queue 0 ≡ Some r
    → IsCarriedNext v.traffic k r
sent_is a v k q r x is n read first =
    let s = seat_is a v k x is (within a v k is (next_within v.traffic k q n)) read in
    carries_first v.traffic k q r n (sym (ap (λ (z : SeatValue). slice_get z.queue 0) s) ∙ first)

pub send_few : (a : Inside) (v : BusValue) (k : ℕ) (q : QueuedFrame) (x : SeatBook) → bus_value_of a ≡ v → IsCarriedNext v.traffic k q → x ≡ get_or a.seats.items k x → length v.traffic.wire + 1 < 2 ^ 32 → x.seat.heard + 1 < 2 ^ 32
send_few a v k q x is n read few =
    let s = seat_is a v k x is (within a v k is (next_within v.traffic k q n)) read in
    let o = offer_says (length v.traffic.wire) (seat_at v.traffic k) q n.offers in
    let same : x.seat.heard ≡ (seat_at v.traffic k).heard = ap (λ (z : SeatValue). z.heard) s in
    let all = o.heard in
    omega arith

pub seat_count : (a : Inside) (v : BusValue) → bus_value_of a ≡ v → length a.seats.items ≡ length v.traffic.seats
seat_count a v is = sym (length-map a.seats.items seat_of) ∙ ap (λ (b : BusValue). length b.traffic.seats) is

-- the value after a carry
pub carry_traffic : (a b : Inside) (v : BusValue) (k : ℕ) (q : QueuedFrame) (x y : SeatBook) → bus_value_of a ≡ v → k < length v.traffic.seats → x ≡ get_or a.seats.items k x
    → y.seat ≡ sending x.seat → b.wire.carried ≡ a.wire.carried ++ carried_frame k q ∷ [] → b.seats.items ≡ set a.seats.items k y → Takes a.receive_windows.items b.receive_windows.items k q.frame
    → traffic_of b ≡ carried_from k q v.traffic
carry_traffic a b v k q x y is h read e wire seats receive_window =
    let window = takes_sizes a.receive_windows.items b.receive_windows.items k q.frame receive_window in
    let y' : y.seat ≡ sending (seat_at (traffic_of a) k) = e ∙ ap sending (seat_is a (bus_value_of a) k x refl (within a v k is h) read) in
    let s : map seat_of b.seats.items ≡ set (map seat_of a.seats.items) k (sending (seat_at (traffic_of a) k)) =
    ap (map seat_of) seats ∙ (map-set seat_of a.seats.items k y ∙ ap (λ (z : SeatValue). set (map seat_of a.seats.items) k z) y') in
    let t : traffic_of b ≡ carried_from k q (traffic_of a) = cc in
    t ∙ ap (λ (w : BusValue). carried_from k q w.traffic) is

pub carry_kept : (a b : Inside) (v : BusValue) (k : ℕ) (q : QueuedFrame) (x y : SeatBook) → bus_value_of a ≡ v → IsKept a → IsCarriedNext v.traffic k q → x ≡ get_or a.seats.items k x
    → y.seat ≡ sending x.seat → b.wire.carried ≡ a.wire.carried ++ carried_frame k q ∷ [] → b.seats.items ≡ set a.seats.items k y → b.live.items ≡ a.live.items → Takes a.receive_windows.items b.receive_windows.items k q.frame
    → length v.traffic.wire + 1 < 2 ^ 32 → IsKept b
carry_kept a b v k q x y is kept next read e wire seats live receive_window few =
    let h = next_within v.traffic k q next in
    let in' = within a v k is h in
    let t = carry_traffic a b v k q x y is h read e wire seats receive_window in
    let sound : IsSound v.traffic = subst (λ (w : BusValue). IsSound w.traffic) is kept.sound in
    let longer = length_push a.wire.carried (carried_frame k q) in
    let same_wire : length a.wire.carried ≡ length v.traffic.wire = ap (λ (w : BusValue). length w.traffic.wire) is in
    let wire_now : length b.wire.carried ≡ length (a.wire.carried ++ carried_frame k q ∷ []) = ap length wire in
    record {
      sound = subst IsSound (sym t) (sound_carried v.traffic k q sound h next.offers);
      receive_windows = λ i g.
          let many = receive_window.many in
          let st : IsStation v.traffic i = (let m = stations_are a v is in omega arith) in
          receive_window.each i (omega arith) ∙ (ap (taken_in i k q.frame) (tap_is a v i is kept st)
          ∙ (window_carried v.traffic i k q h (offer_says (length v.traffic.wire) (seat_at v.traffic k) q next.offers).heard (sound.seats i (station_given v.traffic i sound st)).heard ∙ ap (λ (u : Traffic). window_of u i) (sym t)));
      live = live ∙ (kept.live ∙ (sym (live_set 0 a.seats.items k y (ap (λ (z : SeatValue). z.live) e ∙ ap (λ (w : SeatBook). w.seat.live) (get_or_read a.seats.items k x in' read no_book)))
          ∙ ap (live_numbers 0) (sym seats)));
      few_seats = let n = ap length seats ∙ length-set a.seats.items k y in let f = kept.few_seats in omega arith;
      few_frames = omega arith;
    }

-- the value after a join
join_traffic : (a b : Inside) (name : ℕ) (y : SeatBook) → y.seat ≡ newcomer name (length a.wire.carried) → b.wire.carried ≡ a.wire.carried → b.seats.items ≡ a.seats.items ++ y ∷ [] → b.receive_windows.items ≡ a.receive_windows.items
    → traffic_of b ≡ with_newcomer name (traffic_of a)
join_traffic a b name y e wire seats window =
    let s : map seat_of b.seats.items ≡ map seat_of a.seats.items ++ newcomer name (length a.wire.carried) ∷ [] =
    ap (map seat_of) seats ∙ (map_push seat_of a.seats.items y ∙ ap (λ (z : SeatValue). map seat_of a.seats.items ++ z ∷ []) e) in
    let size : map size_of b.receive_windows.items ≡ map size_of a.receive_windows.items = ap (map size_of) window in
    cc

-- the newcomer comes after the stations
window_joined : (t : Traffic) (name y : ℕ) → IsSound t → IsStation t y → window_of (with_newcomer name t) y ≡ window_of t y
window_joined t name y s given =
    let h : y < length t.seats = station_given t y s given in
    let same : (seat_at (with_newcomer name t) y).heard ≡ (seat_at t y).heard = rw get_or_append_left refl in
    window_same y t (with_newcomer name t) refl refl same

pub join_kept : (a b : Inside) (name number : ℕ) (y : SeatBook) → IsKept a → y.seat ≡ newcomer name (length a.wire.carried) → b.wire.carried ≡ a.wire.carried → b.seats.items ≡ a.seats.items ++ y ∷ []
    → b.live.items ≡ a.live.items ++ number ∷ [] → b.receive_windows.items ≡ a.receive_windows.items → number ≡ length a.seats.items → length a.seats.items + 1 < 2 ^ 32 → IsKept b
join_kept a b name number y kept e wire seats live window n few =
    let t = join_traffic a b name y e wire seats window in
    record {
      sound = subst IsSound (sym t) (sound_joined (traffic_of a) name kept.sound);
      receive_windows = λ i g.
          let g' : i < length a.receive_windows.items = subst (λ (w : List WindowValue). i < length w) window g in
          let st : IsStation (traffic_of a) i = (let m = stations_are a (bus_value_of a) refl in omega arith) in
          ap (λ (w : List WindowValue). window_in w i) window ∙ (kept.receive_windows i g' ∙ (sym (window_joined (traffic_of a) name i kept.sound st) ∙ ap (λ (u : Traffic). window_of u i) (sym t)));
      live = live ∙ (ap (λ (l : List ℕ). l ++ number ∷ []) kept.live ∙ (sym (live_push 0 number a.seats.items y (omega arith) (ap (λ (z : SeatValue). z.live) e)) ∙ ap (live_numbers 0) (sym seats)));
      few_seats = let m = ap length seats ∙ length_push a.seats.items y in omega arith;
      few_frames = let m = ap length wire in let f = kept.few_frames in omega arith;
    }

-- the value after a leave
pub leave_traffic : (a b : Inside) (v : BusValue) (k : ℕ) (x y : SeatBook) → bus_value_of a ≡ v → k < length v.traffic.seats → x ≡ get_or a.seats.items k x → y.seat ≡ leaving x.seat
    → b.wire.carried ≡ a.wire.carried → b.seats.items ≡ set a.seats.items k y → b.receive_windows.items ≡ a.receive_windows.items → traffic_of b ≡ left k v.traffic
leave_traffic a b v k x y is h read e wire seats window =
    let y' : y.seat ≡ leaving (seat_at (traffic_of a) k) = e ∙ ap leaving (seat_is a (bus_value_of a) k x refl (within a v k is h) read) in
    let s : map seat_of b.seats.items ≡ set (map seat_of a.seats.items) k (leaving (seat_at (traffic_of a) k)) =
    ap (map seat_of) seats ∙ (map-set seat_of a.seats.items k y ∙ ap (λ (z : SeatValue). set (map seat_of a.seats.items) k z) y') in
    let size : map size_of b.receive_windows.items ≡ map size_of a.receive_windows.items = ap (map size_of) window in
    let t : traffic_of b ≡ left k (traffic_of a) = cc in
    t ∙ ap (λ (w : BusValue). left k w.traffic) is

pub leave_kept : (a b : Inside) (v : BusValue) (k : ℕ) (x y : SeatBook) → bus_value_of a ≡ v → IsKept a → length v.traffic.windows ≤ k → k < length v.traffic.seats → x ≡ get_or a.seats.items k x → y.seat ≡ leaving x.seat
    → b.wire.carried ≡ a.wire.carried → b.seats.items ≡ set a.seats.items k y → b.live.items ≡ filter (λ n. not (n == k)) a.live.items → b.receive_windows.items ≡ a.receive_windows.items → IsKept b
leave_kept a b v k x y is kept above h read e wire seats live window =
    let in' = within a v k is h in
    let t = leave_traffic a b v k x y is h read e wire seats window in
    let sound : IsSound v.traffic = subst (λ (w : BusValue). IsSound w.traffic) is kept.sound in
    record {
      sound = subst IsSound (sym t) (sound_set v.traffic k (leaving (seat_at v.traffic k)) sound h (λ z. absurd (omega (arith, z, above))) (balanced_leaving v.traffic.wire k (seat_at v.traffic k)));
      receive_windows = λ i g.
          let g' : i < length a.receive_windows.items = subst (λ (w : List WindowValue). i < length w) window g in
          let st : IsStation v.traffic i = (let m = stations_are a v is in omega arith) in
          ap (λ (w : List WindowValue). window_in w i) window ∙ (tap_is a v i is kept st ∙ (sym (window_set i v.traffic k (leaving (seat_at v.traffic k)) h (λ z. absurd (omega (arith, z, above, st)))) ∙ ap (λ (u : Traffic). window_of u i) (sym t)));
      live = live ∙ (ap (filter (λ n. not (n == k))) kept.live ∙ (sym (live_left 0 a.seats.items k k y (omega arith) in' (ap (λ (z : SeatValue). z.live) e)) ∙ ap (live_numbers 0) (sym seats)));
      few_seats = let n = ap length seats ∙ length-set a.seats.items k y in let f = kept.few_seats in omega arith;
      few_frames = let m = ap length wire in let f = kept.few_frames in omega arith;
    }

-- the value after a frame from outside
pub inject_traffic : (a b : Inside) (v : BusValue) (f : FrameValue) → bus_value_of a ≡ v → b.wire.carried ≡ a.wire.carried ++ stray_frame f ∷ [] → b.seats.items ≡ a.seats.items → Pushes a.receive_windows.items b.receive_windows.items f
    → traffic_of b ≡ injected f v.traffic
inject_traffic a b v f is wire seats receive_window =
    let size = pushes_sizes a.receive_windows.items b.receive_windows.items f receive_window in
    let t : traffic_of b ≡ injected f (traffic_of a) = cc in
    t ∙ ap (λ (w : BusValue). injected f w.traffic) is

pub inject_kept : (a b : Inside) (v : BusValue) (f : FrameValue) → bus_value_of a ≡ v → IsKept a → b.wire.carried ≡ a.wire.carried ++ stray_frame f ∷ [] → b.seats.items ≡ a.seats.items
    → b.live.items ≡ a.live.items → Pushes a.receive_windows.items b.receive_windows.items f → length v.traffic.wire + 1 < 2 ^ 32 → IsKept b
inject_kept a b v f is kept wire seats live receive_window few =
    let t = inject_traffic a b v f is wire seats receive_window in
    let sound : IsSound v.traffic = subst (λ (w : BusValue). IsSound w.traffic) is kept.sound in
    let longer = length_push a.wire.carried (stray_frame f) in
    let same_wire : length a.wire.carried ≡ length v.traffic.wire = ap (λ (w : BusValue). length w.traffic.wire) is in
    let wire_now : length b.wire.carried ≡ length (a.wire.carried ++ stray_frame f ∷ []) = ap length wire in
    record {
      sound = subst IsSound (sym t) (sound_injected v.traffic f sound);
      receive_windows = λ i g.
          let many = receive_window.many in
          let st : IsStation v.traffic i = (let m = stations_are a v is in omega arith) in
          receive_window.each i (omega arith) ∙ (ap (pushed f) (tap_is a v i is kept st) ∙ (window_injected v.traffic i f (sound.seats i (station_given v.traffic i sound st)).heard ∙ ap (λ (u : Traffic). window_of u i) (sym t)));
      live = live ∙ (kept.live ∙ ap (live_numbers 0) (sym seats));
      few_seats = let n = ap length seats in let m = kept.few_seats in omega arith;
      few_frames = omega arith;
    }
