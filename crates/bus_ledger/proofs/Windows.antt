-- A station's window holds what the station has not read.
use Rattle.std.proofs.Common.{ℕ, ◌≡◌, ◌≢◌, ◌+◌, ◌-◌, ◌<◌, ◌≤◌, ◌==◌, List, [], ◌∷◌, ◌++◌, map, length, drop, true, false, nat_lt, nat_eq, eq-eqb, refl, sym, ap, ◌∙◌, arith, inl, inr, if◌then◌else◌}
use Rattle.std.proofs.lemmas.Bool.{cases_lt, ne_eqb, lt-ltb, le-ltb}
use Rattle.std.proofs.lemmas.List.{length-map, length_push, length-drop, drop-drop, drop-append-le, drop_all, drop-map, map_push, get_or-set_same, get_or-set_other}
use Rattle.circular_buffer.specs.Buffer.{keep_last}
use Rattle.can_frame.specs.FrameValue.{FrameValue}
use Rattle.can_frame.specs.declared.reading.Reading.{Reading}
use Rattle.can_frame.specs.declared.reading.Reading.TheVariants.{Gap}
use Rattle.bus_ledger.specs.BusValue.{SeatValue, Traffic, nobody, seat_at}
use Rattle.bus_ledger.specs.Changes.{with_seat, hearing, heard_more, sending, carried_frame, carried_from, injected, stray_frame}
use Rattle.bus_ledger.specs.Reception.{not_yet_read, first_reading, next_reading, reading_taken, passes, window_at}
use Rattle.bus_ledger.specs.Window.{WindowValue, window, pushed, taken_in, first_of, reading_of, rest_of, seen_through, frame_of, window_of}
use Rattle.bus_ledger.specs.declared.traffic.QueuedFrame.{QueuedFrame}
use Rattle.bus_ledger.specs.declared.traffic.CarriedFrame.{CarriedFrame}
use Rattle.bus_ledger.proofs.Numbers.{same_or_not}

-- one frame more that is not read
seen_push : (n : ℕ) (fs : List FrameValue) (f : FrameValue) → pushed f (seen_through n fs) ≡ seen_through n (fs ++ f ∷ [])
seen_push n fs f =
    let m = length fs - n in
    let longer = length_push fs f in
    let held = length-drop m fs in
    let front : drop m (fs ++ f ∷ []) ≡ drop m fs ++ f ∷ [] = drop-append-le m fs (f ∷ []) (omega arith) in
    let missed : m + (length (drop m fs) + 1 - n) ≡ length (fs ++ f ∷ []) - n = omega arith in
    let tail = length_push (drop m fs) f in
    let again : m + (length (drop m fs ++ f ∷ []) - n) ≡ length (fs ++ f ∷ []) - n = omega arith in
    let kept : keep_last n (drop m fs ++ f ∷ []) ≡ keep_last n (fs ++ f ∷ []) =
    ap (drop (length (drop m fs ++ f ∷ []) - n)) (sym front)
    ∙ (drop-drop (length (drop m fs ++ f ∷ []) - n) m (fs ++ f ∷ [])
    ∙ ap (λ (k : ℕ). drop k (fs ++ f ∷ [])) again) in
    cc

-- how many frames a reading passes over, and what is left
rest_passes : (fs : List FrameValue) → drop 1 fs ≡ drop (passes (first_of fs)) fs
rest_passes [] = refl
rest_passes (f ∷ fs) = refl

short_kept : (n : ℕ) (fs : List FrameValue) → length fs ≤ n → keep_last n fs ≡ fs
short_kept n fs h = let e : length fs - n ≡ 0 = omega arith in rw e refl

first_of_map : (us : List CarriedFrame) → first_of (map frame_of us) ≡ first_reading us
first_of_map [] = refl
first_of_map (c ∷ cs) = refl

-- the reading of what is seen
seen_reading : (n : ℕ) (us : List CarriedFrame) → reading_of (seen_through n (map frame_of us)) ≡ (if nat_lt 0 (length us - n) then Gap (length us - n) else first_reading us)
seen_reading n us =
    let same = length-map us frame_of in
    elim (cases_lt n (length us)) [
      | inl h ↦
          let here : nat_lt 0 (length us - n) ≡ true = lt-ltb 0 (length us - n) (omega arith) in
          let there : nat_lt 0 (length (map frame_of us) - n) ≡ true = lt-ltb 0 (length (map frame_of us) - n) (omega arith) in
          rw (here, there) (ap (λ (m : ℕ). Gap (m - n)) same)
      | inr h ↦
          let here : nat_lt 0 (length us - n) ≡ false = le-ltb 0 (length us - n) (omega arith) in
          let there : nat_lt 0 (length (map frame_of us) - n) ≡ false = le-ltb 0 (length (map frame_of us) - n) (omega arith) in
          rw (here, there) (ap first_of (short_kept n (map frame_of us) (omega arith)) ∙ first_of_map us)
    ]

-- what is seen after that reading
seen_rest : (n : ℕ) (fs : List FrameValue) → rest_of (seen_through n fs) ≡ seen_through n (drop (passes (reading_of (seen_through n fs))) fs)
seen_rest n fs =
    elim (cases_lt n (length fs)) [
      | inl h ↦
          let there : nat_lt 0 (length fs - n) ≡ true = lt-ltb 0 (length fs - n) (omega arith) in
          let held = length-drop (length fs - n) fs in
          let short = short_kept n (drop (length fs - n) fs) (omega arith) in
          let none : length (drop (length fs - n) fs) - n ≡ 0 = omega arith in
          rw there (cc)
      | inr h ↦
          let there : nat_lt 0 (length fs - n) ≡ false = le-ltb 0 (length fs - n) (omega arith) in
          let all = short_kept n fs h in
          let left = length-drop (passes (first_of fs)) fs in
          let short = short_kept n (drop (passes (first_of fs)) fs) (omega arith) in
          let none : length (drop (passes (first_of fs)) fs) - n ≡ 0 = omega arith in
          let none' : length fs - n ≡ 0 = omega arith in
          let rest = rest_passes fs in
          rw (there, all) (cc)
    ]

-- the window depends on the wire, on its size and on what the station has heard
pub window_same : (y : ℕ) (t u : Traffic) → u.wire ≡ t.wire → u.windows ≡ t.windows → (seat_at u y).heard ≡ (seat_at t y).heard → window_of u y ≡ window_of t y
window_same y t u w n h = cc

pub heard_set : (y : ℕ) (t : Traffic) (k : ℕ) (v : SeatValue) → k < length t.seats → (k ≡ y → v.heard ≡ (seat_at t y).heard) → (seat_at (with_seat t k v) y).heard ≡ (seat_at t y).heard
heard_set y t k v in' same =
    elim (same_or_not y k) [
      | inl e ↦ let here : y < length t.seats = omega arith in rw (← e, get_or-set_same) (same (sym e))
      | inr n ↦ rw get_or-set_other refl
    ]

-- where a seat changes, but not what the station has heard
pub window_set : (y : ℕ) (t : Traffic) (k : ℕ) (v : SeatValue) → k < length t.seats → (k ≡ y → v.heard ≡ (seat_at t y).heard) → window_of (with_seat t k v) y ≡ window_of t y
window_set y t k v in' same = window_same y t (with_seat t k v) refl refl (heard_set y t k v in' same)

-- the reading is that of the window
pub window_reading : (t : Traffic) (y : ℕ) → reading_of (window_of t y) ≡ next_reading t y
window_reading t y = seen_reading (window_at t y) (not_yet_read t y)

-- after the reading
pub window_rest : (t : Traffic) (y : ℕ) → y < length t.seats → rest_of (window_of t y) ≡ window_of (reading_taken y (next_reading t y) t) y
window_rest t y in' =
    let n = passes (next_reading t y) in
    let heard : (seat_at (heard_more y n t) y).heard ≡ (seat_at t y).heard + n = ap (λ (s : SeatValue). s.heard) (get_or-set_same t.seats y (hearing n (seat_at t y)) nobody in') in
    let left : drop n (not_yet_read t y) ≡ not_yet_read (heard_more y n t) y = drop-drop n (seat_at t y).heard t.wire ∙ ap (λ (m : ℕ). drop m t.wire) (sym heard) in
    seen_rest (window_at t y) (map frame_of (not_yet_read t y))
    ∙ ap (seen_through (window_at t y)) (ap (λ (r : Reading). drop (passes r) (map frame_of (not_yet_read t y))) (window_reading t y) ∙ (drop-map frame_of n (not_yet_read t y) ∙ ap (map frame_of) left))

-- a reading leaves the window's size
pub rest_size : (w : WindowValue) → (rest_of w).size ≡ w.size
rest_size w = elim (nat_lt 0 w.missed) as (λ b. (if b then window w.size w.unread 0 else window w.size (drop 1 w.unread) w.missed).size ≡ w.size) [ true ↦ refl | false ↦ refl ]

-- and so does a carry
pub taken_size : (y k : ℕ) (f : FrameValue) (w : WindowValue) → (taken_in y k f w).size ≡ w.size
taken_size y k f w = elim (k == y) as (λ b. (if b then w else pushed f w).size ≡ w.size) [ true ↦ refl | false ↦ refl ]

-- a station has heard the whole wire before and after a carry of its own
own_carried : (t : Traffic) (y : ℕ) (q : QueuedFrame) → y < length t.seats → (seat_at t y).heard ≡ length t.wire → window_of t y ≡ window_of (carried_from y q t) y
own_carried t y q in' heard =
    let t' = carried_from y q t in
    let longer = length_push t.wire (carried_frame y q) in
    let one : (seat_at t' y).heard ≡ (seat_at t y).heard + 1 = ap (λ (s : SeatValue). s.heard) (get_or-set_same t.seats y (sending (seat_at t y)) nobody in') in
    let before : not_yet_read t y ≡ [] = drop_all (seat_at t y).heard t.wire (omega arith) in
    let after : not_yet_read t' y ≡ [] = drop_all (seat_at t' y).heard t'.wire (omega arith) in
    ap (λ (us : List CarriedFrame). seen_through (window_at t y) (map frame_of us)) (before ∙ sym after)

-- a frame of another seat comes in
other_carried : (t : Traffic) (y k : ℕ) (q : QueuedFrame) → k ≢ y → (seat_at t y).heard ≤ length t.wire → pushed q.frame (window_of t y) ≡ window_of (carried_from k q t) y
other_carried t y k q n within =
    let t' = carried_from k q t in
    let same : (seat_at t' y).heard ≡ (seat_at t y).heard = ap (λ (s : SeatValue). s.heard) (get_or-set_other t.seats k y (sending (seat_at t k)) nobody (λ e. n (sym e))) in
    let more : not_yet_read t' y ≡ not_yet_read t y ++ carried_frame k q ∷ [] = ap (λ (m : ℕ). drop m t'.wire) same ∙ drop-append-le (seat_at t y).heard t.wire (carried_frame k q ∷ []) within in
    seen_push (window_at t y) (map frame_of (not_yet_read t y)) q.frame
    ∙ ap (seen_through (window_at t y)) (sym (ap (map frame_of) more ∙ map_push frame_of (not_yet_read t y) (carried_frame k q)))

-- after a carry from that seat
pub window_carried : (t : Traffic) (y k : ℕ) (q : QueuedFrame) → k < length t.seats → (seat_at t k).heard ≡ length t.wire → (seat_at t y).heard ≤ length t.wire → taken_in y k q.frame (window_of t y) ≡ window_of (carried_from k q t) y
window_carried t y k q in' heard within =
    elim (same_or_not k y) [
      | inl e ↦
          let test : nat_eq k y ≡ true = eq-eqb k y e in
          let here : y < length t.seats = omega arith in
          let heard' : (seat_at t y).heard ≡ length t.wire = ap (λ (n : ℕ). (seat_at t n).heard) (sym e) ∙ heard in
          rw test (own_carried t y q here heard' ∙ ap (λ (n : ℕ). window_of (carried_from n q t) y) (sym e))
      | inr n ↦
          let test : nat_eq k y ≡ false = ne_eqb k y n in
          rw test (other_carried t y k q n within)
    ]

-- after a frame from outside
pub window_injected : (t : Traffic) (y : ℕ) (f : FrameValue) → (seat_at t y).heard ≤ length t.wire → pushed f (window_of t y) ≡ window_of (injected f t) y
window_injected t y f within =
    let more : not_yet_read (injected f t) y ≡ not_yet_read t y ++ stray_frame f ∷ [] = drop-append-le (seat_at t y).heard t.wire (stray_frame f ∷ []) within in
    seen_push (window_at t y) (map frame_of (not_yet_read t y)) f
    ∙ ap (seen_through (window_at t y)) (sym (ap (map frame_of) more ∙ map_push frame_of (not_yet_read t y) (stray_frame f)))
