-- What the changes of the bus leave as it was.
use Rattle.std.proofs.Common.{ℕ, suc, zero, ◌≡◌, ◌≢◌, ◌+◌, ◌-◌, ◌<◌, ◌≤◌, List, [], ◌∷◌, ◌++◌, map, length, get_or, set, take, Bool, true, false, cond, refl, sym, ap, ◌∙◌, subst, arith, ◌⊎◌, inl, inr, if◌then◌else◌}
use Rattle.std.specs.List.{count_by}
use Rattle.std.proofs.lemmas.List.{length-set, length-map, length_push, get_or-set_same, get_or-set_other, take_more, map-append, set_past, get_or_push}
use Rattle.std.proofs.lemmas.List.Sums.{sum_by-cons, sum_by-set, sum_by_push}
use Rattle.bus_ledger.specs.BusValue.{SeatValue, Traffic, nobody, seat_at, IsLive, IsUnit}
use Rattle.bus_ledger.specs.Changes.{newcomer, with_newcomer, queueing, queued, leaving, left, with_seat, hearing, heard_more, withdrawn}
use Rattle.bus_ledger.specs.Reception.{reading_taken, passes}
use Rattle.can_frame.specs.declared.reading.Reading.{Reading}
use Rattle.bus_ledger.specs.declared.traffic.Which.{Which}
use Rattle.bus_ledger.specs.declared.traffic.Which.TheVariants as which
use Rattle.node_core.specs.declared.heard.Withdraw.{Withdraw}
use Rattle.node_core.specs.declared.heard.Withdraw.TheVariants as withdraw
use Rattle.bus_ledger.specs.Newcomers.{live_units}
use Rattle.bus_ledger.specs.declared.traffic.QueuedFrame.{QueuedFrame}
use Rattle.journal.specs.Steps.{put_all, withdrawn_by, reacted, untagged}
use Rattle.station_table.specs.declared.reaction.Reaction.{Reaction}

pub within_or_past : (k n : ℕ) → (k < n) ⊎ (n ≤ k)
within_or_past k zero = inr (omega arith)
within_or_past zero (suc n) = inl (omega arith)
within_or_past (suc k) (suc n) = elim (within_or_past k n) [ inl h ↦ inl (omega arith) | inr h ↦ inr (omega arith) ]

-- a live seat was given
pub given : (xs : List SeatValue) (k : ℕ) → (get_or xs k nobody).live ≡ true → k < length xs
given [] k e = absurd cc
given (x ∷ xs) zero e = omega arith
given (x ∷ xs) (suc k) e = let r = given xs k e in omega arith

live_at : (xs : List SeatValue) (k j : ℕ) (q : QueuedFrame) → (get_or (set xs k (queueing q (get_or xs k nobody))) j nobody).live ≡ (get_or xs j nobody).live
live_at [] k j q = refl
live_at (x ∷ xs) zero zero q = refl
live_at (x ∷ xs) zero (suc j) q = refl
live_at (x ∷ xs) (suc k) zero q = refl
live_at (x ∷ xs) (suc k) (suc j) q = live_at xs k j q

-- one frame more in a queue
pub live_queued : (t : Traffic) (k j : ℕ) (q : QueuedFrame) → (seat_at (queued k q t) j).live ≡ (seat_at t j).live
live_queued t k j q = live_at t.seats k j q

pub IsLive-queued : (t : Traffic) (k j : ℕ) (q : QueuedFrame) → IsLive t j → IsLive (queued k q t) j
IsLive-queued t k j q l = (rw (length-set t.seats k (queueing q (seat_at t k))) l.0, live_queued t k j q ∙ l.1)

-- the frames that a seat has queued so far
pub own_queued : (t : Traffic) (k : ℕ) (q : QueuedFrame) → k < length t.seats → (seat_at (queued k q t) k).queued ≡ (seat_at t k).queued + 1
own_queued t k q h = ap (λ (s : SeatValue). s.queued) (get_or-set_same t.seats k (queueing q (seat_at t k)) nobody h)

-- after the first frames of a list
pub live_put : (k j : ℕ) (qs : List QueuedFrame) (t : Traffic) → IsLive t j → IsLive (put_all k qs t) j
live_put k j [] t l = l
live_put k j (q ∷ qs) t l = live_put k j qs (queued k q t) (IsLive-queued t k j q l)

pub put_count : (k : ℕ) (qs : List QueuedFrame) (t : Traffic) → k < length t.seats → (seat_at (put_all k qs t) k).queued ≡ (seat_at t k).queued + length qs
put_count k [] t h = omega arith
put_count k (q ∷ qs) t h =
    let r = put_count k qs (queued k q t) (rw (length-set t.seats k (queueing q (seat_at t k))) h) in
    let o = own_queued t k q h in
    omega arith

pub put_push : (k : ℕ) (qs : List QueuedFrame) (q : QueuedFrame) (t : Traffic) → put_all k (qs ++ q ∷ []) t ≡ queued k q (put_all k qs t)
put_push k [] q t = refl
put_push k (x ∷ qs) q t = put_push k qs q (queued k x t)

-- a seat that goes leaves one live unit fewer
abbrev pub weight : SeatValue → ℕ
weight s = cond {A = ℕ} s.live 1 0

pub count_left : (xs : List SeatValue) (k : ℕ) → k < length xs → (get_or xs k nobody).live ≡ true → count_by (λ (s : SeatValue). s.live) (set xs k (leaving (get_or xs k nobody))) + 1 ≡ count_by (λ (s : SeatValue). s.live) xs
count_left xs k h live =
    let s = sum_by-set weight xs k (leaving (get_or xs k nobody)) nobody h in
    let one : weight (get_or xs k nobody) ≡ 1 = rw live refl in
    omega arith

-- where the first so many are live, at least so many are
pub count_first : (xs : List SeatValue) (n : ℕ) → ((y : ℕ) → y < n → (get_or xs y nobody).live ≡ true) → n ≤ count_by (λ (s : SeatValue). s.live) xs
count_first xs zero h = omega arith
count_first [] (suc n) h = absurd (let e : false ≡ true = h 0 (omega arith) in cc)
count_first (x ∷ xs) (suc n) h =
    let first : weight x ≡ 1 = (let e : x.live ≡ true = h 0 (omega arith) in rw e refl) in
    let rest = count_first xs n (λ y l. h (suc y) (omega arith)) in
    let step = sum_by-cons weight x xs in
    omega arith

-- all stations' seats are live
abbrev pub StationsLive : Traffic → Type 0
StationsLive t = (y : ℕ) → y < length t.windows → (seat_at t y).live ≡ true

-- beside the stations a unit is live
pub some_live : (t : Traffic) (k : ℕ) → StationsLive t → IsUnit t k → 1 ≤ live_units t
some_live t k stations u =
    let l = count_left t.seats k u.1 u.2 in
    let o = count_first (set t.seats k (leaving (seat_at t k))) (length t.windows)
    (λ y h. let n : y ≢ k = (λ e. let z = u.0 in omega arith) in ap (λ (s : SeatValue). s.live) (get_or-set_other t.seats k y (leaving (seat_at t k)) nobody n) ∙ stations y h) in
    omega arith

pub live_left : (t : Traffic) (k : ℕ) → StationsLive t → IsUnit t k → live_units (left k t) + 1 ≡ live_units t
live_left t k stations u =
    let l = count_left t.seats k u.1 u.2 in
    let o = some_live t k stations u in
    omega arith

-- the next element of a list was queued
pub put_more : {A : Type 0} (f : A → QueuedFrame) (k : ℕ) (xs : List A) (i : ℕ) (x : A) (t0 t t' : Traffic) → i < length xs → x ≡ get_or xs i x
    → t ≡ put_all k (map f (take i xs)) t0 → t' ≡ queued k (f x) t → t' ≡ put_all k (map f (take (i + 1) xs)) t0
put_more f k xs i x t0 t t' h read before now =
    now ∙ (ap (λ (u : Traffic). queued k (f x) u) before ∙ (sym (put_push k (map f (take i xs)) (f x) t0)
    ∙ ap (λ (l : List QueuedFrame). put_all k l t0) (sym (ap (map f) (take_more xs i x h ∙ ap (λ y. take i xs ++ y ∷ []) (sym read)) ∙ map-append f (take i xs) (x ∷ [])))))

-- a seat whose liveness or count stays
pub set_live : (xs : List SeatValue) (k j : ℕ) (y : SeatValue) → y.live ≡ (get_or xs k nobody).live → (get_or (set xs k y) j nobody).live ≡ (get_or xs j nobody).live
set_live [] k j y e = refl
set_live (x ∷ xs) zero zero y e = e
set_live (x ∷ xs) zero (suc j) y e = refl
set_live (x ∷ xs) (suc k) zero y e = refl
set_live (x ∷ xs) (suc k) (suc j) y e = set_live xs k j y e

pub set_queued : (xs : List SeatValue) (k j : ℕ) (y : SeatValue) → y.queued ≡ (get_or xs k nobody).queued → (get_or (set xs k y) j nobody).queued ≡ (get_or xs j nobody).queued
set_queued [] k j y e = refl
set_queued (x ∷ xs) zero zero y e = e
set_queued (x ∷ xs) zero (suc j) y e = refl
set_queued (x ∷ xs) (suc k) zero y e = refl
set_queued (x ∷ xs) (suc k) (suc j) y e = set_queued xs k j y e

pub set_units : (xs : List SeatValue) (k : ℕ) (y : SeatValue) → y.live ≡ (get_or xs k nobody).live → count_by (λ (s : SeatValue). s.live) (set xs k y) ≡ count_by (λ (s : SeatValue). s.live) xs
set_units xs k y e = elim (within_or_past k (length xs)) [
  | inl h ↦ let s = sum_by-set weight xs k y nobody h in let w : weight y ≡ weight (get_or xs k nobody) = ap (λ b. cond {A = ℕ} b 1 0) e in omega arith
  | inr h ↦ ap (count_by (λ (s : SeatValue). s.live)) (set_past xs k y h)
]

-- a change of one seat that leaves who is live and what was queued as it was
pub record Keeps (t u : Traffic) : Type 0 where
  pub seats : length u.seats ≡ length t.seats
  pub wire : u.wire ≡ t.wire
  pub live : (j : ℕ) → (seat_at u j).live ≡ (seat_at t j).live
  pub queued : (j : ℕ) → (seat_at u j).queued ≡ (seat_at t j).queued
  pub units : live_units u ≡ live_units t

pub keeps_set : (t : Traffic) (k : ℕ) (y : SeatValue) → y.live ≡ (seat_at t k).live → y.queued ≡ (seat_at t k).queued → Keeps t (with_seat t k y)
keeps_set t k y live queued = record {
  seats = length-set t.seats k y;
  wire = refl;
  live = λ j. set_live t.seats k j y live;
  queued = λ j. set_queued t.seats k j y queued;
  units = ap (λ (n : ℕ). n - length t.windows) (set_units t.seats k y live);
}

pub keeps_refl : (t : Traffic) → Keeps t t
keeps_refl t = record { seats = refl; wire = refl; live = λ j. refl; queued = λ j. refl; units = refl }

pub keeps_then : (t u v : Traffic) → Keeps t u → Keeps u v → Keeps t v
keeps_then t u v a b = record {
  seats = b.seats ∙ a.seats;
  wire = b.wire ∙ a.wire;
  live = λ j. b.live j ∙ a.live j;
  queued = λ j. b.queued j ∙ a.queued j;
  units = b.units ∙ a.units;
}

pub keeps_heard : (t : Traffic) (k n : ℕ) → Keeps t (heard_more k n t)
keeps_heard t k n = keeps_set t k _ refl refl

pub keeps_withdrawn : (t : Traffic) (k : ℕ) (which : Which) → Keeps t (withdrawn k which t)
keeps_withdrawn t k which = keeps_set t k _ refl refl

pub keeps_withdrawn_by : (k : ℕ) (w : Withdraw) (t : Traffic) → Keeps t (withdrawn_by k w t)
keeps_withdrawn_by k withdraw.Keep t = keeps_refl t
keeps_withdrawn_by k withdraw.Session t = keeps_withdrawn t k which.Session
keeps_withdrawn_by k withdraw.All t = keeps_withdrawn t k which.All

pub keeps_withdrawn_if : (b : Bool) (y : ℕ) (t : Traffic) → Keeps t (if b then withdrawn y which.All t else t)
keeps_withdrawn_if true y t = keeps_withdrawn t y which.All
keeps_withdrawn_if false y t = keeps_refl t

pub keeps_read : (y : ℕ) (r : Reading) (t : Traffic) → Keeps t (reading_taken y r t)
keeps_read y r t = keeps_heard t y (passes r)

pub live_kept : (t u : Traffic) (k : ℕ) → Keeps t u → IsLive t k → IsLive u k
live_kept t u k keeps l = (rw keeps.seats l.0, keeps.live k ∙ l.1)

-- what a list of frames adds
queued_bound : (xs : List SeatValue) (k j : ℕ) (q : QueuedFrame) → (get_or (set xs k (queueing q (get_or xs k nobody))) j nobody).queued ≤ (get_or xs j nobody).queued + 1
queued_bound [] k j q = omega arith
queued_bound (x ∷ xs) zero zero q = omega arith
queued_bound (x ∷ xs) zero (suc j) q = omega arith
queued_bound (x ∷ xs) (suc k) zero q = omega arith
queued_bound (x ∷ xs) (suc k) (suc j) q = queued_bound xs k j q

pub put_bound : (k : ℕ) (qs : List QueuedFrame) (t : Traffic) (j : ℕ) → (seat_at (put_all k qs t) j).queued ≤ (seat_at t j).queued + length qs
put_bound k [] t j = omega arith
put_bound k (q ∷ qs) t j =
    let r = put_bound k qs (queued k q t) j in
    let o = queued_bound t.seats k j q in
    omega arith

pub put_seats : (k : ℕ) (qs : List QueuedFrame) (t : Traffic) → length (put_all k qs t).seats ≡ length t.seats
put_seats k [] t = refl
put_seats k (q ∷ qs) t = put_seats k qs (queued k q t) ∙ length-set t.seats k (queueing q (seat_at t k))

pub put_wire : (k : ℕ) (qs : List QueuedFrame) (t : Traffic) → (put_all k qs t).wire ≡ t.wire
put_wire k [] t = refl
put_wire k (q ∷ qs) t = put_wire k qs (queued k q t)

pub put_units : (k : ℕ) (qs : List QueuedFrame) (t : Traffic) → live_units (put_all k qs t) ≡ live_units t
put_units k [] t = refl
put_units k (q ∷ qs) t = put_units k qs (queued k q t) ∙ ap (λ (n : ℕ). n - length t.windows) (set_units t.seats k (queueing q (seat_at t k)) refl)

-- some frames more were queued, and nothing else changed that counts
pub record PutsOn (n : ℕ) (t u : Traffic) : Type 0 where
  pub seats : length u.seats ≡ length t.seats
  pub wire : u.wire ≡ t.wire
  pub units : live_units u ≡ live_units t
  pub queued : (j : ℕ) → (seat_at u j).queued ≤ (seat_at t j).queued + n

pub puts : (k : ℕ) (qs : List QueuedFrame) (t v : Traffic) → Keeps t v → PutsOn (length qs) t (put_all k qs v)
puts k qs t v keeps = record {
  seats = put_seats k qs v ∙ keeps.seats;
  wire = put_wire k qs v ∙ keeps.wire;
  units = put_units k qs v ∙ keeps.units;
  queued = λ j. (let b = put_bound k qs v j in let q = keeps.queued j in omega arith);
}

pub puts_reacted : (y : ℕ) (r : Reaction) (t v : Traffic) → Keeps t v → PutsOn (length r.put) t (reacted y r v)
puts_reacted y r t v keeps =
    subst (λ (n : ℕ). PutsOn n t (reacted y r v)) (length-map r.put untagged) (puts y (map untagged r.put) t _ (keeps_then t v _ keeps (keeps_withdrawn_if r.withdraw y v)))

-- a station's seat was given and is not gone
pub station_live : (t : Traffic) (y : ℕ) → (seat_at t y).live ≡ true → IsLive t y
station_live t y live = (given t.seats y live, live)

pub live_read : (t : Traffic) (y : ℕ) (r : Reading) → IsLive t y → IsLive (reading_taken y r t) y
live_read t y r h = (
  omega (arith, length-set t.seats y (hearing (passes r) (seat_at t y)), h.0),
  ap (λ (s : SeatValue). s.live) (get_or-set_same t.seats y (hearing (passes r) (seat_at t y)) nobody h.0) ∙ h.1,
)

-- one unit more is live
pub joined_units : (t : Traffic) (name : ℕ) → StationsLive t → live_units (with_newcomer name t) ≡ live_units t + 1
joined_units t name stations =
    let s = sum_by_push weight t.seats (newcomer name (length t.wire)) in
    let some = count_first t.seats (length t.windows) stations in
    omega arith

joined_at : (xs : List SeatValue) (y : SeatValue) (j : ℕ) → y.queued ≡ 0 → (get_or (xs ++ y ∷ []) j nobody).queued ≤ (get_or xs j nobody).queued
joined_at [] y zero e = omega arith
joined_at [] y (suc j) e = omega arith
joined_at (x ∷ xs) y zero e = omega arith
joined_at (x ∷ xs) y (suc j) e = joined_at xs y j e

pub joined_queued : (t : Traffic) (name j : ℕ) → (seat_at (with_newcomer name t) j).queued ≤ (seat_at t j).queued
joined_queued t name j = joined_at t.seats (newcomer name (length t.wire)) j refl

pub joined_name : (t : Traffic) (name : ℕ) (q : QueuedFrame) → (seat_at (queued (length t.seats) q (with_newcomer name t)) (length t.seats)).name ≡ name
joined_name t name q =
    let k = length t.seats in
    let y = newcomer name (length t.wire) in
    let long : k < length (t.seats ++ y ∷ []) = omega (arith, length_push t.seats y) in
    ap (λ (s : SeatValue). s.name) (get_or-set_same (t.seats ++ y ∷ []) k (queueing q (get_or (t.seats ++ y ∷ []) k nobody)) nobody long) ∙ ap (λ (s : SeatValue). s.name) (get_or_push t.seats y nobody k refl)

pub joined_live : (t : Traffic) (name : ℕ) → IsLive (with_newcomer name t) (length t.seats)
joined_live t name =
    let y = newcomer name (length t.wire) in
    (omega (arith, length_push t.seats y), ap (λ (s : SeatValue). s.live) (get_or_push t.seats y nobody (length t.seats) refl))
