-- A carry, a join and a leave keep a bus sound.
use Rattle.std.proofs.Common.{ℕ, suc, zero, ◌≡◌, ◌≢◌, ◌+◌, ◌<◌, ◌≤◌, List, [], ◌∷◌, ◌++◌, length, get_or, set, drop, Bool, true, false, cond, ◌&&◌, ◌==◌, nat_eq, eq-eqb, eqb-true, Option, Some, None, slice_get, refl, sym, ◌∙◌, subst, arith, inl, inr}
use Rattle.std.specs.List.{All, count_by}
use Rattle.std.proofs.lemmas.Bool.{ne_eqb}
use Rattle.std.proofs.lemmas.List.{length-set, length_push, get_or-set_same, get_or-set_other, get_or_append_left, get_or_push, drop_all, drop-append-le}
use Rattle.std.proofs.lemmas.List.Elements.{All-push, All-nil, All-head, All-tail, All-weaker}
use Rattle.std.proofs.lemmas.List.Sums.{sum_by_push, sum_by-cons}
use Rattle.bus_ledger.specs.BusValue.{IsStation, SeatValue, Traffic, nobody, seat_at}
use Rattle.can_frame.specs.FrameValue.{FrameValue}
use Rattle.bus_ledger.specs.Changes.{newcomer, with_newcomer, sending, carried_frame, carried_from, stray_frame, injected}
use Rattle.bus_ledger.specs.Carrying.{IsCarriedNext, offered, offer}
use Rattle.bus_ledger.specs.Ledger.{IsBalanced, IsGiven, IsSound, is_from, is_seat}
use Rattle.bus_ledger.specs.declared.traffic.QueuedFrame.{QueuedFrame}
use Rattle.bus_ledger.specs.declared.traffic.CarriedFrame.{CarriedFrame}
use Rattle.bus_ledger.proofs.Numbers.{same_or_not}

-- what an offer says of its seat
pub record IsOffer (n : ℕ) (s : SeatValue) (q : QueuedFrame) : Type 0 where
  pub live : s.live ≡ true
  pub heard : s.heard ≡ n
  pub first : slice_get s.queue 0 ≡ Some q

offer_says_at : (b c : Bool) (o : Option QueuedFrame) (q : QueuedFrame) → cond (b && c) o None ≡ Some q → (b ≡ true) × (c ≡ true) × (o ≡ Some q)
offer_says_at true true o q e = (refl, refl, e)
offer_says_at true false o q e = absurd cc
offer_says_at false c o q e = absurd cc

pub offer_says : (n : ℕ) (s : SeatValue) (q : QueuedFrame) → offered n s ≡ Some q → IsOffer n s q
offer_says n s q e =
    let r = offer_says_at s.live (s.heard == n) (slice_get s.queue 0) q e in
    record { live = r.0; heard = eqb-true s.heard n r.1; first = r.2 }

-- the first of the sender's queue is the frame that is carried
pub carries_first : (t : Traffic) (k : ℕ) (q r : QueuedFrame) → IsCarriedNext t k q → slice_get (seat_at t k).queue 0 ≡ Some r → IsCarriedNext t k r
carries_first t k q r next first =
    let o = offer_says (length t.wire) (seat_at t k) q next.offers in
    let e : ◌≡◌ {A = Option QueuedFrame} (Some q) (Some r) = sym o.first ∙ first in
    let same : q ≡ r = cc in
    subst (λ (x : QueuedFrame). IsCarriedNext t k x) same next

pub first_rest : (qs : List QueuedFrame) (q : QueuedFrame) → slice_get qs 0 ≡ Some q → length (drop 1 qs) + 1 ≡ length qs
first_rest [] q e = absurd cc
first_rest (x ∷ xs) q e = omega arith

balanced_sending : (wire : List CarriedFrame) (k : ℕ) (q : QueuedFrame) (s : SeatValue) → IsOffer (length wire) s q → IsBalanced wire k s → IsBalanced (wire ++ carried_frame k q ∷ []) k (sending s)
balanced_sending wire k q s o b =
    let longer = length_push wire (carried_frame k q) in
    record {
      ledger = let l = b.ledger in let r = first_rest s.queue q o.first in omega arith;
      carried =
          let more = sum_by_push (λ (c : CarriedFrame). cond {A = ℕ} (is_from k c) 1 0) wire (carried_frame k q) in
          let one : cond {A = ℕ} (is_from k (carried_frame k q)) 1 0 ≡ 1 = (let t : nat_eq k k ≡ true = eq-eqb k k refl in rw t refl) in
          let old = b.carried in
          omega arith;
      gone = λ e. let live = o.live in absurd cc;
      heard = let h = o.heard in omega arith;
      own = let past : length (wire ++ carried_frame k q ∷ []) ≤ s.heard + 1 = (let h = o.heard in omega arith) in
          subst (λ (l : List CarriedFrame). All (λ c. c.seat ≢ Some k) l) (sym (drop_all (s.heard + 1) (wire ++ carried_frame k q ∷ []) past)) (All-nil (λ (c : CarriedFrame). c.seat ≢ Some k));
    }

balanced_other : (wire : List CarriedFrame) (j k : ℕ) (q : QueuedFrame) (s : SeatValue) → j ≢ k → IsBalanced wire j s → IsBalanced (wire ++ carried_frame k q ∷ []) j s
balanced_other wire j k q s n b =
    let longer = length_push wire (carried_frame k q) in
    record {
      ledger = b.ledger;
      carried =
          let more = sum_by_push (λ (c : CarriedFrame). cond {A = ℕ} (is_from j c) 1 0) wire (carried_frame k q) in
          let none : cond {A = ℕ} (is_from j (carried_frame k q)) 1 0 ≡ 0 = (let t : nat_eq k j ≡ false = ne_eqb k j (λ e. n (sym e)) in rw t refl) in
          let old = b.carried in
          omega arith;
      gone = b.gone;
      heard = let h = b.heard in omega arith;
      own = subst (λ (l : List CarriedFrame). All (λ c. c.seat ≢ Some j) l) (sym (drop-append-le s.heard wire (carried_frame k q ∷ []) b.heard))
          (All-push (λ (c : CarriedFrame). c.seat ≢ Some j) (drop s.heard wire) (carried_frame k q) b.own (λ e. n (let same : j ≡ k = cc in same)));
    }

pub sound_carried : (t : Traffic) (k : ℕ) (q : QueuedFrame) → IsSound t → k < length t.seats → offer t k ≡ Some q → IsSound (carried_from k q t)
sound_carried t k q s in' o =
    let says = offer_says (length t.wire) (seat_at t k) q o in
    let y = sending (seat_at t k) in
    record {
      some = s.some;
      few = s.few;
      stations = λ y h. elim (same_or_not y k) [
        | inl e ↦ let here : y < length t.seats = omega arith in rw (← e, get_or-set_same) (s.stations y h)
        | inr n ↦ rw get_or-set_other (s.stations y h)
      ];
      windows = s.windows;
      senders = rw (length-set t.seats k y) (All-push (λ (c : CarriedFrame). IsGiven (length t.seats) c.seat) t.wire (carried_frame k q) s.senders in');
      seats = λ j h.
          let h' : j < length t.seats = rw (sym (length-set t.seats k y)) h in
          elim (same_or_not j k) [
            | inl e ↦ subst (λ (n : ℕ). IsBalanced (t.wire ++ carried_frame k q ∷ []) n (get_or (set t.seats k y) n nobody)) (sym e) (rw get_or-set_same (balanced_sending t.wire k q (seat_at t k) says (s.seats k in')))
            | inr n ↦ rw get_or-set_other (balanced_other t.wire j k q (seat_at t j) n (s.seats j h'))
          ];
    }

-- no frame is from a seat that was not given yet
given_other : (k : ℕ) (o : Option ℕ) → IsGiven k o → is_seat k o ≡ false
given_other k None g = refl
given_other k (Some j) g = ne_eqb j k (λ e. omega arith)

given_more : (n m : ℕ) (o : Option ℕ) → n ≤ m → IsGiven n o → IsGiven m o
given_more n m None l g = tt
given_more n m (Some j) l g = omega arith

count_none : (k : ℕ) (wire : List CarriedFrame) → All (λ c. IsGiven k c.seat) wire → count_by (is_from k) wire ≡ 0
count_none k [] all = refl
count_none k (c ∷ cs) all =
    let first : IsGiven k c.seat = All-head (λ (c : CarriedFrame). IsGiven k c.seat) c cs all in
    let rest = count_none k cs (All-tail (λ (c : CarriedFrame). IsGiven k c.seat) c cs all) in
    let step = sum_by-cons (λ (c : CarriedFrame). cond {A = ℕ} (is_from k c) 1 0) c cs in
    let none : cond {A = ℕ} (is_from k c) 1 0 ≡ 0 = (let t : is_seat k c.seat ≡ false = given_other k c.seat first in rw t refl) in
    omega arith

pub balanced_newcomer : (wire : List CarriedFrame) (k name : ℕ) → All (λ c. IsGiven k c.seat) wire → IsBalanced wire k (newcomer name (length wire))
balanced_newcomer wire k name all = record {
  ledger = refl;
  carried = sym (count_none k wire all);
  gone = λ e. refl;
  heard = omega arith;
  own = subst (λ (l : List CarriedFrame). All (λ c. c.seat ≢ Some k) l) (sym (drop_all (length wire) wire (omega arith))) (All-nil (λ (c : CarriedFrame). c.seat ≢ Some k));
}

pub live_within : (xs : List SeatValue) (k : ℕ) → (get_or xs k nobody).live ≡ true → k < length xs
live_within [] k e = absurd cc
live_within (x ∷ xs) zero e = omega arith
live_within (x ∷ xs) (suc k) e = let r = live_within xs k e in omega arith

station_stays : (t : Traffic) (name y : ℕ) → IsSound t → IsStation t y → (seat_at (with_newcomer name t) y).live ≡ true
station_stays t name y s given = let h : y < length t.seats = live_within t.seats y (s.stations y given) in rw get_or_append_left (s.stations y given)

pub sound_joined : (t : Traffic) (name : ℕ) → IsSound t → IsSound (with_newcomer name t)
sound_joined t name s =
    let y = newcomer name (length t.wire) in
    let longer = length_push t.seats y in
    record {
      some = s.some;
      few = s.few;
      stations = λ y given. station_stays t name y s given;
      windows = s.windows;
      senders = All-weaker (λ (c : CarriedFrame). IsGiven (length t.seats) c.seat) (λ (c : CarriedFrame). IsGiven (length (t.seats ++ y ∷ [])) c.seat) (λ c h. given_more (length t.seats) (length (t.seats ++ y ∷ [])) c.seat (omega arith) h) t.wire s.senders;
      seats = λ j h. elim (same_or_not j (length t.seats)) [
        | inl e ↦ let e' : length t.seats ≡ j = sym e in rw get_or_push (subst (λ (n : ℕ). IsBalanced t.wire n y) e' (balanced_newcomer t.wire (length t.seats) name s.senders))
        | inr n ↦ let h' : j < length t.seats = omega arith in rw get_or_append_left (s.seats j h')
      ];
    }

-- a frame from outside is no seat's
balanced_stray : (wire : List CarriedFrame) (k : ℕ) (f : FrameValue) (s : SeatValue) → IsBalanced wire k s → IsBalanced (wire ++ stray_frame f ∷ []) k s
balanced_stray wire k f s b =
    let longer = length_push wire (stray_frame f) in
    record {
      ledger = b.ledger;
      carried =
          let more = sum_by_push (λ (c : CarriedFrame). cond {A = ℕ} (is_from k c) 1 0) wire (stray_frame f) in
          let old = b.carried in
          omega arith;
      gone = b.gone;
      heard = let h = b.heard in omega arith;
      own = subst (λ (l : List CarriedFrame). All (λ c. c.seat ≢ Some k) l) (sym (drop-append-le s.heard wire (stray_frame f ∷ []) b.heard))
          (All-push (λ (c : CarriedFrame). c.seat ≢ Some k) (drop s.heard wire) (stray_frame f) b.own (λ e. cc));
    }

pub sound_injected : (t : Traffic) (f : FrameValue) → IsSound t → IsSound (injected f t)
sound_injected t f s = record {
  some = s.some;
  few = s.few;
  stations = s.stations;
  windows = s.windows;
  senders = All-push (λ (c : CarriedFrame). IsGiven (length t.seats) c.seat) t.wire (stray_frame f) s.senders tt;
  seats = λ k h. balanced_stray t.wire k f (seat_at t k) (s.seats k h);
}
