-- The best offer among the live seats is the best of all.
use Rattle.std.proofs.Common.{ℕ, suc, zero, ◌≡◌, ◌<◌, ◌≤◌, List, [], map, length, get_or, Bool, true, false, MatchOption, cond, ◌&&◌, ◌==◌, Option, Some, None, slice_get, refl, sym, ap, ◌∙◌, subst, arith, ◌⊎◌, inl, inr}
use Rattle.bus_ledger.specs.BusValue.{SeatValue, SeatBook, nobody, book_at, seat_at}
use Rattle.bus_ledger.specs.Carrying.{offered, offer, Wins, IsCarriedNext, IsIdle}
use Rattle.bus_ledger.specs.Offers.{IsInOrder, IsBest, IsBestSeatSoFar, IsBestSoFar, offer_at}
use Rattle.bus_ledger.specs.BusValue.{BusValue}
use Rattle.bus_ledger.specs.Inside.{bus_value_of, seat_of, traffic_of, live_numbers, IsKept}
use Rattle.bus_ledger.specs.declared.bus.Bus.TheInside.{Inside}
use Rattle.bus_ledger.specs.declared.traffic.QueuedFrame.{QueuedFrame}
use Rattle.bus_ledger.proofs.Live.{LiveAt, live_complete, live_sound, live_rises}
use Rattle.bus_ledger.proofs.Seats.{seat_book}
use Rattle.std.proofs.lemmas.List.{length-map, get_or_past}

pub in_order : (a : Inside) → IsKept a → IsInOrder a.seats.items a.live.items
in_order a kept = subst (λ (l : List ℕ). IsInOrder a.seats.items l) (sym kept.live) (record {
  within = λ i h. (live_sound 0 a.seats.items i (get_or (live_numbers 0 a.seats.items) i 0) h (omega arith)).0;
  ascending = λ i j le h. live_rises 0 a.seats.items i j le h;
})

-- each live seat stands in the list
pub listed : (a : Inside) → IsKept a → (k : ℕ) → (book_at a.seats.items k).seat.live ≡ true → LiveAt a.live.items k
listed a kept k live = subst (λ (l : List ℕ). LiveAt l k) (sym kept.live) (live_complete 0 a.seats.items k k (omega arith) live)

offer_is : (a : Inside) (k : ℕ) → offer (traffic_of a) k ≡ offered (length a.wire.carried) (book_at a.seats.items k).seat
offer_is a k = ap (λ (s : SeatValue). offered (length a.wire.carried) s) (seat_book a.seats.items k)

offer_is_live_at : (b : Bool) (c : Bool) (o : Option QueuedFrame) (r : QueuedFrame) → cond (b && c) o None ≡ Some r → b ≡ true
offer_is_live_at true c o r e = refl
offer_is_live_at false c o r e = absurd cc

offer_is_live : (n : ℕ) (s : SeatValue) (r : QueuedFrame) → offered n s ≡ Some r → s.live ≡ true
offer_is_live n s r e = offer_is_live_at s.live (s.heard == n) (slice_get s.queue 0) r e

pub best_is_next : (a : Inside) (k : ℕ) (q : QueuedFrame) → IsKept a → IsBest (length a.wire.carried) a.seats.items a.live.items (length a.live.items) k q → IsCarriedNext (traffic_of a) k q
best_is_next a k q kept best = record {
  offers = offer_is a k ∙ best.offers;
  wins = λ j r o.
      let o' : offered (length a.wire.carried) (book_at a.seats.items j).seat ≡ Some r = sym (offer_is a j) ∙ o in
      let at = listed a kept j (offer_is_live (length a.wire.carried) (book_at a.seats.items j).seat r o') in
      let o'' : offer_at (length a.wire.carried) a.seats.items a.live.items at.index ≡ Some r = ap (λ (n : ℕ). offered (length a.wire.carried) (book_at a.seats.items n).seat) at.is ∙ o' in
      subst (λ (n : ℕ). Wins k q n r) at.is (best.wins at.index r at.within o'');
}

-- an option is none where it is never some
never_some : (o : Option QueuedFrame) → ((r : QueuedFrame) → o ≡ Some r → ⊥) → o ≡ None
never_some None h = refl
never_some (Some r) h = absurd (h r refl)

pub none_offers : (a : Inside) → IsKept a → IsBestSoFar (length a.wire.carried) a.seats.items a.live.items (length a.live.items) None → (k : ℕ) → offer (traffic_of a) k ≡ None
none_offers a kept none k =
    never_some (offer (traffic_of a) k) (λ r o.
    let o' : offered (length a.wire.carried) (book_at a.seats.items k).seat ≡ Some r = sym (offer_is a k) ∙ o in
    let at = listed a kept k (offer_is_live (length a.wire.carried) (book_at a.seats.items k).seat r o') in
    let n = none at.index at.within in
    let o'' : offer_at (length a.wire.carried) a.seats.items a.live.items at.index ≡ Some r = ap (λ (n : ℕ). offered (length a.wire.carried) (book_at a.seats.items n).seat) at.is ∙ o' in
    let clash : None ≡ Some r = sym n ∙ o'' in
    cc)

within_or_past : (k n : ℕ) → (k < n) ⊎ (n ≤ k)
within_or_past k zero = inr (omega arith)
within_or_past zero (suc n) = inl (omega arith)
within_or_past (suc k) (suc n) = elim (within_or_past k n) [ inl h ↦ inl (omega arith) | inr h ↦ inr (omega arith) ]

queue_of_gone : (a : Inside) → IsKept a → (k : ℕ) (v : Bool) → (seat_at (traffic_of a) k).live ≡ v → ((book_at a.seats.items k).seat.live ≡ true → (seat_at (traffic_of a) k).queue ≡ []) → (seat_at (traffic_of a) k).queue ≡ []
queue_of_gone a kept k true e live = live (ap (λ (s : SeatValue). s.live) (sym (seat_book a.seats.items k)) ∙ e)
queue_of_gone a kept k false e live =
    elim (within_or_past k (length a.seats.items)) [
      | inl h ↦ (kept.sound.seats k (rw (length-map a.seats.items seat_of) h)).gone e
      | inr h ↦ let h' : length (map seat_of a.seats.items) ≤ k = rw (length-map a.seats.items seat_of) h in ap (λ (s : SeatValue). s.queue) (get_or_past (map seat_of a.seats.items) k nobody h')
    ]

pub none_waits : (a : Inside) → IsKept a → ((i : ℕ) → i < length a.live.items → (book_at a.seats.items (get_or a.live.items i 0)).seat.queue ≡ []) → IsIdle (traffic_of a)
none_waits a kept none k =
    queue_of_gone a kept k (seat_at (traffic_of a) k).live refl (λ live.
    let at = listed a kept k live in
    ap (λ (s : SeatValue). s.queue) (seat_book a.seats.items k) ∙ (ap (λ (n : ℕ). (book_at a.seats.items n).seat.queue) (sym at.is) ∙ none at.index at.within))

-- the next sender, at what callers see
pub sender_is : (a : Inside) (v : BusValue) (n : ℕ) (seats : List SeatBook) (live : List ℕ) (r : Option (ℕ × QueuedFrame)) → bus_value_of a ≡ v → IsKept a → seats ≡ a.seats.items → live ≡ a.live.items → n ≡ length a.wire.carried
    → IsBestSoFar n seats live (length live) r → MatchOption r ((k : ℕ) → offer v.traffic k ≡ None) (λ b. IsCarriedNext v.traffic b.0 b.1)
sender_is a v n seats live None is kept es el en best = λ k.
    ap (λ (b : BusValue). offer b.traffic k) (sym is) ∙ none_offers a kept (subst (λ (m : ℕ). IsBestSoFar m a.seats.items a.live.items (length a.live.items) None) en
    (subst (λ (s : List SeatBook). IsBestSoFar n s a.live.items (length a.live.items) None) es (subst (λ (l : List ℕ). IsBestSoFar n seats l (length l) None) el best))) k
sender_is a v n seats live (Some b) is kept es el en best =
    subst (λ (w : BusValue). IsCarriedNext w.traffic b.0 b.1) is (best_is_next a b.0 b.1 kept (subst (λ (m : ℕ). IsBestSoFar m a.seats.items a.live.items (length a.live.items) (Some b)) en
    (subst (λ (s : List SeatBook). IsBestSoFar n s a.live.items (length a.live.items) (Some b)) es (subst (λ (l : List ℕ). IsBestSoFar n seats l (length l) (Some b)) el best))))

-- the next seat, at what callers see
pub next_seat_is : (a : Inside) (v : BusValue) (n lowest : ℕ) (seats : List SeatBook) (live : List ℕ) (r : Option ℕ) → bus_value_of a ≡ v → IsKept a → seats ≡ a.seats.items → live ≡ a.live.items → n ≡ length a.wire.carried
    → IsBestSeatSoFar n seats live (length live) lowest r → MatchOption r ((k : ℕ) → offer v.traffic k ≡ None) (λ k. (q : QueuedFrame) × IsCarriedNext v.traffic k q)
next_seat_is a v n lowest seats live None is kept es el en best = sender_is a v n seats live None is kept es el en best.1
next_seat_is a v n lowest seats live (Some k) is kept es el en best = (best.1.0, sender_is a v n seats live (Some (k, best.1.0)) is kept es el en best.1.2)

pub in_order_of : (a : Inside) (seats : List SeatBook) (live : List ℕ) → IsKept a → seats ≡ a.seats.items → live ≡ a.live.items → IsInOrder seats live
in_order_of a seats live kept es el = rw (es, el) (in_order a kept)

pub idle_is : (a : Inside) (v : BusValue) (seats : List SeatBook) (live : List ℕ) → bus_value_of a ≡ v → IsKept a → seats ≡ a.seats.items → live ≡ a.live.items
    → ((i : ℕ) → i < length live → (book_at seats (get_or live i 0)).seat.queue ≡ []) → IsIdle v.traffic
idle_is a v seats live is kept es el none =
    let P : List SeatBook → List ℕ → Type 0 = λ s l. (i : ℕ) → i < length l → (book_at s (get_or l i 0)).seat.queue ≡ [] in
    subst (λ (b : BusValue). IsIdle b.traffic) is (none_waits a kept (subst (λ (s : List SeatBook). P s a.live.items) es (subst (λ (l : List ℕ). P seats l) el none)))
