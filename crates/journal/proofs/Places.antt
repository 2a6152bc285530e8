-- One seat of the bus in place: frames put into its queue or withdrawn from it, and the next frame that it hears.
use Rattle.std.proofs.Common.{ℕ, suc, zero, ◌≡◌, ◌+◌, ◌<◌, List, [], ◌∷◌, ◌++◌, reverse, take, drop, length, slice_get, Some, refl, sym, ap, ◌∙◌, arith, set-set}
use Rattle.std.proofs.lemmas.List.{append-nil, append_assoc, get_or-set_same, reverse-append, set-get_or, take-append-drop}
use Rattle.bus_ledger.specs.BusValue.{SeatValue, Traffic, nobody, seat_at}
use Rattle.bus_ledger.specs.Changes.{hearing, queueing, with_seat, withdrawing}
use Rattle.bus_ledger.specs.declared.traffic.QueuedFrame.{QueuedFrame}
use Rattle.bus_ledger.specs.declared.traffic.Which.TheVariants as which
use Rattle.bus_model.specs.Messages.{Message}
use Rattle.bus_model.specs.Traffic.{Item}
use Rattle.bus_model.specs.Machine.{Seat, with_heard}
use Rattle.node_core.specs.declared.heard.Withdraw.{Withdraw}
use Rattle.node_core.specs.declared.heard.Withdraw.TheVariants as withdraw
use Rattle.journal.specs.State.{UnitState}
use Rattle.journal.specs.Steps.{put_all, withdrawn_by}
use Rattle.journal.proofs.Seated.{IsSeat}
use Rattle.journal.proofs.Queues.{IsSameSeat}
use Rattle.journal.proofs.Doing.{kept_by}

-- ---- one seat

-- frames put into a queue one by one
abbrev pub puts : List QueuedFrame → SeatValue → SeatValue
puts [] v = v
puts (q ∷ qs) v = puts qs (queueing q v)

pub puts_same : (qs : List QueuedFrame) (v : SeatValue) → IsSameSeat v (puts qs v)
puts_same [] v = record { name = refl; live = refl; heard = refl }
puts_same (q ∷ qs) v = let s = puts_same qs (queueing q v) in record { name = s.name; live = s.live; heard = s.heard }

pub puts_queue : (qs : List QueuedFrame) (v : SeatValue) → (puts qs v).queue ≡ v.queue ++ qs
puts_queue [] v = sym (append-nil v.queue)
puts_queue (q ∷ qs) v = puts_queue qs (queueing q v) ∙ append_assoc v.queue (q ∷ []) qs

-- what is withdrawn from a seat
abbrev pub withdraws : Withdraw → SeatValue → SeatValue
withdraws withdraw.Keep v = v
withdraws withdraw.Session v = withdrawing which.Session v
withdraws withdraw.All v = withdrawing which.All v

pub withdraws_same : (w : Withdraw) (v : SeatValue) → IsSameSeat v (withdraws w v)
withdraws_same withdraw.Keep v = record { name = refl; live = refl; heard = refl }
withdraws_same withdraw.Session v = record { name = refl; live = refl; heard = refl }
withdraws_same withdraw.All v = record { name = refl; live = refl; heard = refl }

pub withdraws_queue : (w : Withdraw) (v : SeatValue) → (withdraws w v).queue ≡ kept_by w v.queue
withdraws_queue withdraw.Keep v = refl
withdraws_queue withdraw.Session v = refl
withdraws_queue withdraw.All v = refl

pub then_same : (a b c : SeatValue) → IsSameSeat a b → IsSameSeat b c → IsSameSeat a c
then_same a b c s t = record { name = t.name ∙ s.name; live = t.live ∙ s.live; heard = t.heard ∙ s.heard }

-- ---- in its place

-- a seat changed twice
seated_again : (t : Traffic) (k : ℕ) (v : SeatValue) (f : SeatValue → SeatValue) → k < length t.seats → with_seat (with_seat t k v) k (f (seat_at (with_seat t k v) k)) ≡ with_seat t k (f v)
seated_again t k v f l =
    ap (λ (z : SeatValue). with_seat (with_seat t k v) k (f z)) (get_or-set_same t.seats k v nobody l)
    ∙ ap (λ (xs : List SeatValue). record t { seats = xs }) (set-set t.seats k v (f v))

pub put_in_place : (k : ℕ) (qs : List QueuedFrame) (t : Traffic) (v : SeatValue) → k < length t.seats → put_all k qs (with_seat t k v) ≡ with_seat t k (puts qs v)
put_in_place k [] t v l = refl
put_in_place k (q ∷ qs) t v l = ap (put_all k qs) (seated_again t k v (queueing q) l) ∙ put_in_place k qs t (queueing q v) l

pub withdrawn_in_place : (k : ℕ) (w : Withdraw) (t : Traffic) (v : SeatValue) → k < length t.seats → withdrawn_by k w (with_seat t k v) ≡ with_seat t k (withdraws w v)
withdrawn_in_place k withdraw.Keep t v l = refl
withdrawn_in_place k withdraw.Session t v l = seated_again t k v (withdrawing which.Session) l
withdrawn_in_place k withdraw.All t v l = seated_again t k v (withdrawing which.All) l

pub in_place : (k : ℕ) (t : Traffic) → t ≡ with_seat t k (seat_at t k)
in_place k t = ap (λ (xs : List SeatValue). record t { seats = xs }) (sym (set-get_or t.seats k nobody))

-- ---- the next frame heard

pub found_at : {X : Type 0} (xs : List X) (i : ℕ) → i < length xs → (x : X) × (slice_get xs i ≡ Some x)
found_at [] i l = absurd (omega arith)
found_at (x ∷ xs) zero l = (x, refl)
found_at (x ∷ xs) (suc i) l = found_at xs i (omega arith)

front_at : {X : Type 0} (xs : List X) (i : ℕ) (x : X) → slice_get xs i ≡ Some x → take (suc i) xs ≡ take i xs ++ x ∷ []
front_at [] i x e = cc
front_at (y ∷ ys) zero x e = let f : y ≡ x = cc in ap (λ z. z ∷ []) f
front_at (y ∷ ys) (suc i) x e = ap (λ zs. y ∷ zs) (front_at ys i x e)

pub before_at : {X : Type 0} (xs : List X) (i : ℕ) (x : X) → slice_get xs i ≡ Some x → reverse (take (suc i) xs) ≡ x ∷ reverse (take i xs)
before_at xs i x e = ap reverse (front_at xs i x e) ∙ reverse-append (take i xs) (x ∷ [])

pub around_at : {X : Type 0} (xs : List X) (i : ℕ) (x : X) → slice_get xs i ≡ Some x → reverse xs ≡ reverse (drop (suc i) xs) ++ x ∷ reverse (take i xs)
around_at xs i x e =
    ap reverse (sym (take-append-drop (suc i) xs))
    ∙ (reverse-append (take (suc i) xs) (drop (suc i) xs) ∙ ap (λ zs. reverse (drop (suc i) xs) ++ zs) (before_at xs i x e))

within_at : {X : Type 0} (xs : List X) (i : ℕ) (x : X) → slice_get xs i ≡ Some x → i < length xs
within_at [] i x e = cc
within_at (y ∷ ys) zero x e = omega arith
within_at (y ∷ ys) (suc i) x e = let l = within_at ys i x e in omega arith

-- a seat hears it
pub seat_hears : (begun : List Message) (items : List Item) (v : SeatValue) (u : UnitState) (x : Seat) (e : Item) → IsSeat begun items v u x → slice_get items v.heard ≡ Some e → IsSeat begun items (hearing 1 v) u (with_heard x e)
seat_hears begun items v u x e s at = record {
  unit = s.unit;
  live = s.live;
  queue = s.queue;
  known = s.known;
  heard =
      let one : suc v.heard ≡ v.heard + 1 = omega arith in
      ap (λ (l : List Item). e ∷ l) s.heard ∙ (sym (before_at items v.heard e at) ∙ ap (λ (n : ℕ). reverse (take n items)) one);
  within = (let l = within_at items v.heard e at in omega arith);
  session = s.session;
  owner = s.owner;
}
