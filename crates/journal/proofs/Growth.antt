-- What stays as it was when a message begins, a frame is carried, or one seat changes.
use Rattle.std.proofs.Common.{ℕ, ◌≡◌, ◌+◌, ◌<◌, ◌≤◌, ◌==◌, List, [], ◌∷◌, ◌++◌, map, reverse, length, get_or, set, true, Option, Some, None, refl, sym, ap, ◌∙◌, subst, arith, inl, inr}
use Rattle.std.proofs.lemmas.Bool.{ne_eqb}
use Rattle.std.proofs.lemmas.List.{get_or-set_same, get_or-set_other, take-append-le, length-append}
use Rattle.bus_ledger.specs.BusValue.{SeatValue, nobody, seat_at}
use Rattle.bus_ledger.specs.declared.traffic.QueuedFrame.{QueuedFrame}
use Rattle.bus_ledger.specs.declared.traffic.CarriedFrame.{CarriedFrame}
use Rattle.bus_ledger.specs.declared.traffic.Tag.{Tag}
use Rattle.bus_ledger.proofs.Numbers.{same_or_not}
use Rattle.bus_model.specs.Messages.{Message}
use Rattle.bus_model.specs.Traffic.{Item, Tag as PartOf}
use Rattle.bus_model.specs.Machine.{Seat}
use Rattle.node_core.specs.declared.session.OpenSession.{OpenSession}
use Rattle.journal.specs.State.{State, UnitState, new_unit}
use Rattle.journal.specs.Steps.{item_of, message_numbered, seat_number_of, part_of}
use Rattle.journal.specs.Worlds.{queued_item}
use Rattle.journal.proofs.Seated.{IsKnown, AreKnown, AreSession, IsSeat, no_seat, IsCarried, AreCarried}

-- ---- one message more

-- the newest message does not hide an older one
pub found_still : (n : ℕ) (m : Message) (begun : List Message) → m.number ≡ length begun → n < length begun → message_numbered n (m ∷ begun) ≡ message_numbered n begun
found_still n m begun e l = rw (ne_eqb m.number n (λ same. omega arith)) refl

-- the newest message is found
pub found_newest : (m : Message) (begun : List Message) → m.number ≡ length begun → message_numbered (length begun) (m ∷ begun) ≡ Some m
found_newest m begun e = rw (yes m.number (length begun) e) refl
  where
    yes : (a b : ℕ) → a ≡ b → (a == b) ≡ true
    yes a b h = grind arith

pub known_still : (m : Message) (begun : List Message) (t : Option Tag) → m.number ≡ length begun → IsKnown begun t → IsKnown (m ∷ begun) t
known_still m begun None e k = tt
known_still m begun (Some t) e k = record { message = k.message; found = found_still t.message m begun e k.number ∙ k.found; kind = k.kind; number = (let l = k.number in omega arith) }

pub part_still : (m : Message) (begun : List Message) (t : Option Tag) → m.number ≡ length begun → IsKnown begun t → part_of (m ∷ begun) t ≡ part_of begun t
part_still m begun None e k = refl
part_still m begun (Some t) e k = rw (found_still t.message m begun e k.number) refl

pub all_known_still : (m : Message) (begun : List Message) (qs : List QueuedFrame) → m.number ≡ length begun → AreKnown begun qs → AreKnown (m ∷ begun) qs
all_known_still m begun [] e k = tt
all_known_still m begun (q ∷ qs) e k = (known_still m begun q.tag e k.0, all_known_still m begun qs e k.1)

pub queue_still : (m : Message) (begun : List Message) (k name : ℕ) (qs : List QueuedFrame) → m.number ≡ length begun → AreKnown begun qs → map (queued_item (m ∷ begun) k name) qs ≡ map (queued_item begun k name) qs
queue_still m begun k name [] e h = refl
queue_still m begun k name (q ∷ qs) e h = rw (part_still m begun q.tag e h.0, queue_still m begun k name qs e h.1) refl

pub session_still : (m : Message) (begun : List Message) (number name : ℕ) (held : Option ℕ) (o : Option OpenSession) (t : Option PartOf) → m.number ≡ length begun
    → AreSession begun number name held o t → AreSession (m ∷ begun) number name held o t
session_still m begun number name held None None e s = tt
session_still m begun number name held (Some o) (Some t) e s = record {
  found = found_still number m begun e s.number ∙ s.found;
  number = (let l = s.number in omega arith);
  kind = s.kind;
  name = s.name;
  payload = s.payload;
  destination = s.destination;
  pgn = s.pgn;
  source = s.source;
  part = s.part;
  way = s.way;
}
session_still m begun number name held None (Some t) e s = absurd s
session_still m begun number name held (Some o) None e s = absurd s

pub seat_still : (m : Message) (begun : List Message) (items : List Item) (v : SeatValue) (u : UnitState) (x : Seat) → m.number ≡ length begun → IsSeat begun items v u x → IsSeat (m ∷ begun) items v u x
seat_still m begun items v u x e s = record {
  unit = s.unit;
  live = s.live;
  queue = s.queue ∙ ap reverse (sym (queue_still m begun x.number v.name v.queue e s.known));
  known = all_known_still m begun v.queue e s.known;
  heard = s.heard;
  within = s.within;
  session = session_still m begun u.session_message v.name u.node.claimer.held u.node.session x.session e s.session;
  owner = s.owner;
}

-- ---- one frame more

pub seat_carried : (begun : List Message) (items : List Item) (e : Item) (v : SeatValue) (u : UnitState) (x : Seat) → IsSeat begun items v u x → IsSeat begun (items ++ e ∷ []) v u x
seat_carried begun items e v u x s = record {
  unit = s.unit;
  live = s.live;
  queue = s.queue;
  known = s.known;
  heard = s.heard ∙ ap reverse (sym (take-append-le v.heard items (e ∷ []) s.within));
  within = (let l = s.within in omega (arith, length-append items (e ∷ [])));
  session = s.session;
  owner = s.owner;
}

-- ---- items

-- no NAME of a given seat changes
abbrev pub SameNames : State → State → Type 0
SameNames s t = (k : ℕ) → k < length s.traffic.seats → (seat_at t.traffic k).name ≡ (seat_at s.traffic k).name

pub items_same : (s t : State) (cs : List CarriedFrame) → SameNames s t → t.begun ≡ s.begun → AreCarried s.begun (length s.traffic.seats) cs → map (item_of t) cs ≡ map (item_of s) cs
items_same s t [] names begun k = refl
items_same s t (c ∷ cs) names begun k =
    rw (names (seat_number_of c.seat) k.0.seat, begun, items_same s t cs names begun k.1) refl

pub items_still : (s t : State) (m : Message) (cs : List CarriedFrame) → SameNames s t → t.begun ≡ m ∷ s.begun → m.number ≡ length s.begun → AreCarried s.begun (length s.traffic.seats) cs → map (item_of t) cs ≡ map (item_of s) cs
items_still s t m [] names begun e k = refl
items_still s t m (c ∷ cs) names begun e k =
    rw (names (seat_number_of c.seat) k.0.seat, begun, part_still m s.begun c.tag e k.0.known, items_still s t m cs names begun e k.1) refl

pub carried_still : (m : Message) (begun : List Message) (n : ℕ) (cs : List CarriedFrame) → m.number ≡ length begun → AreCarried begun n cs → AreCarried (m ∷ begun) n cs
carried_still m begun n [] e k = tt
carried_still m begun n (c ∷ cs) e k = (record { seat = k.0.seat; known = known_still m begun c.tag e k.0.known }, carried_still m begun n cs e k.1)

pub carried_more : (begun : List Message) (n n' : ℕ) (cs : List CarriedFrame) → n ≤ n' → AreCarried begun n cs → AreCarried begun n' cs
carried_more begun n n' [] l k = tt
carried_more begun n n' (c ∷ cs) l k = (record { seat = (let h = k.0.seat in omega arith); known = k.0.known }, carried_more begun n n' cs l k.1)

pub carried_push : (begun : List Message) (n : ℕ) (cs : List CarriedFrame) (c : CarriedFrame) → AreCarried begun n cs → IsCarried begun n c → AreCarried begun n (cs ++ c ∷ [])
carried_push begun n [] c k h = (h, tt)
carried_push begun n (d ∷ cs) c k h = (k.0, carried_push begun n cs c k.1 h)

pub known_push : (begun : List Message) (qs : List QueuedFrame) (q : QueuedFrame) → AreKnown begun qs → IsKnown begun q.tag → AreKnown begun (qs ++ q ∷ [])
known_push begun [] q k h = (h, tt)
known_push begun (p ∷ qs) q k h = (k.0, known_push begun qs q k.1 h)

-- ---- one seat

-- three lists that correspond still do where one place of each changed; the first has others, base of them, in front
pub seated_set : (R : SeatValue → UnitState → Seat → Type 0) (base : ℕ) (seats : List SeatValue) (units : List UnitState) (xs : List Seat) (j : ℕ) (v : SeatValue) (u : UnitState) (x : Seat)
    → length seats ≡ base + length units → length xs ≡ length units → R v u x
    → ((i : ℕ) → i < length units → R (get_or seats (base + i) nobody) (get_or units i (new_unit 0 0)) (get_or xs i no_seat))
    → (i : ℕ) → i < length units → R (get_or (set seats (base + j) v) (base + i) nobody) (get_or (set units j u) i (new_unit 0 0)) (get_or (set xs j x) i no_seat)
seated_set R base seats units xs j v u x ls lx h old i l = elim (same_or_not j i) [
  | inl e ↦ (let at : R (get_or (set seats (base + i) v) (base + i) nobody) (get_or (set units i u) i (new_unit 0 0)) (get_or (set xs i x) i no_seat) =
      rw (get_or-set_same seats (base + i) v nobody (omega arith), get_or-set_same units i u (new_unit 0 0) l, get_or-set_same xs i x no_seat (omega arith)) h in
      subst (λ (y : ℕ). R (get_or (set seats (base + y) v) (base + i) nobody) (get_or (set units y u) i (new_unit 0 0)) (get_or (set xs y x) i no_seat)) (sym e) at)
  | inr n ↦ rw (get_or-set_other seats (base + j) (base + i) v nobody (λ e. n (omega arith)), get_or-set_other units j i u (new_unit 0 0) (λ e. n (sym e)), get_or-set_other xs j i x no_seat (λ e. n (sym e))) (old i l)
]

-- the machine's seats keep their numbers where one of them changed
pub numbers_set : (base : ℕ) (xs : List Seat) (j n : ℕ) (x : Seat) → length xs ≡ n → x.number ≡ base + j → ((i : ℕ) → i < n → (get_or xs i no_seat).number ≡ base + i)
    → (i : ℕ) → i < n → (get_or (set xs j x) i no_seat).number ≡ base + i
numbers_set base xs j n x lx h old i l = elim (same_or_not j i) [
  | inl e ↦ ap (λ (k : ℕ). (get_or (set xs k x) i no_seat).number) e ∙ (ap (λ (y : Seat). y.number) (get_or-set_same xs i x no_seat (omega arith)) ∙ (h ∙ ap (λ (k : ℕ). base + k) e))
  | inr other ↦ ap (λ (y : Seat). y.number) (get_or-set_other xs j i x no_seat (λ e. other (sym e))) ∙ old i l
]
