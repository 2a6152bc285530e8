-- A seat with further frames in its queue, and one whose unit took note of a frame, in the words of the law's machine.
use Rattle.std.proofs.Common.{ℕ, ◌≡◌, List, [], ◌∷◌, ◌++◌, map, reverse, take, Bool, true, false, not, Option, Some, None, if◌then◌else◌, refl, sym, ap, ◌∙◌}
use Rattle.std.proofs.lemmas.List.{map-append, reverse-append, append-nil}
use Rattle.bus_ledger.specs.BusValue.{SeatValue}
use Rattle.bus_ledger.specs.Changes.{is_session_tag, is_in_session, kept}
use Rattle.bus_ledger.specs.declared.traffic.QueuedFrame.{QueuedFrame}
use Rattle.bus_ledger.specs.declared.traffic.Tag.{Tag}
use Rattle.bus_ledger.specs.declared.traffic.Which.TheVariants as which
use Rattle.bus_model.specs.Messages.{Message}
use Rattle.bus_model.specs.Traffic.{Item}
use Rattle.bus_model.specs.Machine.{Seat, is_of_session, without_session}
use Rattle.journal.specs.State.{UnitState}
use Rattle.journal.specs.Steps.{part_of}
use Rattle.journal.specs.Worlds.{queued_item}
use Rattle.journal.proofs.Seated.{AreKnown, IsKnown, IsSeat}

-- the same seat, but for its queue and its counts
pub record IsSameSeat (v y : SeatValue) : Type 0 where
  pub name : y.name ≡ v.name
  pub live : y.live ≡ v.live
  pub heard : y.heard ≡ v.heard

-- a unit of the same NAME and address with the same session
pub record IsSameUnit (u u' : UnitState) : Type 0 where
  pub name : u'.node.claimer.name ≡ u.node.claimer.name
  pub held : u'.node.claimer.held ≡ u.node.claimer.held
  pub session : u'.node.session ≡ u.node.session
  pub message : u'.session_message ≡ u.session_message

pub known_append : (begun : List Message) (qs rs : List QueuedFrame) → AreKnown begun qs → AreKnown begun rs → AreKnown begun (qs ++ rs)
known_append begun [] rs a b = b
known_append begun (q ∷ qs) rs a b = (a.0, known_append begun qs rs a.1 b)

-- the items of some frames, newest first
abbrev pub items_put : List Message → ℕ → ℕ → List QueuedFrame → List Item
items_put begun k name qs = reverse (map (queued_item begun k name) qs)

pub put_append : (begun : List Message) (k name : ℕ) (qs rs : List QueuedFrame) → items_put begun k name (qs ++ rs) ≡ items_put begun k name rs ++ items_put begun k name qs
put_append begun k name qs rs =
    ap reverse (map-append (queued_item begun k name) qs rs) ∙ reverse-append (map (queued_item begun k name) qs) (map (queued_item begun k name) rs)

pub reverse_first : {X : Type 0} (x : X) (xs : List X) → reverse (x ∷ xs) ≡ reverse xs ++ x ∷ []
reverse_first x xs = reverse-append (x ∷ []) xs

-- a unit that only took note of something
pub seat_noted : (begun : List Message) (items : List Item) (v : SeatValue) (u u' : UnitState) (x : Seat) → IsSeat begun items v u x → IsSameUnit u u' → IsSeat begun items v u' x
seat_noted begun items v u u' x s same = record {
  unit = rw (same.name, same.held) s.unit;
  live = s.live;
  queue = s.queue;
  known = s.known;
  heard = s.heard;
  within = s.within;
  session = rw (same.message, same.held, same.session) s.session;
  owner = s.owner;
}

-- further frames at the end of the queue
pub seat_put : (begun : List Message) (items : List Item) (v y : SeatValue) (u : UnitState) (x : Seat) (qs : List QueuedFrame) → IsSeat begun items v u x → IsSameSeat v y → y.queue ≡ v.queue ++ qs → AreKnown begun qs
    → IsSeat begun items y u (record x { queue = items_put begun x.number v.name qs ++ x.queue })
seat_put begun items v y u x qs s same e known = record {
  unit = rw same.name s.unit;
  live = s.live ∙ sym same.live;
  queue = rw (e, same.name, s.queue) (sym (put_append begun x.number v.name v.queue qs));
  known = rw e (known_append begun v.queue qs s.known known);
  heard = s.heard ∙ ap (λ (n : ℕ). reverse (take n items)) (sym same.heard);
  within = rw same.heard s.within;
  session = rw same.name s.session;
  owner = s.owner;
}

-- no further frame
pub seat_same : (begun : List Message) (items : List Item) (v y : SeatValue) (u : UnitState) (x : Seat) → IsSeat begun items v u x → IsSameSeat v y → y.queue ≡ v.queue → IsSeat begun items y u x
seat_same begun items v y u x s same e = seat_put begun items v y u x [] s same (e ∙ sym (append-nil v.queue)) tt

-- ---- without the session's frames

known_kind : (begun : List Message) (q : QueuedFrame) → IsKnown begun q.tag → is_of_session (part_of begun q.tag) ≡ is_in_session q
known_kind begun q k = go q.tag k
  where
    go : (t : Option Tag) → IsKnown begun t → is_of_session (part_of begun t) ≡ is_session_tag t
    go None k = refl
    go (Some t) k = rw k.found (sym k.kind)

without_append : (es fs : List Item) → without_session (es ++ fs) ≡ without_session es ++ without_session fs
without_append [] fs = refl
without_append (e ∷ es) fs = go (is_of_session e.tag) (without_append es fs)
  where
    go : (b : Bool) → without_session (es ++ fs) ≡ without_session es ++ without_session fs → (if b then without_session (es ++ fs) else e ∷ without_session (es ++ fs)) ≡ (if b then without_session es else e ∷ without_session es) ++ without_session fs
    go true ih = ih
    go false ih = ap (λ (l : List Item). e ∷ l) ih

pub kept_known : (begun : List Message) (qs : List QueuedFrame) → AreKnown begun qs → AreKnown begun (kept which.Session qs)
kept_known begun [] k = tt
kept_known begun (q ∷ qs) k = go (kept_known begun qs k.1) (is_in_session q)
  where
    go : AreKnown begun (kept which.Session qs) → (b : Bool) → AreKnown begun (if not b then q ∷ kept which.Session qs else kept which.Session qs)
    go ih true = ih
    go ih false = (k.0, ih)

pub kept_items : (begun : List Message) (k name : ℕ) (qs : List QueuedFrame) → AreKnown begun qs → without_session (items_put begun k name qs) ≡ items_put begun k name (kept which.Session qs)
kept_items begun k name [] h = refl
kept_items begun k name (q ∷ qs) h =
    ap without_session (reverse_first (queued_item begun k name q) (map (queued_item begun k name) qs))
    ∙ (without_append (items_put begun k name qs) (queued_item begun k name q ∷ [])
    ∙ (ap (λ (l : List Item). l ++ without_session (queued_item begun k name q ∷ [])) (kept_items begun k name qs h.1)
    ∙ go (is_in_session q) (known_kind begun q h.0)))
  where
    go : (b : Bool) → is_of_session (part_of begun q.tag) ≡ b
        → items_put begun k name (kept which.Session qs) ++ without_session (queued_item begun k name q ∷ []) ≡ items_put begun k name (if not b then q ∷ kept which.Session qs else kept which.Session qs)
    go true e = rw e (append-nil (items_put begun k name (kept which.Session qs)))
    go false e = rw e (sym (reverse_first (queued_item begun k name q) (map (queued_item begun k name) (kept which.Session qs))))
