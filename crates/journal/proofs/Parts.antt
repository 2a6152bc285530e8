-- The parts of a message that a unit queues are those that the law's machine queues.
use Rattle.std.proofs.Common.{ℕ, suc, zero, ◌≡◌, ◌+◌, ◌-◌, ◌==◌, List, [], ◌∷◌, ◌++◌, map, reverse, length, Bool, true, false, not, Option, Some, if◌then◌else◌, refl, sym, ap, ◌∙◌, arith}
use Rattle.std.specs.List.{range_with_len}
use Rattle.std.proofs.lemmas.List.{reverse-append, append_assoc}
use Rattle.std.proofs.lemmas.List.FromFn.{map-range_with_len_more}
use Rattle.bus_ledger.specs.declared.traffic.QueuedFrame.{QueuedFrame}
use Rattle.dm_messages.specs.View.{pgn_of_kind}
use Rattle.transport.specs.Messages.{last_part}
use Rattle.transport.specs.Pieces.{packet_count}
use Rattle.bus_model.specs.Messages.{Broadcast, Message, One, Session, frame_of_part, is_session, last_part_of, payload_sent, way_of}
use Rattle.bus_model.specs.Traffic.{Item, Tag as PartOf}
use Rattle.bus_model.specs.Machine.{Seat, last_part_at_first, granted, granted_one, item_of_part, parts_upto, session_opened}
use Rattle.node_core.specs.Deed.{first_parts as parts_first, marked_part, parts_begun}
use Rattle.node_core.specs.declared.out.Out.{Out}
use Rattle.node_core.specs.declared.out.Part.TheVariants as part
use Rattle.journal.specs.Steps.{tagged}
use Rattle.journal.specs.Worlds.{queued_item}
use Rattle.journal.proofs.Seated.{AreKnown, IsKnown}
use Rattle.journal.proofs.Growth.{found_newest}
use Rattle.journal.proofs.Queues.{items_put, reverse_first}

-- so many parts of a message from one on, newest first
abbrev pub items_from : ℕ → Message → ℕ → ℕ → List Item
items_from k m first count = reverse (map (item_of_part k m) (range_with_len first count))

items_more : (k : ℕ) (m : Message) (first count j : ℕ) → first + count ≡ j → items_from k m first (count + 1) ≡ item_of_part k m j ∷ items_from k m first count
items_more k m first count j e =
    ap reverse (map-range_with_len_more (item_of_part k m) first count j e) ∙ reverse-append (map (item_of_part k m) (range_with_len first count)) (item_of_part k m j ∷ [])

pub upto_is : (k : ℕ) (m : Message) (n : ℕ) → parts_upto k m n ≡ items_from k m 0 (n + 1)
upto_is k m zero = refl
upto_is k m (suc j) =
    let one : suc j + 1 ≡ (j + 1) + 1 = omega arith in
    ap (λ (l : List Item). item_of_part k m (suc j) ∷ l) (upto_is k m j)
    ∙ (sym (items_more k m 0 (j + 1) (suc j) (omega arith)) ∙ ap (λ (n : ℕ). items_from k m 0 n) (sym one))

-- one that comes first is the oldest
pub from_is : (k : ℕ) (m : Message) (j n : ℕ) (rest : List Item) → items_from k m (suc j + 1) n ++ item_of_part k m (suc j) ∷ rest ≡ items_from k m (j + 1) (suc n) ++ rest
from_is k m j n rest =
    let one : j + 1 ≡ suc j = omega arith in
    sym (rw (one, reverse_first (item_of_part k m (suc j)) (map (item_of_part k m) (range_with_len (suc j + 1) n))) (append_assoc (items_from k m (suc j + 1) n) (item_of_part k m (suc j) ∷ []) rest))

-- further packets of the open session
pub granted_is : (x : Seat) (t : PartOf) (n : ℕ) → x.session ≡ Some t
    → granted x n ≡ record x { queue = items_from x.number t.message (t.part + 1) n ++ x.queue; session = Some (record { message = t.message; part = t.part + n }) }
granted_is x t zero e =
    let none : t.part ≡ t.part + 0 = omega arith in
    ap (λ (o : Option PartOf). record x { session = o }) e ∙ ap (λ (k : ℕ). record x { session = Some (record { message = t.message; part = k }) }) none
granted_is x t (suc n) e =
    let one : suc t.part + n ≡ t.part + suc n = omega arith in
    let next : PartOf = record { message = t.message; part = suc t.part } in
    ap (λ (o : Option PartOf). granted (granted_one x o) n) e
    ∙ (granted_is (granted_one x (Some t)) next n refl
    ∙ (ap (λ (l : List Item). record x { queue = l; session = Some (record { message = t.message; part = suc t.part + n }) }) (from_is x.number t.message t.part n x.queue)
    ∙ ap (λ (k : ℕ). record x { queue = items_from x.number t.message (t.part + 1) (suc n) ++ x.queue; session = Some (record { message = t.message; part = k }) }) one))

-- ---- as the unit puts them

-- where each part is put as an item, all are
pub items_each : (begun : List Message) (k name : ℕ) (m : Message) (tag : Out → QueuedFrame) (put : ℕ → Out) → ((j : ℕ) → queued_item begun k name (tag (put j)) ≡ item_of_part k m j)
    → (js : List ℕ) → map (queued_item begun k name) (map tag (map put js)) ≡ map (item_of_part k m) js
items_each begun k name m tag put each [] = refl
items_each begun k name m tag put each (j ∷ js) = rw (each j, items_each begun k name m tag put each js) refl

pub known_each : (begun : List Message) (tag : Out → QueuedFrame) (put : ℕ → Out) → ((j : ℕ) → IsKnown begun (tag (put j)).tag) → (js : List ℕ) → AreKnown begun (map tag (map put js))
known_each begun tag put each [] = tt
known_each begun tag put each (j ∷ js) = (each j, known_each begun tag put each js)

-- a message goes to one address only where it is long
abbrev pub IsLongToOne : Message → Type 0
IsLongToOne m = (m.destination == 255) ≡ false → (length (payload_sent m) == 8) ≡ false

-- the same parts come first, and a session is one
pub record IsWay (m : Message) : Type 0 where
  pub parts : parts_first (payload_sent m) m.destination ≡ last_part_at_first (way_of m) m + 1
  pub session : is_session (way_of m) ≡ not (m.destination == 255)

pub way_is : (m : Message) → IsLongToOne m → IsWay m
unfolding way_of last_part_of
way_is m long = record {
  parts = parts (length (payload_sent m) == 8) (m.destination == 255) long;
  session = session (length (payload_sent m) == 8) (m.destination == 255) long;
}
  where
    parts : (b c : Bool) → (c ≡ false → b ≡ false) → (if c then last_part (payload_sent m) + 1 else 1) ≡ last_part_at_first (if b then One else (if c then Broadcast else Session m.destination)) m + 1
    parts true true h = refl
    parts false true h = refl
    parts false false h = refl
    parts true false h = absurd (let e : true ≡ false = h refl in cc)

    session : (b c : Bool) → (c ≡ false → b ≡ false) → is_session (if b then One else (if c then Broadcast else Session m.destination)) ≡ not c
    session true true h = refl
    session false true h = refl
    session false false h = refl
    session true false h = absurd (let e : true ≡ false = h refl in cc)

-- to all no session opens
pub opens_none : (m : Message) (before : Option PartOf) → (m.destination == 255) ≡ true → session_opened (way_of m) m before ≡ before
unfolding way_of
opens_none m before e = go (length (payload_sent m) == 8) (m.destination == 255) e
  where
    go : (b c : Bool) → c ≡ true → session_opened (if b then One else (if c then Broadcast else Session m.destination)) m before ≡ before
    go true c h = refl
    go false true h = refl
    go false false h = cc

-- to one address a session does
pub way_session : (m : Message) → IsLongToOne m → (m.destination == 255) ≡ false → way_of m ≡ Session m.destination
unfolding way_of
way_session m long e = rw (long e, e) refl

-- a session's last part is its last packet
pub session_last : (m : Message) (d : ℕ) → way_of m ≡ Session d → last_part_of m ≡ packet_count (length (payload_sent m))
unfolding way_of last_part_of
session_last m d w = go (length (payload_sent m) == 8) (m.destination == 255) w
  where
    go : (b c : Bool) → (if b then One else (if c then Broadcast else Session m.destination)) ≡ Session d → (if b then 0 else packet_count (length (payload_sent m))) ≡ packet_count (length (payload_sent m))
    go true c h = cc
    go false c h = refl

-- the parts of the message that begins
abbrev pub parts_put : Message → ℕ → ℕ → Bool → List QueuedFrame
parts_put m number session_number session = map (tagged number session session_number) (parts_begun (payload_sent m) (pgn_of_kind m.kind) m.source m.destination)

pub begun_known : (begun : List Message) (m : Message) (session_number : ℕ) → m.number ≡ length begun → IsLongToOne m → AreKnown (m ∷ begun) (parts_put m (length begun) session_number (not (m.destination == 255)))
begun_known begun m session_number newest long =
    known_each (m ∷ begun) (tagged (length begun) (not (m.destination == 255)) session_number) (marked_part (λ j. part.Begun j) (payload_sent m) (pgn_of_kind m.kind) m.source m.destination)
    (λ j. record { message = m; found = found_newest m begun newest; kind = sym (way_is m long).session; number = omega arith })
    (range_with_len 0 (parts_first (payload_sent m) m.destination - 0))

pub begun_items : (begun : List Message) (k : ℕ) (m : Message) (session_number : ℕ) → m.number ≡ length begun → IsLongToOne m
    → items_put (m ∷ begun) k m.name (parts_put m (length begun) session_number (not (m.destination == 255))) ≡ parts_upto k m (last_part_at_first (way_of m) m)
unfolding frame_of_part
begun_items begun k m session_number newest long =
    let count : parts_first (payload_sent m) m.destination - 0 ≡ last_part_at_first (way_of m) m + 1 = (let e = (way_is m long).parts in omega arith) in
    ap reverse (items_each (m ∷ begun) k m.name m (tagged (length begun) (not (m.destination == 255)) session_number) (marked_part (λ j. part.Begun j) (payload_sent m) (pgn_of_kind m.kind) m.source m.destination)
    (λ j. rw (found_newest m begun newest) refl)
    (range_with_len 0 (parts_first (payload_sent m) m.destination - 0)))
    ∙ (ap (λ (n : ℕ). items_from k m 0 n) count ∙ sym (upto_is k m (last_part_at_first (way_of m) m)))
