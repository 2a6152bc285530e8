-- What each deed of a unit does to its seat, in the words of the law's machine.
use Rattle.std.proofs.Common.{ℕ, ◌≡◌, ◌+◌, ◌-◌, ◌==◌, List, [], ◌∷◌, ◌++◌, map, reverse, take, length, Bool, true, false, not, ◌&&◌, ◌||◌, nat_lt, Option, Some, None, if◌then◌else◌, refl, sym, ap, ◌∙◌, subst, arith}
use Rattle.std.specs.List.{range_with_len}
use Rattle.can_frame.specs.FrameValue.{FrameValue}
use Rattle.address_claim.specs.Claiming.{after_claim, held_after, is_held, move_step, next_address, noted_after, CanHold}
use Rattle.address_claim.specs.Frames.{claim_frame_value}
use Rattle.address_claim.specs.declared.claimer.ClaimStep.TheVariants.{Defend, Nothing as NoStep}
use Rattle.parameter_group.specs.Group.{AddressClaimed, ConnectionManagement, DataTransfer, Group}
use Rattle.transport.specs.declared.control.Control.TheVariants.{Bam}
use Rattle.bus_ledger.specs.BusValue.{SeatValue}
use Rattle.bus_ledger.specs.Changes.{kept, queued_frame}
use Rattle.bus_ledger.specs.declared.traffic.QueuedFrame.{QueuedFrame}
use Rattle.bus_ledger.specs.declared.traffic.Which.TheVariants as which
use Rattle.bus_model.specs.Messages.{Message, Session, frame_of_part, payload_sent, way_of}
use Rattle.bus_model.specs.Traffic.{Item, Tag as PartOf}
use Rattle.bus_model.specs.Machine.{Seat, last_part_at_first, granted, parts_upto, plain_item, session_ended, session_opened, with_message, yielded}
use Rattle.node_core.specs.NodeValue.{NodeValue}
use Rattle.node_core.specs.Deed.{further, marked_part, opened, parts_of_session}
use Rattle.node_core.specs.Commanding.{is_to_all}
use Rattle.parameter_group.specs.Calm.{is_contest}
use Rattle.node_core.specs.Reaction.{noted_from}
use Rattle.node_core.specs.declared.out.Part.TheVariants as part
use Rattle.node_core.specs.declared.session.OpenSession.{OpenSession}
use Rattle.journal.specs.State.{UnitState}
use Rattle.journal.specs.Steps.{tagged}
use Rattle.journal.proofs.Seated.{AreSession, IsSeat, IsSession}
use Rattle.journal.proofs.Growth.{found_newest, seat_still}
use Rattle.journal.proofs.Queues.{IsSameSeat, IsSameUnit, items_put, kept_items, kept_known, seat_put}
use Rattle.journal.proofs.Parts.{IsLongToOne, begun_items, begun_known, granted_is, items_each, items_from, known_each, opens_none, parts_put, way_session}

-- ---- what the unit takes note of

-- another note of commanded addresses changes neither claims nor session
abbrev pub IsOnlyNoted : NodeValue → NodeValue → Type 0
IsOnlyNoted node node' = (node'.claimer ≡ node.claimer) × (node'.session ≡ node.session)

only_noted : (node node' : NodeValue) (b : Bool) → IsOnlyNoted node node' → IsOnlyNoted node (if b then node' else node)
only_noted node node' true h = h
only_noted node node' false h = (refl, refl)

-- a claim that contests nothing leaves the address
calm_claim : (node : NodeValue) (source name : ℕ) → is_contest node.claimer.name node.claimer.held (AddressClaimed source name) ≡ false → (after_claim source name node.claimer).held ≡ node.claimer.held
calm_claim node source name h = go (is_held node.claimer.held source) (name == node.claimer.name) h
  where
    go : (a b : Bool) → a && not b ≡ false
        → held_after (if not a || b then NoStep else (if nat_lt node.claimer.name name then Defend else move_step (next_address node.claimer.name (noted_after source name node.claimer.noted)))) node.claimer.held ≡ node.claimer.held
    go false b h = refl
    go true true h = refl
    go true false h = cc

pub noted_name : (node : NodeValue) (g : Group) → (noted_from node g).claimer.name ≡ node.claimer.name
noted_name node (AddressClaimed source name) = refl
noted_name node (ConnectionManagement source destination (Bam size packets pgn)) = ap (λ c. c.name) (only_noted node _ (is_to_all destination source) (refl, refl)).0
noted_name node (DataTransfer source destination bytes) = ap (λ c. c.name) (only_noted node _ (is_to_all destination source) (refl, refl)).0
noted_name node _ = refl

pub noted_session : (node : NodeValue) (g : Group) → (noted_from node g).session ≡ node.session
noted_session node (AddressClaimed source name) = refl
noted_session node (ConnectionManagement source destination (Bam size packets pgn)) = (only_noted node _ (is_to_all destination source) (refl, refl)).1
noted_session node (DataTransfer source destination bytes) = (only_noted node _ (is_to_all destination source) (refl, refl)).1
noted_session node _ = refl

pub noted_held : (node : NodeValue) (g : Group) → is_contest node.claimer.name node.claimer.held g ≡ false → (noted_from node g).claimer.held ≡ node.claimer.held
noted_held node (AddressClaimed source name) h = calm_claim node source name h
noted_held node (ConnectionManagement source destination (Bam size packets pgn)) h = ap (λ c. c.held) (only_noted node _ (is_to_all destination source) (refl, refl)).0
noted_held node (DataTransfer source destination bytes) h = ap (λ c. c.held) (only_noted node _ (is_to_all destination source) (refl, refl)).0
noted_held node _ h = refl

-- the unit that took note of what was said
abbrev pub noting : UnitState → Group → UnitState
noting u g = record { node = noted_from u.node g; session_message = u.session_message }

pub same_unit : (u : UnitState) (g : Group) → is_contest u.node.claimer.name u.node.claimer.held g ≡ false → IsSameUnit u (noting u g)
same_unit u g h = record { name = noted_name u.node g; held = noted_held u.node g h; session = noted_session u.node g; message = refl }

-- ---- another session

pub seat_session : (begun : List Message) (items : List Item) (v : SeatValue) (u u' : UnitState) (x : Seat) (t : Option PartOf) → IsSeat begun items v u x
    → u'.node.claimer ≡ u.node.claimer → AreSession begun u'.session_message v.name u.node.claimer.held u'.node.session t → ((p : PartOf) → t ≡ Some p → p.message.seat ≡ x.number)
    → IsSeat begun items v u' (record x { session = t })
seat_session begun items v u u' x t s same h own = record {
  unit = rw same s.unit;
  live = s.live;
  queue = s.queue;
  known = s.known;
  heard = s.heard;
  within = s.within;
  session = rw same h;
  owner = own;
}

-- ---- a reply

pub seat_replies : (begun : List Message) (items : List Item) (v y : SeatValue) (u : UnitState) (x : Seat) (f : FrameValue) → IsSeat begun items v u x → IsSameSeat v y → y.queue ≡ v.queue ++ queued_frame f None ∷ []
    → IsSeat begun items y u (record x { queue = plain_item x.number x.name f ∷ x.queue })
seat_replies begun items v y u x f s same e =
    subst (λ (n : ℕ). IsSeat begun items y u (record x { queue = plain_item x.number n f ∷ x.queue })) (sym s.unit.name) (seat_put begun items v y u x (queued_frame f None ∷ []) s same e (tt, tt))

-- ---- a message begins

-- its parts are put into the queue
begins_parts : (begun : List Message) (items : List Item) (v y : SeatValue) (u : UnitState) (x : Seat) (m : Message) (session_number : ℕ) → IsSeat begun items v u x → IsSameSeat v y → m.number ≡ length begun → m.name ≡ v.name → IsLongToOne m
    → y.queue ≡ v.queue ++ parts_put m (length begun) session_number (not (m.destination == 255))
    → IsSeat (m ∷ begun) items y u (record x { queue = parts_upto x.number m (last_part_at_first (way_of m) m) ++ x.queue })
begins_parts begun items v y u x m session_number s same newest own long e =
    let qs : List QueuedFrame = parts_put m (length begun) session_number (not (m.destination == 255)) in
    let put : items_put (m ∷ begun) x.number v.name qs ≡ parts_upto x.number m (last_part_at_first (way_of m) m) =
    ap (λ (n : ℕ). items_put (m ∷ begun) x.number n qs) (sym own) ∙ begun_items begun x.number m session_number newest long in
    subst (λ (l : List Item). IsSeat (m ∷ begun) items y u (record x { queue = l ++ x.queue })) put
    (seat_put (m ∷ begun) items v y u x qs (seat_still m begun items v u x newest s) same e (begun_known begun m session_number newest long))

-- to all
pub seat_begins_to_all : (begun : List Message) (items : List Item) (v y : SeatValue) (u : UnitState) (x : Seat) (m : Message) (session_number : ℕ) → IsSeat begun items v u x → IsSameSeat v y → m.number ≡ length begun → m.name ≡ v.name
    → (m.destination == 255) ≡ true → y.queue ≡ v.queue ++ parts_put m (length begun) session_number false
    → IsSeat (m ∷ begun) items y u (with_message x m)
seat_begins_to_all begun items v y u x m session_number s same newest own all e =
    subst (λ (o : Option PartOf). IsSeat (m ∷ begun) items y u (record x { queue = parts_upto x.number m (last_part_at_first (way_of m) m) ++ x.queue; session = o })) (sym (opens_none m x.session all))
    (begins_parts begun items v y u x m session_number s same newest own (λ one. cc) (e ∙ ap (λ (b : Bool). v.queue ++ parts_put m (length begun) session_number (not b)) (sym all)))

-- to one address
pub seat_begins_session : (begun : List Message) (items : List Item) (v y : SeatValue) (u u' : UnitState) (x : Seat) (m : Message) → IsSeat begun items v u x → IsSameSeat v y → m.number ≡ length begun → m.seat ≡ x.number → m.name ≡ v.name
    → (m.destination == 255) ≡ false → IsLongToOne m → u.node.claimer.held ≡ Some m.source → u'.node.claimer ≡ u.node.claimer → u'.node.session ≡ Some (opened m.kind m.memory m.destination) → u'.session_message ≡ length begun
    → y.queue ≡ v.queue ++ parts_put m (length begun) (length begun) true
    → IsSeat (m ∷ begun) items y u' (with_message x m)
unfolding payload_sent
seat_begins_session begun items v y u u' x m s same newest seat own one long held same' session number e =
    let way : way_of m ≡ Session m.destination = way_session m long one in
    let opens : Some (record { message = m; part = 0 }) ≡ session_opened (way_of m) m x.session = rw way refl in
    let put = begins_parts begun items v y u x m (length begun) s same newest own long (e ∙ ap (λ (b : Bool). v.queue ++ parts_put m (length begun) (length begun) (not b)) (sym one)) in
    subst (λ (o : Option PartOf). IsSeat (m ∷ begun) items y u' (record x { queue = parts_upto x.number m (last_part_at_first (way_of m) m) ++ x.queue; session = o })) opens
    (seat_session (m ∷ begun) items y u u' (record x { queue = parts_upto x.number m (last_part_at_first (way_of m) m) ++ x.queue }) (Some (record { message = m; part = 0 })) put same'
    (rw (session, number) (record {
      found = found_newest m begun newest;
      number = omega arith;
      kind = refl;
      name = own ∙ sym same.name;
      payload = refl;
      destination = refl;
      pgn = refl;
      source = held;
      part = refl;
      way = way;
    }))
    (λ p e. let i : m ≡ p.message = cc in subst (λ (q : Message). q.seat ≡ x.number) i seat))

-- ---- further packets

-- an open session is open in the machine
pub open_is : (begun : List Message) (i n : ℕ) (held : Option ℕ) (o : OpenSession) (xs : Option PartOf) → AreSession begun i n held (Some o) xs → (t : PartOf) × (xs ≡ Some t) × IsSession begun i n held o t
open_is begun i n held o None h = absurd h
open_is begun i n held o (Some t) h = (t, refl, h)

same_source : (held : Option ℕ) (a b : ℕ) → held ≡ Some a → held ≡ Some b → a ≡ b
same_source held a b e f = cc

pub seat_sends : (begun : List Message) (items : List Item) (v y : SeatValue) (u u' : UnitState) (x : Seat) (o : OpenSession) (t : PartOf) (source n session_number : ℕ) → IsSeat begun items v u x → IsSameSeat v y
    → x.session ≡ Some t → IsSession begun u.session_message v.name u.node.claimer.held o t → u.node.claimer.held ≡ Some source
    → u'.node.claimer ≡ u.node.claimer → u'.node.session ≡ Some (further o n) → u'.session_message ≡ u.session_message
    → y.queue ≡ v.queue ++ map (tagged session_number false u.session_message) (parts_of_session o source n)
    → IsSeat begun items y u' (granted x n)
unfolding frame_of_part
seat_sends begun items v y u u' x o t source n session_number s same opened is held same' session number e =
    let m = t.message in
    let from : source ≡ m.source = same_source u.node.claimer.held source m.source held is.source in
    let first : o.sending.queued + 1 ≡ t.part + 1 = (let p = is.part in omega arith) in
    let count : o.sending.queued + 1 + n - (o.sending.queued + 1) ≡ n = omega arith in
    let put = marked_part (λ j. part.Session j) o.sending.payload o.sending.pgn source o.sending.dest in
    let qs : List QueuedFrame = map (tagged session_number false u.session_message) (parts_of_session o source n) in
    let items_are : items_put begun x.number v.name qs ≡ items_from x.number m (t.part + 1) n =
    ap reverse (items_each begun x.number v.name m (tagged session_number false u.session_message) put
    (λ j. rw (is.found, is.payload, is.pgn, ← is.kind, is.destination, from, ← is.name) refl)
    (range_with_len (o.sending.queued + 1) (o.sending.queued + 1 + n - (o.sending.queued + 1))))
    ∙ rw (count, first) refl in
    let known = known_each begun (tagged session_number false u.session_message) put
    (λ j. record { message = m; found = is.found; kind = rw is.way refl; number = is.number })
    (range_with_len (o.sending.queued + 1) (o.sending.queued + 1 + n - (o.sending.queued + 1))) in
    let sent = subst (λ (l : List Item). IsSeat begun items y u (record x { queue = l ++ x.queue })) items_are (seat_put begun items v y u x qs s same e known) in
    subst (λ (z : Seat). IsSeat begun items y u' z) (sym (granted_is x t n opened))
    (seat_session begun items y u u' (record x { queue = items_from x.number m (t.part + 1) n ++ x.queue }) (Some (record { message = m; part = t.part + n })) sent same'
    (rw (session, number, same.name) (record {
      found = is.found;
      number = is.number;
      kind = is.kind;
      name = is.name;
      payload = is.payload;
      destination = is.destination;
      pgn = is.pgn;
      source = is.source;
      part = (let p = is.part in omega arith);
      way = is.way;
    }))
    (λ p e. let i : m ≡ p.message = cc in subst (λ (q : Message). q.seat ≡ x.number) i (s.owner t opened)))

-- ---- the session ends

pub seat_ends : (begun : List Message) (items : List Item) (v y : SeatValue) (u u' : UnitState) (x : Seat) → IsSeat begun items v u x → IsSameSeat v y → y.queue ≡ kept which.Session v.queue
    → u'.node.claimer ≡ u.node.claimer → u'.node.session ≡ None → IsSeat begun items y u' (session_ended x)
seat_ends begun items v y u u' x s same e same' session = record {
  unit = rw (same.name, same') s.unit;
  live = s.live ∙ sym same.live;
  queue = rw (e, same.name, s.queue) (kept_items begun x.number v.name v.queue s.known);
  known = rw e (kept_known begun v.queue s.known);
  heard = s.heard ∙ ap (λ (n : ℕ). reverse (take n items)) (sym same.heard);
  within = rw same.heard s.within;
  session = rw session tt;
  owner = λ t e. cc;
}

-- ---- all is withdrawn but a claim

pub seat_claims : (begun : List Message) (items : List Item) (v y : SeatValue) (u u' : UnitState) (x : Seat) (to : Option ℕ) → IsSeat begun items v u x → IsSameSeat v y → y.queue ≡ queued_frame (claim_frame_value x.name to) None ∷ []
    → CanHold to → u'.node.claimer.name ≡ u.node.claimer.name → u'.node.claimer.held ≡ to → u'.node.session ≡ None → IsSeat begun items y u' (yielded x to)
seat_claims begun items v y u u' x to s same e hold name held session = record {
  unit = record {
    name = s.unit.name ∙ sym same.name;
    own = name ∙ (s.unit.own ∙ sym same.name);
    small = rw same.name s.unit.small;
    held = sym held;
    holdable = rw held hold;
  };
  live = s.live ∙ sym same.live;
  queue = rw (e, same.name, s.unit.name) refl;
  known = rw e (tt, tt);
  heard = s.heard ∙ ap (λ (n : ℕ). reverse (take n items)) (sym same.heard);
  within = rw same.heard s.within;
  session = rw session tt;
  owner = λ t e. cc;
}
