-- Each deed of a unit is an answer that the law's machine allows.
use Rattle.std.proofs.Common.{ℕ, suc, zero, ◌≡◌, ◌≢◌, ◌+◌, ◌*◌, ◌/◌, ◌%◌, ◌<◌, ◌≤◌, ◌^◌, ◌==◌, List, ◌∷◌, length, Bool, true, false, Option, Some, None, if◌then◌else◌, refl, sym, ap, ◌∙◌, subst, arith, inl, inr}
use Rattle.can_frame.specs.Fields.{pgn_bytes, pdu1_number}
use Rattle.can_frame.specs.FrameValue.{FrameValue}
use Rattle.parameter_group.specs.Group.{Acknowledgment, AddressClaimed, Group, group_number, group_of}
use Rattle.transport.specs.ControlMessage.{control_bytes, control_of}
use Rattle.transport.specs.Pieces.{packet_count}
use Rattle.transport.specs.declared.control.Control.TheVariants.{Abort}
use Rattle.fault_memory.specs.Memory.{MemoryValue, IsLawfulMemory}
use Rattle.dm_messages.specs.declared.kind.Kind.{Kind}
use Rattle.bus_ledger.specs.BusValue.{SeatValue}
use Rattle.parameter_group.specs.Calm.{cuts, is_contest}
use Rattle.bus_model.specs.Messages.{Broadcast, IsProper, Message, One, Session, Way, last_part_of, payload_sent, way_of}
use Rattle.bus_model.specs.Traffic.{Item, Tag as PartOf}
use Rattle.bus_model.specs.Machine as machine
use Rattle.address_claim.specs.Claiming.{CanHold}
use Rattle.bus_model.specs.Machine.{Answer, IsCalmAt, IsNotOpen, IsRequestFrom, IsRtsFrom, MayAnswer, MayOpen, MayReply, Seat, World, message_at, session_address}
use Rattle.bus_model.proofs.Bridge.{claim_group, pgn_from, says_by, says_claim, says_control}
use Rattle.bus_model.proofs.Lookback.{same_kind_self}
use Rattle.dm_messages.specs.View.{same_kind}
use Rattle.node_core.specs.NodeValue.{is_open, open_address}
use Rattle.node_core.specs.Deed.{Deed}
use Rattle.node_core.specs.Deed as deed
use Rattle.node_core.specs.Laws.{BeginsLawfully, IsCalmTo, IsLawfulDeed, IsReply, SendsLawfully}
use Rattle.node_core.specs.Requested.{acknowledgment}
use Rattle.node_core.specs.declared.session.OpenSession.{OpenSession}
use Rattle.parameter_group.specs.Laws.{sender}
use Rattle.journal.specs.State.{UnitState}
use Rattle.journal.proofs.Seated.{AreSession, IsSeat}
use Rattle.journal.proofs.Parts.{session_last, way_session}
use Rattle.journal.proofs.Deeds.{open_is}

-- none of no packets
abbrev pub answer_sends : ℕ → Answer
answer_sends zero = machine.Nothing
answer_sends (suc n) = machine.Sends (suc n)

-- the deed as an answer
abbrev pub answer_of : Deed → Answer
answer_of deed.Nothing = machine.Nothing
answer_of (deed.Replies f) = machine.Replies f
answer_of (deed.Begins kind memory source destination) = machine.Begins kind memory source destination
answer_of (deed.Sends o source n) = answer_sends n
answer_of deed.EndsSession = machine.EndsSession
answer_of (deed.Claims name held) = machine.Claims held

-- ---- the open session

address_is : (begun : List Message) (i n : ℕ) (held : Option ℕ) (o : Option OpenSession) (t : Option PartOf) → AreSession begun i n held o t → session_address t ≡ open_address o
address_is begun i n held None None h = refl
address_is begun i n held (Some o) (Some t) h = rw (h.way, h.destination) refl
address_is begun i n held None (Some t) h = absurd h
address_is begun i n held (Some o) None h = absurd h

pub not_open : (begun : List Message) (i n : ℕ) (held : Option ℕ) (o : Option OpenSession) (t : Option PartOf) (k : Kind) → AreSession begun i n held o t → is_open o k ≡ false → IsNotOpen t k
not_open begun i n held None None k h e = tt
not_open begun i n held (Some o) (Some t) k h e = λ same. (let f : same_kind o.kind k ≡ true = rw (← h.kind, same) (same_kind_self k) in cc)
not_open begun i n held None (Some t) k h e = absurd h
not_open begun i n held (Some o) None k h e = absurd h

none_open : (begun : List Message) (i n : ℕ) (held : Option ℕ) (o : Option OpenSession) (t : Option PartOf) → AreSession begun i n held o t → o ≡ None → t ≡ None
none_open begun i n held None None h e = refl
none_open begun i n held (Some o) (Some t) h e = cc
none_open begun i n held None (Some t) h e = absurd h
none_open begun i n held (Some o) None h e = absurd h

-- ---- what is calm

contest_is : (begun : List Message) (items : List Item) (v : SeatValue) (u : UnitState) (x : Seat) (g : Group) → IsSeat begun items v u x → is_contest x.name x.held g ≡ is_contest u.node.claimer.name u.node.claimer.held g
contest_is begun items v u x (AddressClaimed source name) s = rw (s.unit.held, s.unit.name, s.unit.own) refl
contest_is begun items v u x _ s = refl

calm_is : (begun : List Message) (items : List Item) (v : SeatValue) (u : UnitState) (x : Seat) (g : Group) → IsSeat begun items v u x → IsCalmTo u.node g → IsCalmAt x g
calm_is begun items v u x g s calm = record {
  uncontested = contest_is begun items v u x g s ∙ calm.uncontested;
  uncut = ap (λ o. cuts o g) (address_is begun u.session_message v.name u.node.claimer.held u.node.session x.session s.session) ∙ calm.uncut;
}

-- ---- replies

says_acknowledgment : (control requester pgn address : ℕ) → address ≤ 253
    → group_of (acknowledgment control requester pgn address) ≡ Acknowledgment control requester (group_number (control ∷ 255 ∷ 255 ∷ 255 ∷ requester ∷ pgn_bytes pgn) 5) 255 address
says_acknowledgment control requester pgn address l =
    says_by (pdu1_number 6 59392 255 address) (control ∷ 255 ∷ 255 ∷ 255 ∷ requester ∷ pgn_bytes pgn) 59392 255 address
    (pgn_from (pdu1_number 6 59392 255 address) 232 (omega arith) (omega arith) (omega arith) (omega arith))
    (omega arith)
    (omega arith)

abort_back : (reason pgn : ℕ) → control_of (control_bytes (Abort reason pgn)) ≡ Some (Abort reason pgn)
abort_back reason pgn = let e : pgn % 256 + 256 * (pgn / 256 % 256) + 65536 * (pgn / 65536) ≡ pgn = omega arith in rw e refl

may_claim : (x : Seat) (g : Group) (n : ℕ) (o : Option ℕ) → x.held ≡ o → n ≡ x.name → MayReply x g (claim_group n o)
may_claim x g n None e f = tt
may_claim x g n (Some a) e f = (e, f)

pub held_small : (held : Option ℕ) (a : ℕ) → CanHold held → held ≡ Some a → a ≤ 253
held_small held a h e = rw e at h

may_reply : (begun : List Message) (items : List Item) (v : SeatValue) (u : UnitState) (x : Seat) (g : Group) (f : FrameValue) → IsSeat begun items v u x → sender g < 256 → IsReply u.node g f → MayReply x g (group_of f)
may_reply begun items v u x g f s below reply = elim reply [
  | inl e ↦
      let own : u.node.claimer.name < 2 ^ 64 = rw s.unit.own s.unit.small in
      subst (MayReply x g) (sym (ap group_of e ∙ says_claim u.node.claimer.name u.node.claimer.held own s.unit.holdable)) (may_claim x g u.node.claimer.name u.node.claimer.held s.unit.held (s.unit.own ∙ sym s.unit.name))
  | inr others ↦ elim others [
    | inl a ↦ subst (MayReply x g) (sym (ap group_of a.sent ∙ says_acknowledgment a.control a.requester a.pgn a.address (held_small u.node.claimer.held a.address s.unit.holdable a.held))) tt
    | inr r ↦
        let small : r.address ≤ 253 = held_small u.node.claimer.held r.address s.unit.holdable r.held in
        let from : r.source < 256 = subst (λ (h : Group). sender h < 256) r.asked below in
        let rts : IsRtsFrom r.source g = subst (IsRtsFrom r.source) (sym r.asked) refl in
        subst (MayReply x g) (sym (ap group_of r.sent ∙ says_control (Abort 2 r.pgn) r.address r.source (omega arith) (omega arith) (abort_back 2 r.pgn))) (s.unit.held ∙ r.held, rts)
  ]
]

-- ---- messages

may_open_to_all : (x : Seat) (g : Group) (m : Message) (source : ℕ) → (m.destination == 255) ≡ true → MayOpen x g (way_of m) source
unfolding way_of
may_open_to_all x g m source e = go (length (payload_sent m) == 8) (m.destination == 255) e
  where
    go : (b c : Bool) → c ≡ true → MayOpen x g (if b then One else (if c then Broadcast else Session m.destination)) source
    go true c h = tt
    go false true h = tt
    go false false h = cc

not_all : (d : ℕ) → d ≤ 253 → (d == 255) ≡ false
not_all d l = grind arith

may_begin : (w : World) (items : List Item) (v : SeatValue) (u : UnitState) (x : Seat) (g : Group) (memory : MemoryValue) (kind : Kind) (memory' : MemoryValue) (source destination : ℕ) → IsSeat w.begun items v u x → IsLawfulMemory memory
    → BeginsLawfully u.node memory g kind memory' source destination
    → (x.held ≡ Some source) × IsProper (message_at w x kind memory' source destination) × IsNotOpen x.session kind × MayOpen x g (way_of (message_at w x kind memory' source destination)) source
unfolding payload_sent
may_begin w items v u x g memory kind memory' source destination s lawful b =
    let m = message_at w x kind memory' source destination in
    let good : IsLawfulMemory memory' = rw b.same lawful in
    let small : source ≤ 253 = held_small u.node.claimer.held source s.unit.holdable b.held in
    let held : x.held ≡ Some source = s.unit.held ∙ b.held in
    let closed = not_open w.begun u.session_message v.name u.node.claimer.held u.node.session x.session kind s.session b.closed in
    elim (b.way) [
      | inl e ↦
          (let all : (destination == 255) ≡ true = rw e refl in
          (held, record { memory = good; source = small; destination = inl e }, closed, may_open_to_all x g m source all))
      | inr o ↦
          (let holdable : destination ≤ 253 = o.holdable in
          let long : length (payload_sent m) ≢ 8 = (λ i. let f : (length (payload_sent m) == 8) ≡ true = rw i refl in let k = o.long in cc) in
          let one = not_all destination holdable in
          let asked : IsRequestFrom destination g = subst (IsRequestFrom destination) (sym o.asked) refl in
          let free : x.session ≡ None = none_open w.begun u.session_message v.name u.node.claimer.held u.node.session x.session s.session o.free in
          (held, record { memory = good; source = small; destination = inr (o.holdable, long) }, closed, subst (λ (y : Way). MayOpen x g y source) (sym (way_session m (λ _. o.long) one)) (asked, o.apart, free)))
    ]

-- ---- packets

may_grant : (w : World) (items : List Item) (v : SeatValue) (u : UnitState) (x : Seat) (o : OpenSession) (source n : ℕ) → IsSeat w.begun items v u x → SendsLawfully u.node o source (suc n)
    → (t : PartOf) × (x.session ≡ Some t) × (suc n + t.part ≤ last_part_of t.message)
may_grant w items v u x o source n s h =
    let is = open_is w.begun u.session_message v.name u.node.claimer.held o x.session (rw h.session at s.session) in
    let last : last_part_of is.0.message ≡ packet_count (length o.sending.payload) = session_last is.0.message is.0.message.destination is.2.way ∙ ap (λ (p : List ℕ). packet_count (length p)) (sym is.2.payload) in
    let part = is.2.part in
    let within = h.within in
    (is.0, is.1, omega arith)

-- ---- all of it

pub deed_may : (w : World) (items : List Item) (v : SeatValue) (u : UnitState) (x : Seat) (g : Group) (memory : MemoryValue) (d : Deed) → IsSeat w.begun items v u x → sender g < 256 → IsLawfulMemory memory → IsLawfulDeed u.node memory g d
    → MayAnswer w x g (answer_of d)
deed_may w items v u x g memory deed.Nothing s below lawful h = calm_is w.begun items v u x g s h
deed_may w items v u x g memory (deed.Replies f) s below lawful h = (calm_is w.begun items v u x g s h.0, may_reply w.begun items v u x g f s below h.1)
deed_may w items v u x g memory (deed.Begins kind memory' source destination) s below lawful h =
    let b = may_begin w items v u x g memory kind memory' source destination s lawful h.1 in
    (calm_is w.begun items v u x g s h.0, b.0, b.1, b.2, b.3)
deed_may w items v u x g memory (deed.Sends o source zero) s below lawful h = calm_is w.begun items v u x g s h.0
deed_may w items v u x g memory (deed.Sends o source (suc n)) s below lawful h = (calm_is w.begun items v u x g s h.0, may_grant w items v u x o source n s h.1)
deed_may w items v u x g memory deed.EndsSession s below lawful h = contest_is w.begun items v u x g s ∙ h
deed_may w items v u x g memory (deed.Claims name held) s below lawful h = h.1
