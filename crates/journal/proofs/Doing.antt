-- A unit's seat after its deed is the seat of the law's machine after its answer.
use Rattle.std.proofs.Common.{ℕ, suc, zero, ◌≡◌, ◌==◌, List, [], ◌∷◌, ◌++◌, map, length, set, Bool, true, false, not, Option, Some, None, if◌then◌else◌, refl, sym, ap, ◌∙◌, subst, inl, inr}
use Rattle.std.proofs.lemmas.List.{append-nil}
use Rattle.address_claim.specs.Frames.{claim_frame_value}
use Rattle.parameter_group.specs.Group.{Group}
use Rattle.fault_memory.specs.Memory.{MemoryValue}
use Rattle.dm_messages.specs.declared.kind.Kind.{Kind}
use Rattle.bus_ledger.specs.BusValue.{SeatValue}
use Rattle.bus_ledger.specs.Changes.{kept, queued_frame}
use Rattle.bus_ledger.specs.declared.traffic.QueuedFrame.{QueuedFrame}
use Rattle.bus_ledger.specs.declared.traffic.Which.TheVariants as which
use Rattle.bus_model.specs.Messages.{Message, payload_sent}
use Rattle.bus_model.specs.Traffic.{Item, Tag as PartOf}
use Rattle.bus_model.specs.Machine as machine
use Rattle.bus_model.specs.Machine.{Answer, Seat, World, answered, granted, granted_one, plain_item, session_ended, with_message, yielded}
use Rattle.node_core.specs.Deed.{Deed, after_deed, begun_of, opened, parts_begun, put_of, withdraw_of}
use Rattle.node_core.specs.Deed as deed
use Rattle.node_core.specs.Laws.{BeginsLawfully, IsLawfulDeed}
use Rattle.node_core.specs.Reaction.{noted_from}
use Rattle.node_core.specs.declared.heard.Withdraw.{Withdraw}
use Rattle.node_core.specs.declared.heard.Withdraw.TheVariants as withdraw
use Rattle.journal.specs.State.{UnitState}
use Rattle.journal.specs.Steps.{begun_after, begins_session, session_message_after, tagged}
use Rattle.journal.proofs.Seated.{IsSeat}
use Rattle.journal.proofs.Queues.{IsSameSeat, seat_noted, seat_same}
use Rattle.journal.proofs.Parts.{parts_put}
use Rattle.journal.proofs.Deeds.{noted_name, noting, open_is, same_unit, seat_begins_session, seat_begins_to_all, seat_claims, seat_ends, seat_replies, seat_sends}
use Rattle.journal.proofs.Answers.{answer_of, answer_sends}

-- what stays in a queue
abbrev pub kept_by : Withdraw → List QueuedFrame → List QueuedFrame
kept_by withdraw.Keep qs = qs
kept_by withdraw.Session qs = kept which.Session qs
kept_by withdraw.All qs = []

-- what a unit queues in a deed
abbrev pub puts_of : UnitState → ℕ → Deed → List QueuedFrame
puts_of u number d = map (tagged number (begins_session (begun_of d)) (session_message_after u.session_message number (begun_of d))) (put_of d)

-- what it keeps afterwards
abbrev pub unit_after : UnitState → Group → ℕ → Deed → UnitState
unit_after u g number d = record { node = after_deed (noted_from u.node g) d; session_message = session_message_after u.session_message number (begun_of d) }

-- the seat after an answer
abbrev pub seat_answered : ℕ → Seat → Answer → Seat
seat_answered number x machine.Nothing = x
seat_answered number x (machine.Replies f) = record x { queue = plain_item x.number x.name f ∷ x.queue }
seat_answered number x (machine.Begins kind memory source destination) =
    with_message x (record { number = number; seat = x.number; name = x.name; kind = kind; memory = memory; source = source; destination = destination })
seat_answered number x (machine.Sends n) = granted x n
seat_answered number x machine.EndsSession = session_ended x
seat_answered number x (machine.Claims to) = yielded x to

-- an answer leaves its number
pub answered_number : (number : ℕ) (x : Seat) (a : Answer) → (seat_answered number x a).number ≡ x.number
answered_number number x machine.Nothing = refl
answered_number number x (machine.Replies f) = refl
answered_number number x (machine.Begins kind memory source destination) = refl
answered_number number x (machine.Sends n) = granted_number n x
  where
    one_number : (x : Seat) (o : Option PartOf) → (granted_one x o).number ≡ x.number
    one_number x None = refl
    one_number x (Some t) = refl

    granted_number : (n : ℕ) (x : Seat) → (granted x n).number ≡ x.number
    granted_number zero x = refl
    granted_number (suc n) x = granted_number n _ ∙ one_number x x.session
answered_number number x machine.EndsSession = refl
answered_number number x (machine.Claims to) = refl

-- the messages begun after it
abbrev pub begun_answered : List Message → ℕ → ℕ → Answer → List Message
begun_answered begun seat name (machine.Begins kind memory source destination) =
    record { number = length begun; seat = seat; name = name; kind = kind; memory = memory; source = source; destination = destination } ∷ begun
begun_answered begun seat name _ = begun

pub answered_is : (w : World) (i : ℕ) (x : Seat) (a : Answer) → answered w i x a ≡ record w { seats = set w.seats i (seat_answered (length w.begun) x a); begun = begun_answered w.begun x.number x.name a }
answered_is w i x machine.Nothing = refl
answered_is w i x (machine.Replies f) = refl
answered_is w i x (machine.Begins kind memory source destination) = refl
answered_is w i x (machine.Sends n) = refl
answered_is w i x machine.EndsSession = refl
answered_is w i x (machine.Claims to) = refl

pub begun_is : (begun : List Message) (u : UnitState) (g : Group) (seat seat' name name' : ℕ) (memory : MemoryValue) (d : Deed) → IsLawfulDeed u.node memory g d → seat' ≡ seat → name' ≡ name
    → begun_after begun seat name memory (begun_of d) ≡ begun_answered begun seat' name' (answer_of d)
begun_is begun u g seat seat' name name' memory (deed.Begins kind memory' source destination) h i e = rw (i, e, h.1.same) refl
begun_is begun u g seat seat' name name' memory deed.Nothing h i e = refl
begun_is begun u g seat seat' name name' memory (deed.Replies f) h i e = refl
begun_is begun u g seat seat' name name' memory (deed.Sends o source zero) h i e = refl
begun_is begun u g seat seat' name name' memory (deed.Sends o source (suc n)) h i e = refl
begun_is begun u g seat seat' name name' memory deed.EndsSession h i e = refl
begun_is begun u g seat seat' name name' memory (deed.Claims n held) h i e = refl

-- a message begins
begins : (begun : List Message) (items : List Item) (v y : SeatValue) (u : UnitState) (x : Seat) (g : Group) (memory : MemoryValue) (kind : Kind) (memory' : MemoryValue) (source destination : ℕ)
    → IsSeat begun items v (noting u g) x → BeginsLawfully u.node memory g kind memory' source destination → u.node.claimer.held ≡ (noting u g).node.claimer.held → IsSameSeat v y
    → y.queue ≡ v.queue ++ puts_of u (length begun) (deed.Begins kind memory' source destination)
    → IsSeat (record { number = length begun; seat = x.number; name = v.name; kind = kind; memory = memory'; source = source; destination = destination } ∷ begun) items y (unit_after u g (length begun) (deed.Begins kind memory' source destination))
    (with_message x (record { number = length begun; seat = x.number; name = v.name; kind = kind; memory = memory'; source = source; destination = destination }))
unfolding payload_sent
begins begun items v y u x g memory kind memory' source destination s b held same e = go (destination == 255) refl e
  where
    m : Message
    m = record { number = length begun; seat = x.number; name = v.name; kind = kind; memory = memory'; source = source; destination = destination }

    long : (destination == 255) ≡ false → (length (payload_sent m) == 8) ≡ false
    long one = elim (b.way) [
      | inl all ↦ absurd (let t : (destination == 255) ≡ true = rw all refl in cc)
      | inr o ↦ o.long
    ]

    go : (c : Bool) → (destination == 255) ≡ c → y.queue ≡ v.queue ++ parts_put m (length begun) (if not c then length begun else u.session_message) (not c)
        → IsSeat (m ∷ begun) items y (record { node = if c then (noting u g).node else record (noting u g).node { session = Some (opened kind memory' destination) }; session_message = if not c then length begun else u.session_message }) (with_message x m)
    go true i f = seat_begins_to_all begun items v y (noting u g) x m u.session_message s same refl refl i f
    go false i f =
        seat_begins_session begun items v y (noting u g) (record { node = record (noting u g).node { session = Some (opened kind memory' destination) }; session_message = length begun }) x m s same refl refl refl i long (sym held ∙ b.held) refl refl refl f

pub deed_seat : (begun : List Message) (items : List Item) (v y : SeatValue) (u : UnitState) (x : Seat) (g : Group) (memory : MemoryValue) (d : Deed) → IsSeat begun items v u x → IsLawfulDeed u.node memory g d → IsSameSeat v y
    → y.queue ≡ kept_by (withdraw_of d) v.queue ++ puts_of u (length begun) d
    → IsSeat (begun_after begun x.number v.name memory (begun_of d)) items y (unit_after u g (length begun) d) (seat_answered (length begun) x (answer_of d))
deed_seat begun items v y u x g memory deed.Nothing s h same e =
    seat_same begun items v y (noting u g) x (seat_noted begun items v u (noting u g) x s (same_unit u g h.uncontested)) same (e ∙ append-nil v.queue)
deed_seat begun items v y u x g memory (deed.Replies f) s h same e =
    seat_replies begun items v y (noting u g) x f (seat_noted begun items v u (noting u g) x s (same_unit u g h.0.uncontested)) same e
deed_seat begun items v y u x g memory (deed.Begins kind memory' source destination) s h same e =
    let unit = same_unit u g h.0.uncontested in
    let noted = seat_noted begun items v u (noting u g) x s unit in
    rw (← h.1.same)
    (subst (λ (n : ℕ). IsSeat (record { number = length begun; seat = x.number; name = v.name; kind = kind; memory = memory'; source = source; destination = destination } ∷ begun) items y (unit_after u g (length begun) (deed.Begins kind memory' source destination))
    (with_message x (record { number = length begun; seat = x.number; name = n; kind = kind; memory = memory'; source = source; destination = destination })))
    (sym s.unit.name) (begins begun items v y u x g memory kind memory' source destination noted h.1 (sym unit.held) same e))
deed_seat begun items v y u x g memory (deed.Sends o source n) s h same e =
    let unit = same_unit u g h.0.uncontested in
    let noted = seat_noted begun items v u (noting u g) x s unit in
    let is = open_is begun u.session_message v.name (noting u g).node.claimer.held o x.session (rw (unit.session ∙ h.1.session) at noted.session) in
    let sent = seat_sends begun items v y (noting u g) (unit_after u g (length begun) (deed.Sends o source n)) x o is.0 source n (length begun) noted same is.1 is.2 (unit.held ∙ h.1.held) refl refl refl e in
    go n sent
  where
    go : (k : ℕ) → IsSeat begun items y (unit_after u g (length begun) (deed.Sends o source n)) (granted x k)
        → IsSeat begun items y (unit_after u g (length begun) (deed.Sends o source n)) (seat_answered (length begun) x (answer_sends k))
    go zero t = t
    go (suc k) t = t
deed_seat begun items v y u x g memory deed.EndsSession s h same e =
    let noted = seat_noted begun items v u (noting u g) x s (same_unit u g h) in
    seat_ends begun items v y (noting u g) (unit_after u g (length begun) deed.EndsSession) x noted same (e ∙ append-nil (kept which.Session v.queue)) refl refl
deed_seat begun items v y u x g memory (deed.Claims name held) s h same e =
    let own : name ≡ x.name = h.0 ∙ (s.unit.own ∙ sym s.unit.name) in
    seat_claims begun items v y u (unit_after u g (length begun) (deed.Claims name held)) x held s same (e ∙ ap (λ (n : ℕ). queued_frame (claim_frame_value n held) None ∷ []) own) h.1 (noted_name u.node g) refl refl
