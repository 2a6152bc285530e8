-- What one event more changes of what a journal tells.
use Rattle.std.proofs.Common.{ℕ, suc, zero, ◌≡◌, ◌+◌, ◌-◌, ◌<◌, ◌≤◌, List, [], ◌∷◌, ◌++◌, reverse, length, get_or, set, Bool, true, false, cond, ◌==◌, Option, Some, None, slice_get, refl, sym, ap, ◌∙◌, subst, arith, inl, inr, if◌then◌else◌}
use Rattle.std.proofs.lemmas.List.{reverse-append}
use Rattle.bus_ledger.specs.BusValue.{SeatValue, Traffic, nobody, seat_at, IsUnit}
use Rattle.bus_ledger.specs.Newcomers.{live_units}
use Rattle.bus_ledger.specs.Changes.{leaving, left, sending, carried_from, carried_frame, queued, with_newcomer, injected}
use Rattle.bus_ledger.specs.declared.traffic.QueuedFrame.{QueuedFrame}
use Rattle.bus_model.specs.Expected.{Own}
use Rattle.std.specs.List.{count_by}
use Rattle.std.proofs.lemmas.List.{set_past}
use Rattle.std.proofs.lemmas.List.Sums.{sum_by-set}
use Rattle.fault_memory.specs.Memory.{MemoryValue, IsLawfulMemory}
use Rattle.can_frame.specs.declared.reading.Reading.{Reading}
use Rattle.journal.proofs.Station.{carry_same}
use Rattle.journal.specs.State.{Settings, State, path_at, station_at, table_at, unit_at}
use Rattle.journal.specs.Steps.{after, after_leave, after_carry_of, item_of, reacted, after_read, path_after, after_join, after_inject, untagged, with_station}
use Rattle.bus_ledger.specs.Reception.{reading_taken}
use Rattle.station_table.specs.Reactions.{station_reaction}
use Rattle.station_table.specs.Steps.{after_reading as station_after}
use Rattle.address_claim.specs.Frames.{claim_frame_value}
use Rattle.journal.specs.State.{new_unit}
use Rattle.journal.specs.Steps.{after_begin_of, after_starting}
use Rattle.node_core.specs.declared.heard.Answer.{Answer as UnitAnswer}
use Rattle.node_core.specs.Beginning.{begins}
use Rattle.node_core.specs.declared.heard.Started.{Started}
use Rattle.node_core.specs.declared.heard.Started.TheVariants as started
use Rattle.node_core.specs.declared.out.Out.{Out}
use Rattle.dm_messages.specs.declared.kind.Kind.TheVariants.{Dm1}
use Rattle.journal.specs.Steps.{after_hear_of, after_hearing, next_for, begun_after}
use Rattle.can_frame.specs.FrameValue.{FrameValue}
use Rattle.node_core.specs.NodeValue.{NodeValue}
use Rattle.node_core.specs.Deed.{heard_of}
use Rattle.node_core.specs.Reaction.{reaction as node_reaction, node_after, question}
use Rattle.node_core.specs.Asking.{IsAnswerTo}
use Rattle.node_core.specs.declared.heard.Heard.{Heard}
use Rattle.node_core.specs.declared.heard.Begun.{Begun}
use Rattle.bus_model.specs.Messages.{Message}
use Rattle.bus_ledger.specs.declared.traffic.CarriedFrame.{CarriedFrame}
use Rattle.std.specs.Option.{option_map}
use Rattle.garage.specs.Answers.{count_with_begun}
use Rattle.journal.specs.Fits.{IsAnswered, Fits}
use Rattle.journal.specs.Journal.{state_after, AllFit, injected_of, joins, readings_at, tallied, tally_of}
use Rattle.journal.specs.declared.event.Event.{Event}
use Rattle.journal.specs.declared.event.Event.TheVariants.{Join, Hear, Begin, Turned, Carry, Read, Ordered, Leave, Inject}
use Rattle.journal.specs.declared.tally.Tally.{Tally}
use Rattle.garage.proofs.Traffics.{within_or_past}

pub state_more : (r : Settings) (e : Event) (older : List Event) → state_after r (e ∷ older) ≡ after e (state_after r older)
unfolding state_after
state_more r e older = refl

pub fit_more : (r : Settings) (e : Event) (older : List Event) → Fits (state_after r older) e → AllFit r older → AllFit r (e ∷ older)
unfolding AllFit
fit_more r e older f all = (f, all)

pub tally_more : (k : ℕ) (e : Event) (older : List Event) → tally_of k (e ∷ older) ≡ tallied k e (tally_of k older)
unfolding tally_of
tally_more k e older = refl

pub newest : (es : List Event) (e : Event) → reverse (es ++ e ∷ []) ≡ e ∷ reverse es
newest es e = reverse-append es (e ∷ [])

-- no count is above the number of events
pub record IsFewTally (n : ℕ) (t : Tally) : Type 0 where
  pub events : t.events ≤ n
  pub turned : t.turned ≤ n
  pub left : t.left ≤ n

few_if : (b : Bool) (n : ℕ) (t u : Tally) → IsFewTally n t → IsFewTally (suc n) u → IsFewTally (suc n) (cond b u t)
few_if true n t u f g = g
few_if false n t u f g = record { events = (let h = f.events in omega arith); turned = (let h = f.turned in omega arith); left = (let h = f.left in omega arith) }

few_event : (k n : ℕ) (e : Event) (t : Tally) → IsFewTally n t → IsFewTally (suc n) (tallied k e t)
few_event k n (Join seat name address) t f = few_if (seat == k) n t _ f (record { events = (let h = f.events in omega arith); turned = (let h = f.turned in omega arith); left = (let h = f.left in omega arith) })
few_event k n (Hear j memory answered) t f = few_if (j == k) n t _ f (record { events = (let h = f.events in omega arith); turned = (let h = f.turned in omega arith); left = (let h = f.left in omega arith) })
few_event k n (Begin j memory) t f = few_if (j == k) n t _ f (record { events = (let h = f.events in omega arith); turned = (let h = f.turned in omega arith); left = (let h = f.left in omega arith) })
few_event k n (Turned j) t f = few_if (j == k) n t _ f (record { events = (let h = f.events in omega arith); turned = (let h = f.turned in omega arith); left = (let h = f.left in omega arith) })
few_event k n (Carry j) t f = few_if false n t t f (record { events = (let h = f.events in omega arith); turned = (let h = f.turned in omega arith); left = (let h = f.left in omega arith) })
few_event k n (Read y r) t f = few_if false n t t f (record { events = (let h = f.events in omega arith); turned = (let h = f.turned in omega arith); left = (let h = f.left in omega arith) })
few_event k n (Ordered y o) t f = few_if false n t t f (record { events = (let h = f.events in omega arith); turned = (let h = f.turned in omega arith); left = (let h = f.left in omega arith) })
few_event k n (Leave j) t f = few_if (j == k) n t _ f (record { events = (let h = f.events in omega arith); turned = (let h = f.turned in omega arith); left = (let h = f.left in omega arith) })
few_event k n (Inject x) t f = few_if false n t t f (record { events = (let h = f.events in omega arith); turned = (let h = f.turned in omega arith); left = (let h = f.left in omega arith) })

pub tally_few : (k : ℕ) (es : List Event) → IsFewTally (length es) (tally_of k es)
unfolding tally_of
tally_few k [] = record { events = omega arith; turned = omega arith; left = omega arith }
tally_few k (e ∷ es) = few_event k (length es) e (tally_of k es) (tally_few k es)

-- how many frames an event puts on the bus from outside
abbrev pub from_outside : Event → ℕ
from_outside (Inject f) = 1
from_outside _ = 0

pub injected_more : (e : Event) (es : List Event) → injected_of (e ∷ es) ≡ injected_of es + from_outside e
unfolding injected_of
injected_more (Join seat name address) es = omega arith
injected_more (Hear k memory answered) es = omega arith
injected_more (Begin k memory) es = omega arith
injected_more (Turned k) es = omega arith
injected_more (Carry k) es = omega arith
injected_more (Read y r) es = omega arith
injected_more (Ordered y o) es = omega arith
injected_more (Leave k) es = omega arith
injected_more (Inject f) es = refl

few_outside : (e : Event) → from_outside e ≤ 1
few_outside (Join seat name address) = omega arith
few_outside (Hear k memory answered) = omega arith
few_outside (Begin k memory) = omega arith
few_outside (Turned k) = omega arith
few_outside (Carry k) = omega arith
few_outside (Read y r) = omega arith
few_outside (Ordered y o) = omega arith
few_outside (Leave k) = omega arith
few_outside (Inject f) = omega arith

none_outside : injected_of [] ≡ 0
unfolding injected_of
none_outside = refl

pub injected_few : (es : List Event) → injected_of es ≤ length es
injected_few [] = (let e = none_outside in omega arith)
injected_few (e ∷ es) = (let m = injected_more e es in let f = few_outside e in let r = injected_few es in omega arith)

-- the readings of a station after one event more
abbrev pub readings_with : Event → ℕ → List Reading → List Reading
readings_with (Read j reading) y rs = if j == y then reading ∷ rs else rs
readings_with _ y rs = rs

pub readings_more : (e : Event) (y : ℕ) (es : List Event) → readings_at y (e ∷ es) ≡ readings_with e y (readings_at y es)
unfolding readings_at
readings_more (Join seat name address) y es = refl
readings_more (Hear k memory answered) y es = refl
readings_more (Begin k memory) y es = refl
readings_more (Turned k) y es = refl
readings_more (Carry k) y es = refl
readings_more (Read j r) y es = refl
readings_more (Ordered j o) y es = refl
readings_more (Leave k) y es = refl
readings_more (Inject f) y es = refl

pub joins_hear : (k : ℕ) (m : MemoryValue) (g : UnitAnswer) (es : List Event) → joins (Hear k m g ∷ es) ≡ joins es
unfolding joins
joins_hear k m g es = refl

pub joins_begin : (k : ℕ) (m : MemoryValue) (es : List Event) → joins (Begin k m ∷ es) ≡ joins es
unfolding joins
joins_begin k m es = refl

pub joins_turned : (k : ℕ) (es : List Event) → joins (Turned k ∷ es) ≡ joins es
unfolding joins
joins_turned k es = refl

pub joins_carry : (k : ℕ) (es : List Event) → joins (Carry k ∷ es) ≡ joins es
unfolding joins
joins_carry k es = refl

pub joins_read : (y : ℕ) (r : Reading) (es : List Event) → joins (Read y r ∷ es) ≡ joins es
unfolding joins
joins_read y r es = refl

pub joins_leave : (k : ℕ) (es : List Event) → joins (Leave k ∷ es) ≡ joins es
unfolding joins
joins_leave k es = refl

pub joins_join : (k n w : ℕ) (es : List Event) → joins (Join k n w ∷ es) ≡ joins es + 1
unfolding joins
joins_join k n w es = refl

pub leave_is : (k : ℕ) (s : State) → after (Leave k) s ≡ record s { traffic = left k s.traffic }
unfolding after_leave
leave_is k s = refl

-- a leave queues nothing
left_at : (xs : List SeatValue) (k j : ℕ) → (get_or (set xs k (leaving (get_or xs k nobody))) j nobody).queued ≡ (get_or xs j nobody).queued
left_at [] k j = refl
left_at (x ∷ xs) zero zero = refl
left_at (x ∷ xs) zero (suc j) = refl
left_at (x ∷ xs) (suc k) zero = refl
left_at (x ∷ xs) (suc k) (suc j) = left_at xs k j

pub left_queued : (t : Traffic) (k j : ℕ) → (seat_at (left k t) j).queued ≡ (seat_at t j).queued
left_queued t k j = left_at t.seats k j

sent_at : (xs : List SeatValue) (k j : ℕ) → (get_or (set xs k (sending (get_or xs k nobody))) j nobody).queued ≡ (get_or xs j nobody).queued
sent_at [] k j = refl
sent_at (x ∷ xs) zero zero = refl
sent_at (x ∷ xs) zero (suc j) = refl
sent_at (x ∷ xs) (suc k) zero = refl
sent_at (x ∷ xs) (suc k) (suc j) = sent_at xs k j

pub sent_queued : (t : Traffic) (k : ℕ) (q : QueuedFrame) (j : ℕ) → (seat_at (carried_from k q t) j).queued ≡ (seat_at t j).queued
sent_queued t k q j = sent_at t.seats k j

sent_live : (xs : List SeatValue) (k : ℕ) → count_by (λ (s : SeatValue). s.live) (set xs k (sending (get_or xs k nobody))) ≡ count_by (λ (s : SeatValue). s.live) xs
sent_live xs k = elim (within_or_past k (length xs)) [
  | inl h ↦ let s = sum_by-set (λ (v : SeatValue). cond {A = ℕ} v.live 1 0) xs k (sending (get_or xs k nobody)) nobody h in omega arith
  | inr h ↦ ap (count_by (λ (s : SeatValue). s.live)) (set_past xs k (sending (get_or xs k nobody)) h)
]

pub sent_units : (t : Traffic) (k : ℕ) (q : QueuedFrame) → live_units (carried_from k q t) ≡ live_units t
sent_units t k q = ap (λ (n : ℕ). n - length t.windows) (sent_live t.seats k)

-- the frame that is carried is the first of its seat's queue
pub carry_is : (k : ℕ) (q : QueuedFrame) (s : State) → slice_get (seat_at s.traffic k).queue 0 ≡ Some q
    → after (Carry k) s ≡ record s { traffic = carried_from k q s.traffic; stations = with_station k (record (station_at s k) { path = Own (item_of s (carried_frame k q)) ∷ path_at s k }) s.stations }
unfolding after_carry_of
carry_is k q s e = rw e refl

pub read_is : (y : ℕ) (r : Reading) (s : State) → after (Read y r) s ≡ record s {
  traffic = reacted y (station_reaction (table_at s y) r) (reading_taken y r s.traffic);
  stations = with_station y (record { table = station_after (table_at s y) r; path = path_after y r s }) s.stations;
}
unfolding after_read
read_is y r s = refl

pub join_is : (seat name address : ℕ) (s : State) → after (Join seat name address) s ≡ record s {
  traffic = queued (length s.traffic.seats) (untagged (claim_frame_value name (Some address))) (with_newcomer name s.traffic);
  units = s.units ++ new_unit name address ∷ [];
}
unfolding after_join
join_is seat name address s = refl

pub inject_is : (f : FrameValue) (s : State) → after (Inject f) s ≡ record s { traffic = injected f s.traffic }
unfolding after_inject
inject_is f s = refl

pub joins_inject : (f : FrameValue) (es : List Event) → joins (Inject f ∷ es) ≡ joins es
unfolding joins
joins_inject f es = refl

pub carry_table : (k y : ℕ) (s : State) → table_at (after (Carry k) s) y ≡ table_at s y
carry_table k y s = (carry_same (slice_get (seat_at s.traffic k).queue 0) k s).table y

-- what hearing a frame comes to
pub hear_is : (k : ℕ) (memory : MemoryValue) (answered : UnitAnswer) (f : FrameValue) (s : State) → next_for s k ≡ Some f
    → after (Hear k memory answered) s ≡ after_hearing k memory (heard_of answered (node_reaction (unit_at s k).node memory answered f)) (node_after (unit_at s k).node memory answered f) s
unfolding after_hear_of
hear_is k memory answered f s e = rw e refl

pub hear_did : (k : ℕ) (memory : MemoryValue) (f : FrameValue) (s : State) (node : NodeValue) (h : Heard) (node' : NodeValue) → next_for s k ≡ Some f → (unit_at s k).node ≡ node
    → h ≡ heard_of h.answer (node_reaction node memory h.answer f) → node' ≡ node_after node memory h.answer f → after (Hear k memory h.answer) s ≡ after_hearing k memory h node' s
hear_did k memory f s node h node' e n heard_is node_is =
    hear_is k memory h.answer f s e
    ∙ (ap (λ (m : NodeValue). after_hearing k memory (heard_of h.answer (node_reaction m memory h.answer f)) (node_after m memory h.answer f) s) n
    ∙ (ap (λ (g : Heard). after_hearing k memory g (node_after node memory h.answer f) s) (sym heard_is) ∙ ap (λ (m : NodeValue). after_hearing k memory h m s) (sym node_is)))

pub begun_length : (ms : List Message) (seat name : ℕ) (memory : MemoryValue) (b : Option Begun) → length (begun_after ms seat name memory b) ≡ count_with_begun (length ms) b
begun_length ms seat name memory None = refl
begun_length ms seat name memory (Some b) = omega arith

pub begun_few : (n : ℕ) (b : Option Begun) → count_with_begun n b ≤ n + 1
begun_few n None = omega arith
begun_few n (Some b) = omega arith

-- a frame that is there stands on the wire
pub next_within : (xs : List CarriedFrame) (i : ℕ) (f : FrameValue) → option_map (λ (c : CarriedFrame). c.frame) (slice_get xs i) ≡ Some f → i < length xs
next_within [] i f e = absurd cc
next_within (x ∷ xs) zero f e = omega arith
next_within (x ∷ xs) (suc i) f e = let r = next_within xs i f e in omega arith

-- what a unit answered to the frame that it hears next
pub is_answered : (n m : NodeValue) (o : Option FrameValue) (f : FrameValue) (answered : UnitAnswer) → n ≡ m → o ≡ Some f → IsAnswerTo (question m f) answered → IsAnswered n o answered
is_answered n m o f answered en eo h =
    subst (λ (x : Option FrameValue). IsAnswered n x answered) (sym eo) (subst (λ (x : NodeValue). IsAnswerTo (question x f) answered) (sym en) h)

-- what a message begun comes to
pub begin_did : (k : ℕ) (memory : MemoryValue) (s : State) (node : NodeValue) (source : ℕ) (b : Begun) (put : List Out) → (unit_at s k).node ≡ node → node.claimer.held ≡ Some source
    → started.Begun b put ≡ begins node.session Dm1 memory source → after (Begin k memory) s ≡ after_starting k memory (started.Begun b put) s
unfolding after_begin_of
begin_did k memory s node source b put n held did =
    let e : (unit_at s k).node.claimer.held ≡ Some source = ap (λ (v : NodeValue). v.claimer.held) n ∙ held in
    rw e (ap (λ (v : NodeValue). after_starting k memory (begins v.session Dm1 memory source) s) n ∙ ap (λ (st : Started). after_starting k memory st s) (sym did))

pub begin_fits : (k : ℕ) (memory : MemoryValue) (s : State) (node : NodeValue) (source : ℕ) (b : Begun) (put : List Out) → IsUnit s.traffic k → IsLawfulMemory memory → (unit_at s k).node ≡ node → node.claimer.held ≡ Some source
    → started.Begun b put ≡ begins node.session Dm1 memory source → Fits s (Begin k memory)
begin_fits k memory s node source b put u lawful n held did =
    let here : started.Begun b put ≡ begins (unit_at s k).node.session Dm1 memory source = did ∙ ap (λ (v : NodeValue). begins v.session Dm1 memory source) (sym n) in
    let not_held : begins (unit_at s k).node.session Dm1 memory source ≡ started.Held → ⊥ = (λ e. let clash : started.Begun b put ≡ started.Held = here ∙ e in cc) in
    (u, (source, ap (λ (v : NodeValue). v.claimer.held) n ∙ held, not_held), lawful)
