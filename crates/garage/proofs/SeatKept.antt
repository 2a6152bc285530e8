-- A unit that hears, begins a message or ends a turn keeps its seat.
use Rattle.std.proofs.Common.{ℕ, false, true, ◌≡◌, ◌+◌, ◌<◌, ◌≤◌, nat_eq, eq-eqb, Bool, List, [], ◌∷◌, Option, Some, None, map, length, slice_get, if◌then◌else◌, refl, sym, ap, ◌∙◌, subst, arith, inl, inr}
use Rattle.std.proofs.lemmas.List.{length-set, get_or-set_same, get_or-set_other}
use Rattle.bus_ledger.proofs.Numbers.{same_or_not}
use Rattle.bus_ledger.specs.Reception.{passes, reading_taken}
use Rattle.can_frame.specs.declared.reading.Reading.{Reading}
use Rattle.station_table.specs.Reactions.{station_reaction}
use Rattle.station_table.specs.declared.reaction.Reaction.{Reaction}
use Rattle.can_frame.specs.FrameValue.{FrameValue}
use Rattle.fault_memory.specs.Memory.{MemoryValue}
use Rattle.bus_ledger.specs.BusValue.{SeatValue, Traffic, IsUnit, nobody, seat_at}
use Rattle.bus_ledger.specs.Changes.{with_seat, hearing, queueing, sending, withdrawing, queued, heard_more, withdrawn}
use Rattle.bus_ledger.specs.declared.traffic.QueuedFrame.{QueuedFrame}
use Rattle.bus_ledger.specs.declared.traffic.Which.{Which}
use Rattle.bus_ledger.specs.declared.traffic.Which.TheVariants as which
use Rattle.dm_messages.specs.declared.kind.Kind.TheVariants.{Dm1}
use Rattle.node_core.specs.declared.heard.Answer.{Answer as UnitAnswer}
use Rattle.node_core.specs.Beginning.{begins}
use Rattle.node_core.specs.Deed.{heard_of}
use Rattle.unit_trait.specs.declared.question.Question.{Question}
use Rattle.node_core.specs.Reaction.{reaction, node_after}
use Rattle.node_core.specs.NodeValue.{NodeValue}
use Rattle.node_core.specs.declared.heard.Heard.{Heard}
use Rattle.node_core.specs.declared.heard.Started.{Started}
use Rattle.node_core.specs.declared.heard.Started.TheVariants as started
use Rattle.node_core.specs.declared.heard.Withdraw.{Withdraw}
use Rattle.node_core.specs.declared.heard.Withdraw.TheVariants as withdraw
use Rattle.journal.specs.State.{State, unit_at, table_at}
use Rattle.journal.specs.Steps.{put_all, withdrawn_by, after_hearing, after_hear_of, after_starting, after_begin_of, after_carry_of, after_read, next_for, reacted, tagged, untagged, begins_session, session_message_after}
use Rattle.journal.specs.Journal.{GarageValue, Adds, IsSeated, state_after, state_of, tallied, tally_of, with_event}
use Rattle.journal.specs.declared.event.Event.{Event}
use Rattle.journal.specs.declared.tally.Tally.{Tally}
use Rattle.journal.specs.declared.event.Event.TheVariants.{Hear, Begin, Turned, Carry, Read}
use Rattle.garage.specs.Crew.{KeepsSeat, KeepsUnit}
use Rattle.garage.specs.Answers.{Hears, Begins, counted_hearing, counted_beginning}
use Rattle.garage.specs.declared.answers.HeardOne.{HeardOne}
use Rattle.garage.specs.declared.answers.HeardOne.TheVariants as heard
use Rattle.garage.specs.declared.answers.Begin.{Begin as Began}
use Rattle.garage.specs.declared.answers.Begin.TheVariants as began
use Rattle.garage.proofs.Events.{tally_more}

pub keeps_itself : (k : ℕ) (t : Traffic) → KeepsSeat k t t
keeps_itself k t = record { windows = refl; seats = refl; live = refl; name = refl }

pub keeps_both : (k : ℕ) (t t' t'' : Traffic) → KeepsSeat k t t' → KeepsSeat k t' t'' → KeepsSeat k t t''
keeps_both k t t' t'' h h' = record { windows = h'.windows ∙ h.windows; seats = h'.seats ∙ h.seats; live = h'.live ∙ h.live; name = h'.name ∙ h.name }

-- a change of a seat's queue or of what it has heard
keeps_changed : (k j : ℕ) (t : Traffic) (s : SeatValue) → k < length t.seats → s.live ≡ (seat_at t j).live → s.name ≡ (seat_at t j).name → KeepsSeat k t (with_seat t j s)
keeps_changed k j t s h live name =
    elim (same_or_not k j) [
      | inl same ↦
          let there : seat_at (with_seat t j s) k ≡ s = ap (λ (i : ℕ). seat_at (with_seat t j s) i) same ∙ get_or-set_same t.seats j s nobody (omega arith) in
          let was : seat_at t j ≡ seat_at t k = ap (λ (i : ℕ). seat_at t i) (sym same) in
          record { windows = refl; seats = length-set t.seats j s; live = ap (λ v. v.live) there ∙ (live ∙ ap (λ v. v.live) was); name = ap (λ v. v.name) there ∙ (name ∙ ap (λ v. v.name) was) }
      | inr n ↦
          let there : seat_at (with_seat t j s) k ≡ seat_at t k = get_or-set_other t.seats j k s nobody n in
          record { windows = refl; seats = length-set t.seats j s; live = ap (λ v. v.live) there; name = ap (λ v. v.name) there }
    ]

pub still_there : (k : ℕ) (t t' : Traffic) → KeepsSeat k t t' → k < length t.seats → k < length t'.seats
still_there k t t' h b = let e : length t'.seats ≡ length t.seats = h.seats in omega arith

keeps_put : (k j : ℕ) (qs : List QueuedFrame) (t : Traffic) → k < length t.seats → KeepsSeat k t (put_all j qs t)
keeps_put k j [] t h = keeps_itself k t
keeps_put k j (q ∷ qs) t h =
    let one = keeps_changed k j t (queueing q (seat_at t j)) h refl refl in
    keeps_both k t (queued j q t) (put_all j qs (queued j q t)) one (keeps_put k j qs (queued j q t) (still_there k t (queued j q t) one h))

keeps_withdrawn : (k j : ℕ) (which : Which) (t : Traffic) → k < length t.seats → KeepsSeat k t (withdrawn j which t)
keeps_withdrawn k j which t h = keeps_changed k j t (withdrawing which (seat_at t j)) h refl refl

keeps_withdrawn_by : (k j : ℕ) (w : Withdraw) (t : Traffic) → k < length t.seats → KeepsSeat k t (withdrawn_by j w t)
keeps_withdrawn_by k j withdraw.Keep t h = keeps_itself k t
keeps_withdrawn_by k j withdraw.Session t h = keeps_withdrawn k j which.Session t h
keeps_withdrawn_by k j withdraw.All t h = keeps_withdrawn k j which.All t h

-- hearing counts a frame, then withdraws, then queues
keeps_heard : (k j : ℕ) (w : Withdraw) (qs : List QueuedFrame) (t : Traffic) → k < length t.seats
    → KeepsSeat k t (put_all j qs (withdrawn_by j w (heard_more j 1 t)))
keeps_heard k j w qs t h =
    let one = keeps_changed k j t (hearing 1 (seat_at t j)) h refl refl in
    let there = still_there k t (heard_more j 1 t) one h in
    let two = keeps_withdrawn_by k j w (heard_more j 1 t) there in
    let there' = still_there k (heard_more j 1 t) (withdrawn_by j w (heard_more j 1 t)) two there in
    let three = keeps_put k j qs (withdrawn_by j w (heard_more j 1 t)) there' in
    keeps_both k t (heard_more j 1 t) (put_all j qs (withdrawn_by j w (heard_more j 1 t))) one
    (keeps_both k (heard_more j 1 t) (withdrawn_by j w (heard_more j 1 t)) (put_all j qs (withdrawn_by j w (heard_more j 1 t))) two three)

keeps_hearing : (k j : ℕ) (memory : MemoryValue) (h : Heard) (node : NodeValue) (s : State) → k < length s.traffic.seats
    → KeepsSeat k s.traffic (after_hearing j memory h node s).traffic
keeps_hearing k j memory h node s there =
    keeps_heard k j h.withdraw (map (tagged (length s.begun) (begins_session h.begun) (session_message_after (unit_at s j).session_message (length s.begun) h.begun)) h.put) s.traffic there

keeps_hear : (o : Option FrameValue) (k j : ℕ) (memory : MemoryValue) (answered : UnitAnswer) (s : State) → k < length s.traffic.seats
    → KeepsSeat k s.traffic (after_hear_of o j memory answered s).traffic
unfolding after_hear_of
keeps_hear None k j memory answered s h = keeps_itself k s.traffic
keeps_hear (Some f) k j memory answered s h =
    keeps_hearing k j memory (heard_of answered (reaction (unit_at s j).node memory answered f)) (node_after (unit_at s j).node memory answered f) s h

keeps_starting : (k : ℕ) (memory : MemoryValue) (st : Started) (s : State) → k < length s.traffic.seats
    → KeepsSeat k s.traffic (after_starting k memory st s).traffic
keeps_starting k memory started.Held s h = keeps_itself k s.traffic
keeps_starting k memory (started.Begun b put) s h = keeps_put k k (map (tagged (length s.begun) false (unit_at s k).session_message) put) s.traffic h

keeps_begin : (o : Option ℕ) (k : ℕ) (memory : MemoryValue) (s : State) → k < length s.traffic.seats
    → KeepsSeat k s.traffic (after_begin_of o k memory s).traffic
unfolding after_begin_of
keeps_begin None k memory s h = keeps_itself k s.traffic
keeps_begin (Some source) k memory s h = keeps_starting k memory (begins (unit_at s k).node.session Dm1 memory source) s h

-- a station's reaction
keeps_withdrawn_if : (b : Bool) (y k : ℕ) (t : Traffic) → k < length t.seats → KeepsSeat k t (if b then withdrawn y which.All t else t)
keeps_withdrawn_if true y k t h = keeps_withdrawn k y which.All t h
keeps_withdrawn_if false y k t h = keeps_itself k t

keeps_reacted : (y k : ℕ) (r : Reaction) (t : Traffic) → k < length t.seats → KeepsSeat k t (reacted y r t)
keeps_reacted y k r t h =
    let u : Traffic = if r.withdraw then withdrawn y which.All t else t in
    let one = keeps_withdrawn_if r.withdraw y k t h in
    keeps_both k t u (reacted y r t) one (keeps_put k y (map untagged r.put) u (still_there k t u one h))

keeps_read : (y k : ℕ) (r : Reading) (s : State) → k < length s.traffic.seats → KeepsSeat k s.traffic (after_read y r s).traffic
unfolding after_read
keeps_read y k r s h =
    let t = s.traffic in
    let one = keeps_changed k y t (hearing (passes r) (seat_at t y)) h refl refl in
    keeps_both k t (reading_taken y r t) (after_read y r s).traffic one (keeps_reacted y k (station_reaction (table_at s y) r) (reading_taken y r t) (still_there k t (reading_taken y r t) one h))

keeps_carried : (o : Option QueuedFrame) (k j : ℕ) (s : State) → k < length s.traffic.seats → KeepsSeat k s.traffic (after_carry_of o j s).traffic
unfolding after_carry_of
keeps_carried None k j s h = keeps_itself k s.traffic
keeps_carried (Some q) k j s h =
    let c = keeps_changed k j s.traffic (sending (seat_at s.traffic j)) h refl refl in
    record { windows = c.windows; seats = c.seats; live = c.live; name = c.name }

-- the same of garages
by_event : (k : ℕ) (g g' new : GarageValue) → g' ≡ new → KeepsUnit k g new → KeepsUnit k g g'
by_event k g g' new e h = let P : GarageValue → Type 0 = λ v. KeepsUnit k g v in subst P (sym e) h

-- where a unit hears, each unit keeps its seat
pub event_hears : (i : ℕ) (g : GarageValue) (k : ℕ) (memory : MemoryValue) (answered : UnitAnswer) (g' : GarageValue) → Adds g (Hear k memory answered) g' → i < length (state_of g).traffic.seats → KeepsUnit i g g'
unfolding state_after
event_hears i g k memory answered g' h there = by_event i g g' (with_event (Hear k memory answered) g) h.adds (keeps_hear (next_for (state_of g) k) i k memory answered (state_of g) there)

seat_hears : {X : Type 0} (i : ℕ) (g : GarageValue) (k : ℕ) (memory : MemoryValue) (answers : Question → Bool → X → Type 0) (unit : X) (h : HeardOne) (g' : GarageValue) (memory' : MemoryValue) (unit' : X)
    → Hears g k memory answers unit h g' memory' unit' → i < length (state_of g).traffic.seats → KeepsUnit i g g'
seat_hears i g k memory answers unit (heard.Frame f) g' memory' unit' h there = event_hears i g k memory h.1.0 g' h.1.1 there
seat_hears i g k memory answers unit heard.Nothing g' memory' unit' h there = by_event i g g' g h.1 (keeps_itself i (state_of g).traffic)

pub unit_hears : {X : Type 0} (g : GarageValue) (k : ℕ) (memory : MemoryValue) (answers : Question → Bool → X → Type 0) (unit : X) (h : HeardOne) (g' : GarageValue) (memory' : MemoryValue) (unit' : X)
    → Hears g k memory answers unit h g' memory' unit' → k < length (state_of g).traffic.seats → KeepsUnit k g g'
unit_hears g k memory answers unit h g' memory' unit' hears there = seat_hears k g k memory answers unit h g' memory' unit' hears there

-- so it does where the station reads, and where a frame is carried
pub unit_read : (y k : ℕ) (g g' : GarageValue) (r : Reading) → Adds g (Read y r) g' → k < length (state_of g).traffic.seats → KeepsUnit k g g'
unfolding state_after
unit_read y k g g' r h there = by_event k g g' (with_event (Read y r) g) h.adds (keeps_read y k r (state_of g) there)

pub unit_carried : (k j : ℕ) (g g' : GarageValue) → Adds g (Carry j) g' → k < length (state_of g).traffic.seats → KeepsUnit k g g'
unfolding state_after
unit_carried k j g g' h there = by_event k g g' (with_event (Carry j) g) h.adds (keeps_carried (slice_get (seat_at (state_of g).traffic j).queue 0) k j (state_of g) there)

pub unit_begins : (g : GarageValue) (k : ℕ) (memory : MemoryValue) (b : Began) (g' : GarageValue)
    → Begins g k memory b g' → k < length (state_of g).traffic.seats → KeepsUnit k g g'
unfolding state_after
unit_begins g k memory began.Begun g' h there =
    by_event k g g' (with_event (Begin k memory) g) h.adds (keeps_begin (unit_at (state_of g) k).node.claimer.held k memory (state_of g) there)
unit_begins g k memory began.Held g' h there = by_event k g g' g h.1 (keeps_itself k (state_of g).traffic)

pub unit_turned : (g : GarageValue) (k : ℕ) (g' : GarageValue) → Adds g (Turned k) g' → KeepsUnit k g g'
unfolding state_after
unit_turned g k g' h = by_event k g g' (with_event (Turned k) g) h.adds (keeps_itself k (state_of g).traffic)

-- such a unit is live as before
pub is_unit : (g g' : GarageValue) (k : ℕ) → KeepsUnit k g g' → IsUnit (state_of g).traffic k → IsUnit (state_of g').traffic k
is_unit g g' k h u = (subst (λ (l : List ℕ). length l ≤ k) (sym h.windows) u.0, still_there k (state_of g).traffic (state_of g').traffic h u.1, h.live ∙ u.2)

-- and stands on its seat with its new count of events
pub still_seated : (g g' : GarageValue) (k name before events : ℕ) → KeepsUnit k g g' → IsSeated g k name before
    → events ≡ (tally_of k g'.journal).events → IsSeated g' k name events
still_seated g g' k name before events h seated e = record {
  unit = is_unit g g' k h seated.unit;
  named = h.name ∙ seated.named;
  counted = sym e;
}

-- one event more of its own
more_events : (k : ℕ) (g g' : GarageValue) (e : Event) (n : ℕ) → ((t : Tally) → (tallied k e t).events ≡ t.events + 1) → Adds g e g' → (tally_of k g.journal).events ≡ n → (tally_of k g'.journal).events ≡ n + 1
more_events k g g' e n rule h is =
    ap (λ (v : GarageValue). (tally_of k v.journal).events) h.adds
    ∙ (ap (λ (t : Tally). t.events) (tally_more k e g.journal) ∙ (rule (tally_of k g.journal) ∙ ap (λ (i : ℕ). i + 1) is))

itself : (k : ℕ) → nat_eq k k ≡ true
itself k = eq-eqb k k refl

pub event_counted : (g : GarageValue) (k : ℕ) (memory : MemoryValue) (answered : UnitAnswer) (g' : GarageValue) (n : ℕ) → Adds g (Hear k memory answered) g' → (tally_of k g.journal).events ≡ n → (tally_of k g'.journal).events ≡ n + 1
event_counted g k memory answered g' n h is = more_events k g g' (Hear k memory answered) n (λ t. rw (itself k) refl) h is

pub hearing_counted : {X : Type 0} (g : GarageValue) (k : ℕ) (memory : MemoryValue) (answers : Question → Bool → X → Type 0) (unit : X) (h : HeardOne) (g' : GarageValue) (memory' : MemoryValue) (unit' : X) (n : ℕ)
    → Hears g k memory answers unit h g' memory' unit' → (tally_of k g.journal).events ≡ n → (tally_of k g'.journal).events ≡ counted_hearing n h
hearing_counted g k memory answers unit (heard.Frame f) g' memory' unit' n h is = event_counted g k memory h.1.0 g' n h.1.1 is
hearing_counted g k memory answers unit heard.Nothing g' memory' unit' n h is = ap (λ (v : GarageValue). (tally_of k v.journal).events) h.1 ∙ is

pub beginning_counted : (g : GarageValue) (k : ℕ) (memory : MemoryValue) (b : Began) (g' : GarageValue) (n : ℕ)
    → Begins g k memory b g' → (tally_of k g.journal).events ≡ n → (tally_of k g'.journal).events ≡ counted_beginning n b
beginning_counted g k memory began.Begun g' n h is = more_events k g g' (Begin k memory) n (λ t. rw (itself k) refl) h is
beginning_counted g k memory began.Held g' n h is = ap (λ (v : GarageValue). (tally_of k v.journal).events) h.1 ∙ is

pub turn_counted : (g : GarageValue) (k : ℕ) (g' : GarageValue) (n : ℕ) → Adds g (Turned k) g' → (tally_of k g.journal).events ≡ n → (tally_of k g'.journal).events ≡ n + 1
turn_counted g k g' n h is = more_events k g g' (Turned k) n (λ t. rw (itself k) refl) h is
