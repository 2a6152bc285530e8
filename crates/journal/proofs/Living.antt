-- Whatever happens, frames from outside too, each station's seat is live.
use Rattle.std.proofs.Common.{ℕ, suc, zero, ◌≡◌, ◌<◌, List, [], ◌∷◌, ◌++◌, map, length, get_or, set, Bool, true, false, Option, Some, None, Result, Ok, Err, if◌then◌else◌, refl, sym, ap, ◌∙◌, subst, arith}
use Rattle.std.proofs.lemmas.List.{get_or-set_other, get_or_append_left}
use Rattle.can_frame.specs.FrameValue.{FrameValue}
use Rattle.can_frame.specs.declared.reading.Reading.{Reading}
use Rattle.fault_memory.specs.Memory.{MemoryValue}
use Rattle.dm_messages.specs.declared.kind.Kind.TheVariants.{Dm1}
use Rattle.bus_ledger.specs.BusValue.{IsStation, SeatValue, Traffic, nobody, seat_at}
use Rattle.bus_ledger.proofs.Sounds.{live_within}
use Rattle.bus_ledger.specs.Changes.{hearing, heard_more, leaving, newcomer, queued, queueing, sending, with_seat, withdrawing, withdrawn}
use Rattle.bus_ledger.specs.Reception.{passes, reading_taken as taken}
use Rattle.bus_ledger.specs.declared.traffic.QueuedFrame.{QueuedFrame}
use Rattle.bus_ledger.specs.declared.traffic.Which.TheVariants as which
use Rattle.node_core.specs.Beginning.{begins}
use Rattle.node_core.specs.Deed.{heard_of}
use Rattle.node_core.specs.NodeValue.{NodeValue}
use Rattle.node_core.specs.Reaction.{reaction as node_reaction, node_after}
use Rattle.node_core.specs.declared.heard.Answer.{Answer as UnitAnswer}
use Rattle.node_core.specs.declared.heard.Heard.{Heard}
use Rattle.node_core.specs.declared.heard.Started.{Started}
use Rattle.node_core.specs.declared.heard.Started.TheVariants as started
use Rattle.node_core.specs.declared.heard.Withdraw.{Withdraw}
use Rattle.node_core.specs.declared.heard.Withdraw.TheVariants as withdraw
use Rattle.station_table.specs.Reactions.{station_reaction}
use Rattle.station_table.specs.declared.error.StationError.{StationError}
use Rattle.station_table.specs.declared.reaction.Reaction.{Reaction}
use Rattle.journal.specs.State.{Settings, State, table_at, unit_at}
use Rattle.journal.specs.Steps.{after, after_join, after_hear_of, after_begin_of, after_starting, after_hearing, after_carry_of, after_read, after_order_of, after_leave, after_inject, next_for, order_answer, put_all, begins_session, reacted, session_message_after, tagged, untagged, withdrawn_by}
use Rattle.journal.specs.Fits.{Fits}
use Rattle.journal.specs.Journal.{AllFit, state_after}
use Rattle.journal.proofs.Readings.{stationed}
use Rattle.journal.proofs.Starting.{seat_started}
use Rattle.journal.specs.declared.event.Event.{Event}
use Rattle.journal.specs.declared.event.Event.TheVariants.{Join, Hear, Begin, Turned, Carry, Read, Ordered, Leave, Inject}

-- every seat is as live as it was
abbrev SameLives : Traffic → Traffic → Type 0
SameLives t u = (j : ℕ) → (seat_at u j).live ≡ (seat_at t j).live

at_place : (xs : List SeatValue) (k j : ℕ) (y : SeatValue) → y.live ≡ (get_or xs k nobody).live → (get_or (set xs k y) j nobody).live ≡ (get_or xs j nobody).live
at_place [] k j y e = refl
at_place (x ∷ xs) zero zero y e = e
at_place (x ∷ xs) zero (suc j) y e = refl
at_place (x ∷ xs) (suc k) zero y e = refl
at_place (x ∷ xs) (suc k) (suc j) y e = at_place xs k j y e

seat_lives : (t : Traffic) (k : ℕ) (v : SeatValue) → v.live ≡ (seat_at t k).live → SameLives t (with_seat t k v)
seat_lives t k v e j = at_place t.seats k j v e

put_lives : (k : ℕ) (qs : List QueuedFrame) (t : Traffic) → SameLives t (put_all k qs t)
put_lives k [] t j = refl
put_lives k (q ∷ qs) t j = put_lives k qs (queued k q t) j ∙ seat_lives t k (queueing q (seat_at t k)) refl j

withdrawn_lives : (k : ℕ) (w : Withdraw) (t : Traffic) → SameLives t (withdrawn_by k w t)
withdrawn_lives k withdraw.Keep t j = refl
withdrawn_lives k withdraw.Session t j = seat_lives t k (withdrawing which.Session (seat_at t k)) refl j
withdrawn_lives k withdraw.All t j = seat_lives t k (withdrawing which.All (seat_at t k)) refl j

reacted_lives : (y : ℕ) (r : Reaction) (t : Traffic) → SameLives t (reacted y r t)
reacted_lives y r t j = put_lives y (map untagged r.put) (if r.withdraw then withdrawn y which.All t else t) j ∙ go r.withdraw
  where
    go : (b : Bool) → (seat_at (if b then withdrawn y which.All t else t) j).live ≡ (seat_at t j).live
    go true = seat_lives t y (withdrawing which.All (seat_at t y)) refl j
    go false = refl

heard_lives : (k : ℕ) (w : Withdraw) (qs : List QueuedFrame) (t : Traffic) → SameLives t (put_all k qs (withdrawn_by k w (heard_more k 1 t)))
heard_lives k w qs t j =
    put_lives k qs (withdrawn_by k w (heard_more k 1 t)) j ∙ (withdrawn_lives k w (heard_more k 1 t) j ∙ seat_lives t k (hearing 1 (seat_at t k)) refl j)

hearing_lives : (k : ℕ) (memory : MemoryValue) (h : Heard) (node : NodeValue) (s : State) → SameLives s.traffic (after_hearing k memory h node s).traffic
hearing_lives k memory h node s =
    heard_lives k h.withdraw (map (tagged (length s.begun) (begins_session h.begun) (session_message_after (unit_at s k).session_message (length s.begun) h.begun)) h.put) s.traffic

hear_lives : (o : Option FrameValue) (k : ℕ) (memory : MemoryValue) (answered : UnitAnswer) (s : State) → SameLives s.traffic (after_hear_of o k memory answered s).traffic
unfolding after_hear_of
hear_lives None k memory answered s j = refl
hear_lives (Some f) k memory answered s j =
    hearing_lives k memory (heard_of answered (node_reaction (unit_at s k).node memory answered f)) (node_after (unit_at s k).node memory answered f) s j

starting_lives : (k : ℕ) (memory : MemoryValue) (b : Started) (s : State) → SameLives s.traffic (after_starting k memory b s).traffic
starting_lives k memory started.Held s j = refl
starting_lives k memory (started.Begun b put) s j = put_lives k (map (tagged (length s.begun) false (unit_at s k).session_message) put) s.traffic j

begin_lives : (o : Option ℕ) (k : ℕ) (memory : MemoryValue) (s : State) → SameLives s.traffic (after_begin_of o k memory s).traffic
unfolding after_begin_of
begin_lives None k memory s j = refl
begin_lives (Some source) k memory s j = starting_lives k memory (begins (unit_at s k).node.session Dm1 memory source) s j

carry_lives : (o : Option QueuedFrame) (k : ℕ) (s : State) → SameLives s.traffic (after_carry_of o k s).traffic
unfolding after_carry_of
carry_lives None k s j = refl
carry_lives (Some q) k s j = at_place s.traffic.seats k j (sending (seat_at s.traffic k)) refl

read_lives : (y : ℕ) (x : Reading) (s : State) → SameLives s.traffic (after_read y x s).traffic
unfolding after_read
read_lives y x s j = reacted_lives y (station_reaction (table_at s y) x) (taken y x s.traffic) j ∙ seat_lives s.traffic y (hearing (passes x) (seat_at s.traffic y)) refl j

order_lives : (y : ℕ) (o : Result Reaction StationError) (s : State) → SameLives s.traffic (after_order_of y o s).traffic
unfolding after_order_of
order_lives y (Err e) s j = refl
order_lives y (Ok r) s j = reacted_lives y r s.traffic j

-- a seat that goes is a unit's
leave_lives : (y k : ℕ) (s : State) → y < k → (seat_at (after_leave k s).traffic y).live ≡ (seat_at s.traffic y).live
unfolding after_leave
leave_lives y k s l = ap (λ (v : SeatValue). v.live) (get_or-set_other s.traffic.seats k y (leaving (seat_at s.traffic k)) nobody (λ e. absurd (omega (arith, e, l))))

-- one that comes is the last
join_lives : (y name address : ℕ) (s : State) → (seat_at s.traffic y).live ≡ true → (seat_at (after_join name address s).traffic y).live ≡ true
unfolding after_join
join_lives y name address s live =
    seat_lives (record s.traffic { seats = s.traffic.seats ++ newcomer name (length s.traffic.wire) ∷ [] }) (length s.traffic.seats) _ refl y
    ∙ (ap (λ (v : SeatValue). v.live) (get_or_append_left s.traffic.seats (newcomer name (length s.traffic.wire) ∷ []) nobody y (live_within s.traffic.seats y live)) ∙ live)

still_lives : (e : Event) (s : State) (y : ℕ) → Fits s e → IsStation s.traffic y → (seat_at s.traffic y).live ≡ true → (seat_at (after e s).traffic y).live ≡ true
unfolding after_inject
still_lives (Join seat name address) s y f h live = join_lives y name address s live
still_lives (Hear k memory answered) s y f h live = hear_lives (next_for s k) k memory answered s y ∙ live
still_lives (Begin k memory) s y f h live = begin_lives (unit_at s k).node.claimer.held k memory s y ∙ live
still_lives (Turned k) s y f h live = live
still_lives (Carry k) s y f h live = carry_lives _ k s y ∙ live
still_lives (Read j x) s y f h live = read_lives j x s y ∙ live
still_lives (Ordered j o) s y f h live = order_lives j (order_answer (table_at s j) o) s y ∙ live
still_lives (Leave k) s y f h live = leave_lives y k s (let l = f.0 in omega arith) ∙ live
still_lives (Inject x) s y f h live = live

pub stations_live : (r : Settings) (journal : List Event) (y : ℕ) → AllFit r journal → y < length r.stations → (seat_at (state_after r journal).traffic y).live ≡ true
unfolding state_after AllFit
stations_live r [] y f h = ap (λ (v : SeatValue). v.live) (seat_started r y h)
stations_live r (e ∷ older) y f h =
    still_lives e (state_after r older) y f.0 (subst (λ (n : ℕ). y < n) (sym (stationed r older f.1).windows) h) (stations_live r older y f.1 h)
