-- Stations that read in turn.
use Rattle.std.proofs.Common.{◌≡◌, ◌≢◌, ℕ, suc, zero, ◌+◌, ◌<◌, ◌≤◌, Bool, true, false, List, [], ◌∷◌, map, length, arith, refl, sym, ap, subst, ◌∙◌, inl, inr}
use Rattle.std.specs.Prelude.{if◌then◌else◌}
use Rattle.std.proofs.lemmas.List.{get_or-set_other}
use Rattle.bus_ledger.proofs.Numbers.{same_or_not}
use Rattle.bus_ledger.specs.BusValue.{SeatValue, Traffic, nobody, seat_at}
use Rattle.bus_ledger.specs.Changes.{hearing, queueing, with_seat, withdrawing, withdrawn}
use Rattle.bus_ledger.specs.Reception.{next_reading, passes, reading_taken}
use Rattle.bus_ledger.specs.declared.traffic.CarriedFrame.{CarriedFrame}
use Rattle.bus_ledger.specs.declared.traffic.QueuedFrame.{QueuedFrame}
use Rattle.bus_ledger.specs.declared.traffic.Which.TheVariants as which
use Rattle.can_frame.specs.declared.reading.Reading.{Reading}
use Rattle.can_frame.specs.declared.reading.Reading.TheVariants as reading
use Rattle.journal.specs.State.{State, table_at}
use Rattle.journal.specs.Steps.{after_read, put_all, reacted, untagged}
use Rattle.journal.specs.Journal.{Adds, GarageValue, state_after, state_of}
use Rattle.journal.specs.declared.event.Event.{Event}
use Rattle.journal.specs.declared.event.Event.TheVariants.{Join, Hear, Begin, Turned, Carry, Read, Ordered, Leave, Inject}
use Rattle.station_table.specs.Reactions.{station_reaction}
use Rattle.station_table.specs.declared.reaction.Reaction.{Reaction}
use Rattle.garage.specs.Answers.{Reads}
use Rattle.garage.specs.Crew.{AreUntouched, Comes, IsOfRound, LeadTo}
use Rattle.garage.specs.Hearing.{IsNoMemoryOrFullAt}
use Rattle.garage.specs.Rounds.{HasReadAll, HaveReadAll, IsReadOf, IsReadingCut, IsUnread, EachReads, TakesReadings}
use Rattle.garage.specs.Calls.{IsNoMemoryOrFull}
use Rattle.garage.specs.Room.{IsFull}
use Rattle.garage.specs.declared.error.GarageError.{GarageError}
use Rattle.garage.specs.declared.error.GarageError.TheVariants.{BookFull}
use Rattle.garage.proofs.Crew.{comes_both, comes_same, comes_settings, leads_as, took_untouched, untouched_both, untouched_none}
use Rattle.garage.proofs.HearLemmas.{want_at}

-- what station j reads next, and what unit j hears next, depends on the wire, on the windows and on what it has heard
pub record SameNext (j : ℕ) (t u : Traffic) : Type 0 where
  pub wire : u.wire ≡ t.wire
  pub windows : u.windows ≡ t.windows
  pub heard : (seat_at u j).heard ≡ (seat_at t j).heard

pub same_itself : (j : ℕ) (t : Traffic) → SameNext j t t
same_itself j t = record { wire = refl; windows = refl; heard = refl }

pub same_both : (j : ℕ) (t u v : Traffic) → SameNext j t u → SameNext j u v → SameNext j t v
same_both j t u v a b = record { wire = b.wire ∙ a.wire; windows = b.windows ∙ a.windows; heard = b.heard ∙ a.heard }

same_seat : (j y : ℕ) (t : Traffic) (s : SeatValue) → j ≢ y → SameNext j t (with_seat t y s)
same_seat j y t s n = record { wire = refl; windows = refl; heard = ap (λ (v : SeatValue). v.heard) (get_or-set_other t.seats y j s nobody n) }

same_put : (j y : ℕ) (qs : List QueuedFrame) (t : Traffic) → j ≢ y → SameNext j t (put_all y qs t)
same_put j y [] t n = same_itself j t
same_put j y (q ∷ qs) t n =
    same_both j t (with_seat t y (queueing q (seat_at t y))) (put_all y (q ∷ qs) t) (same_seat j y t (queueing q (seat_at t y)) n) (same_put j y qs (with_seat t y (queueing q (seat_at t y))) n)

same_withdrawn : (b : Bool) (j y : ℕ) (t : Traffic) → j ≢ y → SameNext j t (if b then withdrawn y which.All t else t)
same_withdrawn true j y t n = same_seat j y t (withdrawing which.All (seat_at t y)) n
same_withdrawn false j y t n = same_itself j t

same_reacted : (j y : ℕ) (r : Reaction) (t : Traffic) → j ≢ y → SameNext j t (reacted y r t)
same_reacted j y r t n =
    let u : Traffic = if r.withdraw then withdrawn y which.All t else t in
    same_both j t u (reacted y r t) (same_withdrawn r.withdraw j y t n) (same_put j y (map untagged r.put) u n)

same_read : (j y : ℕ) (r : Reading) (s : State) → j ≢ y → SameNext j s.traffic (after_read y r s).traffic
unfolding after_read
same_read j y r s n =
    let t = s.traffic in
    let u : Traffic = reading_taken y r t in
    same_both j t u (reacted y (station_reaction (table_at s y) r) u) (same_seat j y t (hearing (passes r) (seat_at t y)) n) (same_reacted j y (station_reaction (table_at s y) r) u n)

pub next_same : (j : ℕ) (t u : Traffic) → SameNext j t u → next_reading u j ≡ next_reading t j
next_same j t u s =
    let at : List CarriedFrame → List ℕ → ℕ → Reading = λ wire windows heard. next_reading (record { wire = wire; seats = with_heard j heard; windows = windows }) j in
    seen j u ∙ (ap (λ (w : List CarriedFrame). at w u.windows (seat_at u j).heard) s.wire
    ∙ (ap (λ (w : List ℕ). at t.wire w (seat_at u j).heard) s.windows ∙ (ap (at t.wire t.windows) s.heard ∙ sym (seen j t))))
  where
    with_heard : ℕ → ℕ → List SeatValue
    with_heard zero heard = record nobody { heard = heard } ∷ []
    with_heard (suc j) heard = nobody ∷ with_heard j heard

    heard_is : (j heard : ℕ) → (seat_at (record { wire = []; seats = with_heard j heard; windows = [] }) j).heard ≡ heard
    heard_is zero heard = refl
    heard_is (suc j) heard = heard_is j heard

    seen : (j : ℕ) (t : Traffic) → next_reading t j ≡ next_reading (record { wire = t.wire; seats = with_heard j (seat_at t j).heard; windows = t.windows }) j
    seen j t = (let e = heard_is j (seat_at t j).heard in cc)

-- a reading of one station leaves all other seats so
pub event_same : (j y : ℕ) (r : Reading) (g g' : GarageValue) → Adds g (Read y r) g' → j ≢ y → SameNext j (state_of g).traffic (state_of g').traffic
unfolding state_after
event_same j y r g g' h n =
    subst (λ (v : GarageValue). SameNext j (state_of g).traffic (state_of v).traffic) (sym h.adds) (same_read j y r (state_of g) n)

kind_same : (j y : ℕ) (e : Event) (g g' : GarageValue) → Adds g e g' → IsReadOf y e → j ≢ y → SameNext j (state_of g).traffic (state_of g').traffic
kind_same j y (Read z r) g g' h is n = event_same j z r g g' h (λ e. n (e ∙ is))
kind_same j y (Join seat name address) g g' h is n = absurd is
kind_same j y (Hear k memory answered) g g' h is n = absurd is
kind_same j y (Begin k memory) g g' h is n = absurd is
kind_same j y (Turned k) g g' h is n = absurd is
kind_same j y (Carry k) g g' h is n = absurd is
kind_same j y (Ordered z order) g g' h is n = absurd is
kind_same j y (Leave k) g g' h is n = absurd is
kind_same j y (Inject frame) g g' h is n = absurd is

kind_low : (y : ℕ) (e : Event) (g g' : GarageValue) → Adds g e g' → IsReadOf y e → y < length (state_of g).traffic.windows
kind_low y (Read z r) g g' h is = subst (λ (n : ℕ). n < length (state_of g).traffic.windows) is h.fits.0
kind_low y (Join seat name address) g g' h is = absurd is
kind_low y (Hear k memory answered) g g' h is = absurd is
kind_low y (Begin k memory) g g' h is = absurd is
kind_low y (Turned k) g g' h is = absurd is
kind_low y (Carry k) g g' h is = absurd is
kind_low y (Ordered z order) g g' h is = absurd is
kind_low y (Leave k) g g' h is = absurd is
kind_low y (Inject frame) g g' h is = absurd is

reads_same : (j y : ℕ) (es : List Event) (a b : GarageValue) → LeadTo (IsReadOf y) es a b → j ≢ y → SameNext j (state_of a).traffic (state_of b).traffic
unfolding LeadTo
reads_same j y [] a b h n = subst (λ (v : GarageValue). SameNext j (state_of a).traffic (state_of v).traffic) (sym h) (same_itself j (state_of a).traffic)
reads_same j y (e ∷ es) a b h n = same_both j (state_of a).traffic (state_of h.0).traffic (state_of b).traffic (reads_same j y es a h.0 h.1 n) (kind_same j y e h.0 b h.2 h.3 n)

-- and a unit's in any case, since units sit behind the stations
reads_stay : (j y : ℕ) (es : List Event) (a b : GarageValue) → LeadTo (IsReadOf y) es a b → length (state_of a).traffic.windows ≤ j → SameNext j (state_of a).traffic (state_of b).traffic
unfolding LeadTo
reads_stay j y [] a b h high = subst (λ (v : GarageValue). SameNext j (state_of a).traffic (state_of v).traffic) (sym h) (same_itself j (state_of a).traffic)
reads_stay j y (e ∷ es) a b h high =
    let before = reads_stay j y es a h.0 h.1 high in
    let w = ap length before.windows in
    let low = kind_low y e h.0 b h.2 h.3 in
    same_both j (state_of a).traffic (state_of h.0).traffic (state_of b).traffic before (kind_same j y e h.0 b h.2 h.3 (λ same. absurd (omega arith)))

-- all keep their seats
kind_untouched : (y : ℕ) (e : Event) (g g' : GarageValue) → Adds g e g' → IsReadOf y e → AreUntouched g g'
kind_untouched y (Read z r) g g' h is = λ k l. took_untouched z k g g' r h l
kind_untouched y (Join seat name address) g g' h is = absurd is
kind_untouched y (Hear k memory answered) g g' h is = absurd is
kind_untouched y (Begin k memory) g g' h is = absurd is
kind_untouched y (Turned k) g g' h is = absurd is
kind_untouched y (Carry k) g g' h is = absurd is
kind_untouched y (Ordered z order) g g' h is = absurd is
kind_untouched y (Leave k) g g' h is = absurd is
kind_untouched y (Inject frame) g g' h is = absurd is

reads_untouched : (y : ℕ) (es : List Event) (a b : GarageValue) → LeadTo (IsReadOf y) es a b → AreUntouched a b
unfolding LeadTo
reads_untouched y [] a b h = untouched_none a b h
reads_untouched y (e ∷ es) a b h = untouched_both a h.0 b (reads_untouched y es a h.0 h.1) (kind_untouched y e h.0 b h.2 h.3)

-- ---- one station

kind_of_round : (y : ℕ) (e : Event) → IsReadOf y e → IsOfRound e
kind_of_round y (Read z r) is = tt
kind_of_round y (Join seat name address) is = absurd is
kind_of_round y (Hear k memory answered) is = tt
kind_of_round y (Begin k memory) is = absurd is
kind_of_round y (Turned k) is = absurd is
kind_of_round y (Carry k) is = tt
kind_of_round y (Ordered z order) is = absurd is
kind_of_round y (Leave k) is = absurd is
kind_of_round y (Inject frame) is = absurd is

pub reads_none : (y : ℕ) (g : GarageValue) → TakesReadings y g g
unfolding LeadTo
reads_none y g = ([], refl)

reads_one : (y : ℕ) (r : Reading) (a b c : GarageValue) → TakesReadings y a b → Adds b (Read y r) c → TakesReadings y a c
unfolding LeadTo
reads_one y r a b c h one = (Read y r ∷ h.0, (b, h.1, one, refl))

reads_still : (y : ℕ) (a b c : GarageValue) → TakesReadings y a b → c ≡ b → TakesReadings y a c
reads_still y a b c h e = (h.0, subst (λ (v : GarageValue). LeadTo (IsReadOf y) h.0 a v) (sym e) h.1)

-- one more reading taken, if there was one
pub reads_more : (y : ℕ) (a b c : GarageValue) (r : Reading) → TakesReadings y a b → Reads y b r c → TakesReadings y a c
reads_more y a b c (reading.Frame f) g h = reads_one y (reading.Frame f) a b c g h
reads_more y a b c (reading.Gap n) g h = reads_one y (reading.Gap n) a b c g h
reads_more y a b c reading.Empty g h = reads_still y a b c g h.1

pub reads_come : (y : ℕ) (a b : GarageValue) → TakesReadings y a b → Comes a b
reads_come y a b h = (h.0, leads_as (IsReadOf y) IsOfRound h.0 a b (kind_of_round y) h.1)

-- ---- station after station

pub turn_none : (g : GarageValue) → EachReads 0 g g
unfolding EachReads
turn_none g = refl

pub turn_more : (n m : ℕ) (a b c : GarageValue) → m ≡ n + 1 → EachReads n a b → TakesReadings n b c → HasReadAll n c → EachReads m a c
unfolding EachReads
turn_more n m a b c e turn reads all =
    let next : suc n ≡ m = omega arith in
    subst (λ (k : ℕ). EachReads k a c) next (b, turn, reads, all)

pub turn_stays : (j n : ℕ) (a b : GarageValue) → EachReads n a b → length (state_of a).traffic.windows ≤ j → SameNext j (state_of a).traffic (state_of b).traffic
unfolding EachReads
turn_stays j zero a b h high = subst (λ (v : GarageValue). SameNext j (state_of a).traffic (state_of v).traffic) (sym h) (same_itself j (state_of a).traffic)
turn_stays j (suc n) a b h high =
    let before = turn_stays j n a h.0 h.1 high in
    let w = ap length before.windows in
    same_both j (state_of a).traffic (state_of h.0).traffic (state_of b).traffic before (reads_stay j n h.2.0 h.0 b h.2.1 (omega arith))

-- all that were in turn have read all
pub turn_read : (n : ℕ) (a b : GarageValue) → EachReads n a b → HaveReadAll n b
unfolding EachReads
turn_read zero a b h = λ y l. absurd (omega arith)
turn_read (suc n) a b h = λ y l. elim (same_or_not y n) [
  | inl z ↦ subst (λ (k : ℕ). HasReadAll k b) (sym z) h.3
  | inr z ↦ next_same y (state_of h.0).traffic (state_of b).traffic (reads_same y n h.2.0 h.0 b h.2.1 z) ∙ turn_read n a h.0 h.1 y (omega arith)
]

pub turn_untouched : (n : ℕ) (a b : GarageValue) → EachReads n a b → AreUntouched a b
unfolding EachReads
turn_untouched zero a b h = untouched_none a b h
turn_untouched (suc n) a b h = untouched_both a h.0 b (turn_untouched n a h.0 h.1) (reads_untouched n h.2.0 h.0 b h.2.1)

pub turn_comes : (n : ℕ) (a b : GarageValue) → EachReads n a b → Comes a b
unfolding EachReads
turn_comes zero a b h = comes_same a b h
turn_comes (suc n) a b h = comes_both a h.0 b (turn_comes n a h.0 h.1) (reads_come n h.0 b h.2)

pub cut_comes : (e : GarageError) (a b : GarageValue) → IsReadingCut e a b → Comes a b
cut_comes e a b h = comes_both a h.before b (turn_comes h.station a h.before h.turn) (reads_come h.station h.before b h.reads)

-- a station that was there still is
pub turn_there : (y n : ℕ) (a b : GarageValue) → EachReads n a b → y < length a.settings.stations → y < length b.settings.stations
turn_there y n a b h l = (let e = comes_settings a b (turn_comes n a b h) in rw e l)
