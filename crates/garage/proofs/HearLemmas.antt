-- Frames that a unit hears one after another.
use Rattle.std.proofs.Common.{ℕ, zero, suc, ◌≡◌, ◌≢◌, ◌+◌, ◌-◌, ◌<◌, ◌≤◌, List, [], ◌∷◌, Option, Some, None, IsSome, IfErr, OnErr, IsErrOf, Result, Ok, Err, get_or, set, map, length, refl, sym, ap, ◌∙◌, subst, arith, inl, inr}
use Rattle.std.specs.Prelude.{Bool, slice_get, ◌↔◌}
use Rattle.std.specs.Option.{option_map}
use Rattle.std.proofs.lemmas.List.{get_or-set_same, get_or-set_other}
use Rattle.can_frame.specs.FrameValue.{FrameValue}
use Rattle.fault_memory.specs.Memory.{MemoryValue}
use Rattle.unit_trait.specs.declared.question.Question.{Question}
use Rattle.bus_ledger.proofs.Numbers.{same_or_not}
use Rattle.bus_ledger.specs.BusValue.{SeatValue, Traffic, nobody, seat_at}
use Rattle.bus_ledger.specs.Changes.{hearing, heard_more, queued, queueing, withdrawing}
use Rattle.bus_ledger.specs.declared.traffic.CarriedFrame.{CarriedFrame}
use Rattle.bus_ledger.specs.declared.traffic.QueuedFrame.{QueuedFrame}
use Rattle.bus_ledger.specs.declared.traffic.Which.TheVariants as which
use Rattle.node_core.specs.Deed.{heard_of}
use Rattle.node_core.specs.Reaction.{question, reaction}
use Rattle.node_core.specs.declared.heard.Answer.{Answer as UnitAnswer}
use Rattle.node_core.specs.declared.heard.Answer.TheVariants.{NotAsked}
use Rattle.node_core.specs.declared.heard.Withdraw.{Withdraw}
use Rattle.node_core.specs.declared.heard.Withdraw.TheVariants as withdraw
use Rattle.journal.specs.State.{State, unit_at}
use Rattle.journal.specs.Steps.{after_hear_of, begins_session, next_for, put_all, session_message_after, tagged, withdrawn_by}
use Rattle.journal.specs.Journal.{GarageValue, Adds, IsSeated, state_after, state_of}
use Rattle.journal.specs.declared.event.Event.TheVariants.{Hear}
use Rattle.garage.specs.Answers.{Hears, Passes, PassesNext, counted_hearing}
use Rattle.garage.specs.Calls.{HearsFull, HearsNothing, IsNoMemoryOrFull}
use Rattle.garage.specs.declared.answers.HeardOne.{HeardOne}
use Rattle.garage.specs.declared.answers.HeardOne.TheVariants as heard
use Rattle.node_core.specs.Asking.{IsAsked, memory_answered}
use Rattle.garage.specs.Crew.{AreOthersUntouched, Comes, KeepsUnit, Sits, Sitting}
use Rattle.garage.specs.Hearing.{HasHeardAll, HearsFrame, HearsMany, HearsNext, HearsOut, IsHearingCut, IsLast, IsNoMemoryOrFullAt}
use Rattle.garage.specs.Room.{IsFull}
use Rattle.garage.specs.declared.error.GarageError.{GarageError}
use Rattle.garage.specs.declared.error.GarageError.TheVariants.{BookFull}
use Rattle.garage.proofs.Crew.{comes_both, comes_heard, comes_same, heard_untouched, others_both, others_same}
use Rattle.garage.proofs.LastFrames.{heard_all}
use Rattle.garage.proofs.SeatKept.{event_counted, event_hears, still_seated}

-- ---- what a seat has heard of the wire

-- the wire, and how much of it a seat has heard, stay
pub record StaysHeard (k : ℕ) (t t' : Traffic) : Type 0 where
  pub wire : t'.wire ≡ t.wire
  pub heard : (seat_at t' k).heard ≡ (seat_at t k).heard

pub stays_itself : (k : ℕ) (t : Traffic) → StaysHeard k t t
stays_itself k t = record { wire = refl; heard = refl }

pub stays_both : (k : ℕ) (t t' t'' : Traffic) → StaysHeard k t t' → StaysHeard k t' t'' → StaysHeard k t t''
stays_both k t t' t'' h h' = record { wire = h'.wire ∙ h.wire; heard = h'.heard ∙ h.heard }

same_heard : (xs : List SeatValue) (k j : ℕ) (y : SeatValue) → y.heard ≡ (get_or xs k nobody).heard → (get_or (set xs k y) j nobody).heard ≡ (get_or xs j nobody).heard
same_heard [] k j y e = refl
same_heard (x ∷ xs) zero zero y e = e
same_heard (x ∷ xs) zero (suc j) y e = refl
same_heard (x ∷ xs) (suc k) zero y e = refl
same_heard (x ∷ xs) (suc k) (suc j) y e = same_heard xs k j y e

stays_put : (k j : ℕ) (qs : List QueuedFrame) (t : Traffic) → StaysHeard k t (put_all j qs t)
stays_put k j [] t = stays_itself k t
stays_put k j (q ∷ qs) t = stays_both k t (queued j q t) (put_all j qs (queued j q t)) (record { wire = refl; heard = same_heard t.seats j k (queueing q (seat_at t j)) refl }) (stays_put k j qs (queued j q t))

stays_withdrawn_by : (k j : ℕ) (w : Withdraw) (t : Traffic) → StaysHeard k t (withdrawn_by j w t)
stays_withdrawn_by k j withdraw.Keep t = stays_itself k t
stays_withdrawn_by k j withdraw.Session t = record { wire = refl; heard = same_heard t.seats j k (withdrawing which.Session (seat_at t j)) refl }
stays_withdrawn_by k j withdraw.All t = record { wire = refl; heard = same_heard t.seats j k (withdrawing which.All (seat_at t j)) refl }

-- hearing counts a frame, then withdraws, then queues
stays_then : (k j : ℕ) (w : Withdraw) (qs : List QueuedFrame) (t : Traffic) → StaysHeard k t (put_all j qs (withdrawn_by j w t))
stays_then k j w qs t = stays_both k t (withdrawn_by j w t) (put_all j qs (withdrawn_by j w t)) (stays_withdrawn_by k j w t) (stays_put k j qs (withdrawn_by j w t))

-- so many more than that are heard, and the wire stays
pub record HearsMore (k n : ℕ) (t t' : Traffic) : Type 0 where
  pub wire : t'.wire ≡ t.wire
  pub heard : (seat_at t' k).heard ≡ (seat_at t k).heard + n

stays_other : (o : Option FrameValue) (k j : ℕ) (memory : MemoryValue) (answered : UnitAnswer) (s : State) → k ≢ j → StaysHeard k s.traffic (after_hear_of o j memory answered s).traffic
unfolding after_hear_of
stays_other None k j memory answered s n = stays_itself k s.traffic
stays_other (Some f) k j memory answered s n =
    let h = heard_of answered (reaction (unit_at s j).node memory answered f) in
    let qs = map (tagged (length s.begun) (begins_session h.begun) (session_message_after (unit_at s j).session_message (length s.begun) h.begun)) h.put in
    stays_both k s.traffic (heard_more j 1 s.traffic) (put_all j qs (withdrawn_by j h.withdraw (heard_more j 1 s.traffic)))
    (record { wire = refl; heard = ap (λ (v : SeatValue). v.heard) (get_or-set_other s.traffic.seats j k (hearing 1 (seat_at s.traffic j)) nobody n) })
    (stays_then k j h.withdraw qs (heard_more j 1 s.traffic))

more_own : (o : Option FrameValue) (f : FrameValue) (k : ℕ) (memory : MemoryValue) (answered : UnitAnswer) (s : State) → o ≡ Some f → k < length s.traffic.seats → HearsMore k 1 s.traffic (after_hear_of o k memory answered s).traffic
unfolding after_hear_of
more_own None f k memory answered s e there = absurd cc
more_own (Some x) f k memory answered s e there =
    let h = heard_of answered (reaction (unit_at s k).node memory answered x) in
    let qs = map (tagged (length s.begun) (begins_session h.begun) (session_message_after (unit_at s k).session_message (length s.begun) h.begun)) h.put in
    let then_so = stays_then k k h.withdraw qs (heard_more k 1 s.traffic) in
    let one : (seat_at (heard_more k 1 s.traffic) k).heard ≡ (seat_at s.traffic k).heard + 1 = ap (λ (v : SeatValue). v.heard) (get_or-set_same s.traffic.seats k (hearing 1 (seat_at s.traffic k)) nobody there) in
    record { wire = then_so.wire; heard = then_so.heard ∙ one }

-- where another seat hears
pub event_stays : (k j : ℕ) (memory : MemoryValue) (answered : UnitAnswer) (g g' : GarageValue) → Adds g (Hear j memory answered) g' → k ≢ j → StaysHeard k (state_of g).traffic (state_of g').traffic
unfolding state_after
event_stays k j memory answered g g' h n =
    subst (λ (v : GarageValue). StaysHeard k (state_of g).traffic (state_of v).traffic) (sym h.adds) (stays_other (next_for (state_of g) j) k j memory answered (state_of g) n)

-- where the seat itself does
event_more : (k : ℕ) (f : FrameValue) (memory : MemoryValue) (answered : UnitAnswer) (g g' : GarageValue) → Adds g (Hear k memory answered) g' → next_for (state_of g) k ≡ Some f → k < length (state_of g).traffic.seats → HearsMore k 1 (state_of g).traffic (state_of g').traffic
unfolding state_after
event_more k f memory answered g g' h next there =
    subst (λ (v : GarageValue). HearsMore k 1 (state_of g).traffic (state_of v).traffic) (sym h.adds) (more_own (next_for (state_of g) k) f k memory answered (state_of g) next there)

-- a seat's next frame is as it was
pub next_stays : (k : ℕ) (g g' : GarageValue) → StaysHeard k (state_of g).traffic (state_of g').traffic → next_for (state_of g') k ≡ next_for (state_of g) k
next_stays k g g' h =
    ap (λ (w : List CarriedFrame). option_map (λ (c : CarriedFrame). c.frame) (slice_get w (seat_at (state_of g').traffic k).heard)) h.wire
    ∙ ap (λ (n : ℕ). option_map (λ (c : CarriedFrame). c.frame) (slice_get (state_of g).traffic.wire n)) h.heard

-- the last frame of the wire too
pub last_stays : (f : FrameValue) (acceptance : _) (g g' : GarageValue) → (state_of g').traffic.wire ≡ (state_of g).traffic.wire → IsLast f acceptance g → IsLast f acceptance g'
last_stays f acceptance g g' same last = record {
  frame = ap (λ (w : List CarriedFrame). last_on w) same ∙ last.frame;
  tells = last.tells;
}
  where
    last_on : List CarriedFrame → Option FrameValue
    last_on w = option_map (λ (c : CarriedFrame). c.frame) (slice_get w (length w - 1))

-- ---- one frame, and many

-- what it comes to that a unit heard so many
pub record Hearing {P : Type 0} (sitting : P → Sitting) (n : ℕ) (g : GarageValue) (p : P) (g' : GarageValue) (p' : P) : Type 0 where
  pub seat : (sitting p').seat ≡ (sitting p).seat
  pub name : (sitting p').name ≡ (sitting p).name
  pub events : (sitting p').events ≡ (sitting p).events + n
  pub sits : Sits g' (sitting p')
  pub others : AreOthersUntouched (sitting p).seat g g'
  pub waits : (k : ℕ) → k ≢ (sitting p).seat → StaysHeard k (state_of g).traffic (state_of g').traffic
  pub more : HearsMore (sitting p).seat n (state_of g).traffic (state_of g').traffic
  pub comes : Comes g g'

hearing_none : {P : Type 0} (sitting : P → Sitting) (g : GarageValue) (p : P) → Sits g (sitting p) → Hearing sitting 0 g p g p
hearing_none sitting g p sits = record {
  seat = refl;
  name = refl;
  events = omega arith;
  sits = sits;
  others = others_same (sitting p).seat g g refl;
  waits = λ k n. stays_itself k (state_of g).traffic;
  more = record { wire = refl; heard = omega arith };
  comes = comes_same g g refl;
}

pub hearing_one : {P : Type 0} (sitting : P → Sitting) (asked : P → P → Option Question → UnitAnswer → Type 0) (f : FrameValue) (g : GarageValue) (p : P) (g' : GarageValue) (p' : P) → HearsFrame sitting asked f g p g' p' → Sits g (sitting p) → Hearing sitting 1 g p g' p'
hearing_one sitting asked f g p g' p' h sits =
    let s = sitting p in
    let s' = sitting p' in
    let there = sits.unit.1 in
    let keeps : KeepsUnit s.seat g g' = event_hears s.seat g s.seat s.memory h.answer g' h.adds there in
    let counted = event_counted g s.seat s.memory h.answer g' s.events h.adds sits.counted in
    let seated : IsSeated g' s.seat s.name s'.events = still_seated g g' s.seat s.name s.events s'.events keeps sits (h.counted ∙ sym counted) in
    record {
      seat = h.seat;
      name = h.name;
      events = h.counted;
      sits = subst (λ (k : ℕ). IsSeated g' k s'.name s'.events) (sym h.seat) (subst (λ (n : ℕ). IsSeated g' s.seat n s'.events) (sym h.name) seated);
      others = λ k n l. heard_untouched k g s.seat s.memory h.answer g' h.adds n l;
      waits = λ k n. event_stays k s.seat s.memory h.answer g g' h.adds n;
      more = event_more s.seat f s.memory h.answer g g' h.adds h.next there;
      comes = comes_heard g s.seat s.memory h.answer g' h.adds;
    }

hearing_then : {P : Type 0} (sitting : P → Sitting) (n : ℕ) (a b c : GarageValue) (p q r : P) → Hearing sitting n a p b q → Hearing sitting 1 b q c r → Hearing sitting (suc n) a p c r
hearing_then sitting n a b c p q r one two =
    let more : HearsMore (sitting p).seat 1 (state_of b).traffic (state_of c).traffic = subst (λ (k : ℕ). HearsMore k 1 (state_of b).traffic (state_of c).traffic) one.seat two.more in
    record {
      seat = two.seat ∙ one.seat;
      name = two.name ∙ one.name;
      events = (let e = one.events in let d = two.events in omega arith);
      sits = two.sits;
      others = others_both (sitting p).seat a b c one.others (λ k n l. two.others k (λ e. n (e ∙ one.seat)) l);
      waits = λ k n. stays_both k (state_of a).traffic (state_of b).traffic (state_of c).traffic (one.waits k n) (two.waits k (λ e. n (e ∙ one.seat)));
      more = record { wire = more.wire ∙ one.more.wire; heard = (let e = one.more.heard in let d = more.heard in omega arith) };
      comes = comes_both a b c one.comes two.comes;
    }

hearing_same : {P : Type 0} (sitting : P → Sitting) (n : ℕ) (a b b' : GarageValue) (p q q' : P) → Hearing sitting n a p b q → b' ≡ b → q' ≡ q → Hearing sitting n a p b' q'
hearing_same {P} sitting n a b b' p q q' h e d = subst (λ (v : GarageValue). Hearing sitting n a p v q') (sym e) (subst (λ (x : P). Hearing sitting n a p b x) (sym d) h)

pub hearing_many : {P : Type 0} (sitting : P → Sitting) (asked : P → P → Option Question → UnitAnswer → Type 0) (n : ℕ) (g : GarageValue) (p : P) (g' : GarageValue) (p' : P) → HearsMany sitting asked n g p g' p' → Sits g (sitting p) → Hearing sitting n g p g' p'
unfolding HearsMany
hearing_many sitting asked zero g p g' p' h sits = hearing_same sitting 0 g g g' p p p' (hearing_none sitting g p sits) h.0 h.1
hearing_many sitting asked (suc n) g p g' p' h sits =
    let before = hearing_many sitting asked n g p h.1 h.2 h.3 sits in
    hearing_then sitting n g h.1 g' p h.2 p' before (hearing_one sitting asked h.0 h.1 h.2 g' p' h.4 before.sits)

pub many_none : {P : Type 0} (sitting : P → Sitting) (asked : P → P → Option Question → UnitAnswer → Type 0) (g : GarageValue) (p : P) → HearsMany sitting asked 0 g p g p
unfolding HearsMany
many_none sitting asked g p = (refl, refl)

pub many_more : {P : Type 0} (sitting : P → Sitting) (asked : P → P → Option Question → UnitAnswer → Type 0) (n m : ℕ) (f : FrameValue) (a b c : GarageValue) (p q r : P) → m ≡ n + 1 → HearsMany sitting asked n a p b q → HearsFrame sitting asked f b q c r → HearsMany sitting asked m a p c r
unfolding HearsMany
many_more {P} sitting asked n m f a b c p q r e h one =
    let next : suc n ≡ m = omega arith in
    subst (λ (k : ℕ). HearsMany sitting asked k a p c r) next (f, b, q, h, one)

pub many_same : {P : Type 0} (sitting : P → Sitting) (asked : P → P → Option Question → UnitAnswer → Type 0) (n : ℕ) (a b b' : GarageValue) (p q q' : P) → HearsMany sitting asked n a p b q → b' ≡ b → q' ≡ q → HearsMany sitting asked n a p b' q'
many_same {P} sitting asked n a b b' p q q' h e d = subst (λ (v : GarageValue). HearsMany sitting asked n a p v q') (sym e) (subst (λ (x : P). HearsMany sitting asked n a p b x) (sym d) h)

-- so many, and then so many more
pub many_both : {P : Type 0} (sitting : P → Sitting) (asked : P → P → Option Question → UnitAnswer → Type 0) (n m k : ℕ) (a b c : GarageValue) (p q r : P) → k ≡ n + m → HearsMany sitting asked n a p b q → HearsMany sitting asked m b q c r → HearsMany sitting asked k a p c r
unfolding HearsMany
many_both {P} sitting asked n zero k a b c p q r e one two =
    let same : n ≡ k = omega arith in
    subst (λ (l : ℕ). HearsMany sitting asked l a p c r) same (many_same sitting asked n a b c p q r one two.0 two.1)
many_both sitting asked n (suc m) k a b c p q r e one two = many_more sitting asked (n + m) k two.0 a two.1 c p two.2 r (omega arith) (many_both sitting asked n m (n + m) a b two.1 p q two.2 refl one two.3) two.4

-- one more that was passed over
pub many_passed : {P : Type 0} (sitting : P → Sitting) (asked : P → P → Option Question → UnitAnswer → Type 0) (n m : ℕ) (a b c : GarageValue) (p q r : P) → m ≡ n + 1 → HearsMany sitting asked n a p b q → PassesNext b (sitting q).seat (sitting q).memory c
    → (sitting r).seat ≡ (sitting q).seat → (sitting r).name ≡ (sitting q).name → (sitting r).memory ≡ (sitting q).memory → (sitting r).events ≡ (sitting q).events + 1 → asked q r None NotAsked → HearsMany sitting asked m a p c r
many_passed {P} sitting asked n m a b c p q r e many passes seat name memory counted unasked =
    let node = (unit_at (state_of b) (sitting q).seat).node in
    let quiet : question node passes.0 ≡ None = passes.2.unasked in
    many_more sitting asked n m passes.0 a b c p q r e many (record {
      next = passes.1;
      answer = NotAsked;
      adds = passes.2.adds;
      memory = memory ∙ sym (ap (λ (o : Option Question). memory_answered o NotAsked (sitting q).memory) quiet);
      asked_it = subst (λ (o : Option Question). asked q r o NotAsked) (sym quiet) unasked;
      seat = seat;
      name = name;
      counted = counted;
    })

-- ---- why hearing was refused

pub want_at : (g g' : GarageValue) (e : GarageError) → g' ≡ g → ((e ≡ BookFull) → IsFull g) → (IsFull g → e ≡ BookFull) → IsNoMemoryOrFull e → IsNoMemoryOrFullAt g' e
want_at g g' e same full back want =
    subst (λ (v : GarageValue). IsNoMemoryOrFullAt v e) (sym same) (elim want [
      | inl b ↦ inl (b, full b)
      | inr o ↦ inr (o, λ f. (let b = back f in absurd cc))
    ])

pub some_of : {T : Type 0} (o : Option T) (x : T) → o ≡ Some x → IsSome o
some_of o x e = rw e refl

-- a hearing in mid-way that was refused
pub cut_here : {P : Type 0} (sitting : P → Sitting) (asked : P → P → Option Question → UnitAnswer → Type 0) (n : ℕ) (e : GarageError) (f : FrameValue) (a b b' : GarageValue) (p q q' : P)
    → HearsMany sitting asked n a p b q → Sits a (sitting p) → b' ≡ b → q' ≡ q → next_for (state_of b) (sitting q).seat ≡ Some f → IsNoMemoryOrFullAt b' e → IsHearingCut sitting asked n e a p b' q'
cut_here {P} sitting asked n e f a b b' p q q' h sits same kept next want =
    let so = hearing_many sitting asked n a p b q h sits in
    record {
      heard = many_same sitting asked n a b b' p q q' h same kept;
      left = some_of (next_for (state_of b') (sitting p).seat) f (ap (λ (v : GarageValue). next_for (state_of v) (sitting p).seat) same ∙ (ap (λ (k : ℕ). next_for (state_of b) k) (sym so.seat) ∙ next));
      want = want;
    }

-- where nothing is answered but a refusal there is a frame
pub cut_next : {P : Type 0} (sitting : P → Sitting) (asked : P → P → Option Question → UnitAnswer → Type 0) (n : ℕ) (e : GarageError) (a b b' : GarageValue) (p q q' : P)
    → HearsMany sitting asked n a p b q → Sits a (sitting p) → b' ≡ b → q' ≡ q → HearsNothing b (sitting q).seat (Err e) → HearsFull b (sitting q).seat (Err e) → IsNoMemoryOrFull e → IsHearingCut sitting asked n e a p b' q'
cut_next {P} sitting asked n e a b b' p q q' h sits same kept nothing full want =
    let next = there (next_for (state_of b) (sitting q).seat) (λ none. (let x = nothing.1 none in absurd cc)) in
    cut_here sitting asked n e next.0 a b b' p q q' h sits same kept next.1
    (want_at b b' e same (λ x. (full.0 (ap Err x)).1) (λ f. (let y = full.1 (some_of (next_for (state_of b) (sitting q).seat) next.0 next.1, f) in cc)) want)
  where
    there : {T : Type 0} (o : Option T) → (o ≡ None → ⊥) → (x : T) × (o ≡ Some x)
    there None f = absurd (f refl)
    there (Some x) f = (x, refl)

-- a next hearing, by what is heard
pub next_heard : {P X : Type 0} (sitting : P → Sitting) (asked : P → P → Option Question → UnitAnswer → Type 0) (h : HeardOne) (g g' : GarageValue) (p p' : P) (answers : Question → Bool → X → Type 0) (unit unit' : X)
    → Hears g (sitting p).seat (sitting p).memory answers unit h g' (sitting p').memory unit' → (sitting p').seat ≡ (sitting p).seat → (sitting p').name ≡ (sitting p).name
    → (sitting p').events ≡ counted_hearing (sitting p).events h → ((o : Option Question) (a : UnitAnswer) → IsAsked answers o a unit unit' → asked p p' o a)
    → (unit' ≡ unit → (sitting p').events ≡ (sitting p).events → p' ≡ p) → HearsNext sitting asked h g p g' p'
next_heard sitting asked (heard.Frame f) g g' p p' answers unit unit' hears seat name counted asks same = record {
  next = hears.0;
  answer = hears.1.0;
  adds = hears.1.1;
  memory = hears.1.2;
  asked_it = asks (question (unit_at (state_of g) (sitting p).seat).node f) hears.1.0 hears.1.3;
  seat = seat;
  name = name;
  counted = counted;
}
next_heard sitting asked heard.Nothing g g' p p' answers unit unit' hears seat name counted asks same = (hears.0, hears.1, same hears.3 counted)

-- a frame more
pub next_more : {P : Type 0} (sitting : P → Sitting) (asked : P → P → Option Question → UnitAnswer → Type 0) (n m : ℕ) (h : HeardOne) (f : FrameValue) (a b c : GarageValue) (p q r : P)
    → m ≡ n + 1 → HearsMany sitting asked n a p b q → HearsNext sitting asked h b q c r → h ≡ heard.Frame f → HearsMany sitting asked m a p c r
next_more sitting asked n m h f a b c p q r e many next is = many_more sitting asked n m f a b c p q r e many (subst (λ (x : HeardOne). HearsNext sitting asked x b q c r) is next)

-- none more
pub next_none : {P : Type 0} (sitting : P → Sitting) (asked : P → P → Option Question → UnitAnswer → Type 0) (n : ℕ) (h : HeardOne) (a b c : GarageValue) (p q r : P)
    → HearsMany sitting asked n a p b q → Sits a (sitting p) → HearsNext sitting asked h b q c r → h ≡ heard.Nothing → HearsMany sitting asked n a p c r × HasHeardAll (sitting p).seat c
next_none {P} sitting asked n h a b c p q r many sits next is =
    let none : HearsNext sitting asked heard.Nothing b q c r = subst (λ (x : HeardOne). HearsNext sitting asked x b q c r) is next in (
      many_same sitting asked n a b c p q r many none.1 none.2,
      subst (λ (v : GarageValue). HasHeardAll (sitting p).seat v) (sym none.1) (subst (λ (k : ℕ). HasHeardAll k b) (hearing_many sitting asked n a p b q many sits).seat none.0),
    )

-- ---- all that a unit had not heard

pub out_none : {P : Type 0} (sitting : P → Sitting) (asked : P → P → Option Question → UnitAnswer → Type 0) (g : GarageValue) (p : P) → length (state_of g).traffic.wire ≤ (seat_at (state_of g).traffic (sitting p).seat).heard → HearsOut sitting asked g p g p
out_none sitting asked g p l = record { count = 0; heard = many_none sitting asked g p; all = heard_all g (sitting p).seat l }

pub out_many : {P : Type 0} (sitting : P → Sitting) (asked : P → P → Option Question → UnitAnswer → Type 0) (n : ℕ) (g : GarageValue) (p : P) (g' : GarageValue) (p' : P)
    → HearsMany sitting asked n g p g' p' → Sits g (sitting p) → length (state_of g).traffic.wire ≤ (seat_at (state_of g).traffic (sitting p).seat).heard + n → HearsOut sitting asked g p g' p'
out_many sitting asked n g p g' p' h sits l =
    let so = hearing_many sitting asked n g p g' p' h sits in
    let w = ap length so.more.wire in
    let m = so.more.heard in
    record { count = n; heard = h; all = heard_all g' (sitting p).seat (omega arith) }

pub out_one : {P : Type 0} (sitting : P → Sitting) (asked : P → P → Option Question → UnitAnswer → Type 0) (f : FrameValue) (g : GarageValue) (p : P) (g' : GarageValue) (p' : P)
    → HearsFrame sitting asked f g p g' p' → Sits g (sitting p) → (seat_at (state_of g).traffic (sitting p).seat).heard + 1 ≡ length (state_of g).traffic.wire → HearsOut sitting asked g p g' p'
out_one sitting asked f g p g' p' h sits e = out_many sitting asked 1 g p g' p' (many_more sitting asked 0 1 f g g g' p p p' refl (many_none sitting asked g p) h) sits (omega arith)

-- one that heard so many, or all before
pub out_some : {P : Type 0} (sitting : P → Sitting) (asked : P → P → Option Question → UnitAnswer → Type 0) (n most : ℕ) (g : GarageValue) (p : P) (g' : GarageValue) (p' : P)
    → HearsMany sitting asked n g p g' p' → Sits g (sitting p) → n ≤ most → (n < most → HasHeardAll (sitting p).seat g') → length (state_of g).traffic.wire ≤ (seat_at (state_of g).traffic (sitting p).seat).heard + most → HearsOut sitting asked g p g' p'
out_some sitting asked n most g p g' p' h sits few all l = elim (same_or_not n most) [
  | inl same ↦ out_many sitting asked n g p g' p' h sits (omega arith)
  | inr less ↦ record { count = n; heard = h; all = all (omega arith) }
]

pub many_count : {P : Type 0} (sitting : P → Sitting) (asked : P → P → Option Question → UnitAnswer → Type 0) (n m : ℕ) (g : GarageValue) (p : P) (g' : GarageValue) (p' : P) → n ≡ m → HearsMany sitting asked n g p g' p' → HearsMany sitting asked m g p g' p'
many_count sitting asked n m g p g' p' e h = subst (λ (k : ℕ). HearsMany sitting asked k g p g' p') e h

-- passing over is hearing that frame
pub passes_this : (v w : GarageValue) (k : ℕ) (m : MemoryValue) (f : FrameValue) → PassesNext v k m w → next_for (state_of v) k ≡ Some f → Passes v k m f w
passes_this v w k m f h next =
    let e : h.0 ≡ f = (let a = sym h.1 ∙ next in cc) in
    subst (λ (x : FrameValue). Passes v k m x w) e h.2
