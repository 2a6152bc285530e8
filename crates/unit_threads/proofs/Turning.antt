-- A turn and a reading, event by event.
use Rattle.std.proofs.Common.{◌≡◌, ◌⊎◌, inl, inr, ℕ, zero, suc, ◌+◌, ◌<◌, ◌≤◌, ◌&&◌, Bool, true, false, not, List, [], ◌∷◌, Option, Some, None, Result, Ok, Err, OnErr, IsNone, IsSome, is_some, length, get_or, set, arith, refl, sym, ap, subst, ◌∙◌}
use Rattle.std.specs.Prelude.{if◌then◌else◌, slice_get}
use Rattle.std.proofs.lemmas.List.{length-set}
use Rattle.std.proofs.lemmas.List.Elements.{All-cons, All-nil}
use Rattle.can_frame.specs.FrameValue.{FrameValue}
use Rattle.fault_memory.specs.Memory.{MemoryValue}
use Rattle.bus_ledger.specs.BusValue.{SeatValue, Traffic, nobody, seat_at}
use Rattle.bus_ledger.specs.Changes.{sending}
use Rattle.bus_ledger.specs.declared.traffic.QueuedFrame.{QueuedFrame}
use Rattle.bus_ledger.specs.declared.traffic.Carried.{Carried}
use Rattle.bus_ledger.specs.declared.traffic.Carried.TheVariants as carried
use Rattle.unit_trait.specs.declared.question.Question.{Question}
use Rattle.journal.specs.State.{State}
use Rattle.journal.specs.Steps.{after_carry_of}
use Rattle.journal.specs.Journal.{Adds, GarageValue, IsSeated, state_after, state_of, tally_of, with_event}
use Rattle.journal.specs.declared.event.Event.{Event}
use Rattle.journal.specs.declared.event.Event.TheVariants.{Hear, Begin, Turned, Carry, Leave}
use Rattle.journal.specs.declared.tally.Tally.{Tally}
use Rattle.garage.specs.Answers.{Hears}
use Rattle.garage.specs.Carrying.{AddsCarry}
use Rattle.garage.specs.Causes.{held_at, has_open_dm1}
use Rattle.garage.specs.Hearing.{HasHeardAll}
use Rattle.garage.specs.declared.answers.HeardOne.{HeardOne}
use Rattle.garage.specs.declared.answers.HeardOne.TheVariants as heard
use Rattle.garage.proofs.Traffics.{set_live}
use Rattle.unit_threads.specs.Turns.{CannotCarry, CarriesAll, CarriesSome, GrowsBy, IsCarry, IsHearOf, IsOneTurn, IsPartOfTurn, IsTurnInSeat, KeepsSeats, LeavesAfterSome, LeftTurn, begun_by}

abbrev pub grows_none : (P : Event → Type 0) (g : GarageValue) → GrowsBy P g g
grows_none P g = record { events = []; kind = All-nil P; added = refl }

abbrev pub grows_more : (P : Event → Type 0) (a b c : GarageValue) (e : Event) → GrowsBy P a b → P e → c ≡ with_event e b → GrowsBy P a c
grows_more P a b c e g p h = record { events = e ∷ g.events; kind = All-cons P e g.events p g.kind; added = h ∙ ap (with_event e) g.added }

abbrev pub grown_same : (P : Event → Type 0) (a b c : GarageValue) → GrowsBy P a b → c ≡ b → GrowsBy P a c
grown_same P a b c g h = record { events = g.events; kind = g.kind; added = h ∙ g.added }

-- one more frame heard, if there was one
pub hears_more : (X : Type 0) (k j : ℕ) (a b c : GarageValue) (memory memory' : MemoryValue) (answers : Question → Bool → X → Type 0) (unit unit' : X) (h : HeardOne)
    → j ≡ k → GrowsBy (IsHearOf k) a b → Hears b j memory answers unit h c memory' unit' → GrowsBy (IsHearOf k) a c
hears_more X k j a b c memory memory' answers unit unit' (heard.Frame f) e g h = grows_more (IsHearOf k) a b c (Hear j memory h.1.0) g e h.1.1.adds
hears_more X k j a b c memory memory' answers unit unit' heard.Nothing e g h = grown_same (IsHearOf k) a b c g h.1

-- ---- beginning

choice : (A : Type 0) (held : Option ℕ) (opened : Bool) (x y : A) → (¬ IsNone held) → (¬ (IsSome held × (opened ≡ true))) → (if true && (is_some held && not opened) then x else y) ≡ x
choice A None opened x y some closed = absurd (some refl)
choice A (Some a) true x y some closed = absurd (closed (refl, refl))
choice A (Some a) false x y some closed = refl

other : (A : Type 0) (held : Option ℕ) (opened : Bool) (x y : A) → IsSome held × (opened ≡ true) → (if true && (is_some held && not opened) then x else y) ≡ y
other A None opened x y h = refl
other A (Some a) true x y h = refl
other A (Some a) false x y h = absurd (cc (h.1))

pub begun_case : (k : ℕ) (wants : Bool) (memory : MemoryValue) (old new : GarageValue) → wants ≡ true → (¬ IsNone (held_at old k)) → (¬ (IsSome (held_at old k) × (has_open_dm1 old k ≡ true)))
    → new ≡ with_event (Begin k memory) old → new ≡ begun_by k wants memory old
begun_case k wants memory old new w some closed e = rw w (e ∙ sym (choice GarageValue (held_at old k) (has_open_dm1 old k) (with_event (Begin k memory) old) old some closed))

pub held_case : (k : ℕ) (wants : Bool) (memory : MemoryValue) (old new : GarageValue) → wants ≡ true → IsSome (held_at old k) × (has_open_dm1 old k ≡ true) → new ≡ old → new ≡ begun_by k wants memory old
held_case k wants memory old new w h e = rw w (e ∙ sym (other GarageValue (held_at old k) (has_open_dm1 old k) (with_event (Begin k memory) old) old h))

unclaimed : (A : Type 0) (held : Option ℕ) (opened : Bool) (x y : A) → IsNone held → (if true && (is_some held && not opened) then x else y) ≡ y
unclaimed A None opened x y h = refl
unclaimed A (Some a) opened x y h = absurd (cc h)

pub unclaimed_case : (k : ℕ) (wants : Bool) (memory : MemoryValue) (old new : GarageValue) → wants ≡ true → IsNone (held_at old k) → new ≡ old → new ≡ begun_by k wants memory old
unclaimed_case k wants memory old new w h e = rw w (e ∙ sym (unclaimed GarageValue (held_at old k) (has_open_dm1 old k) (with_event (Begin k memory) old) old h))

pub unwanted_case : (k : ℕ) (wants : Bool) (memory : MemoryValue) (old new : GarageValue) → wants ≡ false → new ≡ old → new ≡ begun_by k wants memory old
unwanted_case k wants memory old new w e = rw w e

-- ---- carrying

-- so many frames were carried
pub record CarriedSoFar (n : ℕ) (old new : GarageValue) : Type 0 where
  pub carries : GrowsBy IsCarry old new
  pub count : length carries.events ≡ n

pub carried_none : (g : GarageValue) → CarriedSoFar 0 g g
carried_none g = record { carries = grows_none IsCarry g; count = refl }

pub carried_more : (a b c : GarageValue) (k n m : ℕ) → CarriedSoFar n a b → c ≡ with_event (Carry k) b → m ≡ n + 1 → CarriedSoFar m a c
carried_more a b c k n m g h e =
    record { carries = grows_more IsCarry a b c (Carry k) g.carries tt h; count = (let l = g.count in omega (arith, e, l)) }

-- a refused carry changed nothing
pub carried_some : (a b c : GarageValue) (n : ℕ) → CarriedSoFar n a b → n < 8 → c ≡ b → CarriesSome a c
carried_some a b c n g l e = record { carries = grown_same IsCarry a b c g.carries e; fewer = (let s = g.count in omega (arith, s, l)) }

-- nor did one that found nothing to carry
pub carried_until : (a b c : GarageValue) (n : ℕ) → CarriedSoFar n a b → n < 8 → c ≡ b → CannotCarry b → CarriesAll a c
carried_until a b c n g l e ended = record {
  carries = grown_same IsCarry a b c g.carries e;
  most = (let s = g.count in omega (arith, s, l));
  all = inr (subst CannotCarry (sym e) ended);
}

pub carried_eight : (a b : GarageValue) (n : ℕ) → CarriedSoFar n a b → n ≡ 8 → CarriesAll a b
carried_eight a b n g e = record { carries = g.carries; most = (let l = g.count in omega (arith, e, l)); all = inl (g.count ∙ e) }

-- a carry keeps who is seated
same_name : (xs : List SeatValue) (k j : ℕ) (y : SeatValue) → y.name ≡ (get_or xs k nobody).name → (get_or (set xs k y) j nobody).name ≡ (get_or xs j nobody).name
same_name [] k j y e = refl
same_name (x ∷ xs) zero zero y e = e
same_name (x ∷ xs) zero (suc j) y e = refl
same_name (x ∷ xs) (suc k) zero y e = refl
same_name (x ∷ xs) (suc k) (suc j) y e = same_name xs k j y e

record SameSeats (t u : Traffic) : Type 0 where
  windows : u.windows ≡ t.windows
  seats : length u.seats ≡ length t.seats
  live : (j : ℕ) → (seat_at u j).live ≡ (seat_at t j).live
  name : (j : ℕ) → (seat_at u j).name ≡ (seat_at t j).name

same_carry : (o : Option QueuedFrame) (k : ℕ) (s : State) → SameSeats s.traffic (after_carry_of o k s).traffic
unfolding after_carry_of
same_carry None k s = record { windows = refl; seats = refl; live = λ j. refl; name = λ j. refl }
same_carry (Some q) k s = record {
  windows = refl;
  seats = length-set s.traffic.seats k (sending (seat_at s.traffic k));
  live = λ j. set_live s.traffic.seats k j (sending (seat_at s.traffic k)) refl;
  name = λ j. same_name s.traffic.seats k j (sending (seat_at s.traffic k)) refl;
}

same_seats : (k : ℕ) (g : GarageValue) → SameSeats (state_of g).traffic (state_of (with_event (Carry k) g)).traffic
unfolding state_after
same_seats k g = same_carry (slice_get (seat_at (state_of g).traffic k).queue 0) k (state_of g)

same_tally : (k j : ℕ) (g : GarageValue) → tally_of j (with_event (Carry k) g).journal ≡ tally_of j g.journal
unfolding tally_of
same_tally k j g = refl

seated_still : (k : ℕ) (g : GarageValue) (j name events : ℕ) → IsSeated g j name events → IsSeated (with_event (Carry k) g) j name events
seated_still k g j name events s =
    let same = same_seats k g in
    let long = same.seats in
    let within = s.unit.1 in
    record {
      unit = (subst (λ (l : List ℕ). length l ≤ j) (sym same.windows) s.unit.0, omega (arith, long, within), same.live j ∙ s.unit.2);
      named = same.name j ∙ s.named;
      counted = ap (λ (t : Tally). t.events) (same_tally k j g) ∙ s.counted;
    }

pub keeps_none : (g : GarageValue) → KeepsSeats g g
keeps_none g = record { still = λ k name events s. s }

pub keeps_same : (a b c : GarageValue) → KeepsSeats a b → c ≡ b → KeepsSeats a c
keeps_same a b c h e = subst (λ (g : GarageValue). KeepsSeats a g) (sym e) h

pub keeps_more : (a b c : GarageValue) (k : ℕ) → KeepsSeats a b → c ≡ with_event (Carry k) b → KeepsSeats a c
keeps_more a b c k h e = keeps_same a (with_event (Carry k) b) c (record { still = λ j name events s. seated_still k b j name events (h.still j name events s) }) e

-- a carry that carried a frame
pub carry_goes_on : (a b c : GarageValue) (n : ℕ) (r : Carried) (seat : ℕ) (frame : FrameValue) → r ≡ carried.Frame seat frame → CarriedSoFar n a b → KeepsSeats a b → AddsCarry b r c
    → CarriedSoFar (n + 1) a c × KeepsSeats a c
carry_goes_on a b c n (carried.Frame k f) seat frame e g s h = (carried_more a b c k n (n + 1) g h.1.adds refl, keeps_more a b c k s h.1.adds)
carry_goes_on a b c n carried.Idle seat frame e g s h = absurd (cc e)
carry_goes_on a b c n carried.Waiting seat frame e g s h = absurd (cc e)

-- and one that found none to carry
pub carry_stops : (a b c : GarageValue) (n : ℕ) (r : Carried) → ((r ≡ carried.Idle) ⊎ (r ≡ carried.Waiting)) → CarriedSoFar n a b → KeepsSeats a b → n < 8 → AddsCarry b r c
    → CarriesAll a c × KeepsSeats a c
carry_stops a b c n (carried.Frame k f) e g s l h = elim e [ inl i ↦ absurd (cc i) | inr w ↦ absurd (cc w) ]
carry_stops a b c n carried.Idle e g s l h = (carried_until a b c n g l h.1 (inl h.0), keeps_same a b c s h.1)
carry_stops a b c n carried.Waiting e g s l h = (carried_until a b c n g l h.1 (inr h.0), keeps_same a b c s h.1)

pub on_err : {T E : Type 0} (r : Result T E) (P : Type 0) → P → OnErr r P
on_err (Ok v) P h = tt
on_err (Err e) P h = h

-- ---- a whole turn, and one that was cut short

pub turn_in_seat : (k j i : ℕ) (wants : Bool) (memory : MemoryValue) (a b c d : GarageValue) → GrowsBy (IsHearOf k) a b → HasHeardAll k b → j ≡ k → i ≡ k → c ≡ begun_by j wants memory b
    → Adds c (Turned i) d → IsTurnInSeat k wants memory a d
turn_in_seat k j i wants memory a b c d hears all e f begun turned = record {
  heard = b;
  hears = hears;
  all = all;
  turned = turned.adds ∙ ap (λ (x : ℕ). with_event (Turned x) c) f ∙ ap (with_event (Turned k)) (begun ∙ ap (λ (x : ℕ). begun_by x wants memory b) e);
}

pub begun_turn : (k j : ℕ) (wants : Bool) (memory : MemoryValue) (a b c d : GarageValue) → GrowsBy (IsHearOf k) a b → HasHeardAll k b → j ≡ k → c ≡ begun_by j wants memory b → d ≡ c → IsPartOfTurn k a d
begun_turn k j wants memory a b c d hears all e begun same = inr (inl (record {
  heard = b;
  wants = wants;
  memory = memory;
  hears = hears;
  all = all;
  begun = same ∙ (begun ∙ ap (λ (x : ℕ). begun_by x wants memory b) e);
}))

pub heard_turn : (k : ℕ) (a b c : GarageValue) → GrowsBy (IsHearOf k) a b → c ≡ b → IsPartOfTurn k a c
heard_turn k a b c hears e = inl (grown_same (IsHearOf k) a b c hears e)

pub left_turn : (k i j : ℕ) (a a' b c : GarageValue) → a' ≡ a → i ≡ k → j ≡ i → IsPartOfTurn i a' b → Adds b (Leave j) c → LeftTurn k a c
left_turn k i j a a' b c start seat same part left =
    let P : ℕ → Type 0 = λ x. IsPartOfTurn x a b in
    record {
      last = b;
      part = subst P seat (subst (λ (g : GarageValue). IsPartOfTurn i g b) start part);
      left = left.adds ∙ ap (λ (x : ℕ). with_event (Leave x) b) (same ∙ seat);
    }

pub left_after : (k j : ℕ) (wants : Bool) (memory : MemoryValue) (a b c : GarageValue) → IsTurnInSeat k wants memory a b → j ≡ k → LeavesAfterSome j b c → LeftTurn k a c
left_after k j wants memory a b c turn e leaves = record {
  last = leaves.last;
  part = inr (inr (record { turned = b; wants = wants; memory = memory; turn = turn; carries = leaves.carries }));
  left = leaves.left ∙ ap (λ (x : ℕ). with_event (Leave x) leaves.last) e;
}

pub one_turn_of : (k : ℕ) (wants : Bool) (memory : MemoryValue) (a b c : GarageValue) → IsTurnInSeat k wants memory a b → CarriesAll b c → IsOneTurn k wants memory a c
one_turn_of k wants memory a b c turn carries = record { turned = b; turn = turn; carries = carries }

pub leaves_after_some : (k : ℕ) (a b c : GarageValue) → CarriesSome a b → c ≡ with_event (Leave k) b → LeavesAfterSome k a c
leaves_after_some k a b c carries e = record { last = b; carries = carries; left = e }
