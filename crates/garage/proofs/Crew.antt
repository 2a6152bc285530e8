-- Many units in their seats: each step of a round leaves the others there.
use Rattle.std.proofs.Common.{ℕ, zero, suc, ◌≡◌, ◌≢◌, ◌+◌, ◌-◌, ◌<◌, ◌⊎◌, nat_eq, ne_eqb, false, List, [], ◌∷◌, ◌++◌, append_assoc, Some, get_or, set, slice_get, length, refl, sym, ap, ◌∙◌, subst, arith, inl, inr}
use Rattle.std.proofs.lemmas.Option.{slice_get_within, slice_get-get_or}
use Rattle.bus_ledger.proofs.Numbers.{same_or_not}
use Rattle.bus_ledger.specs.declared.traffic.Carried.{Carried}
use Rattle.bus_ledger.specs.declared.traffic.Carried.TheVariants as carried
use Rattle.bus_model.proofs.Worlds.{slice_get_set}
use Rattle.can_frame.specs.declared.reading.Reading.{Reading}
use Rattle.can_frame.specs.declared.reading.Reading.TheVariants as reading
use Rattle.fault_memory.specs.Memory.{MemoryValue}
use Rattle.dm_messages.specs.declared.shown.Shown.{Shown}
use Rattle.journal.specs.Journal.{GarageValue, Adds, listed_at, state_of, tally_of}
use Rattle.journal.specs.Promises.{KeepsLists}
use Rattle.journal.specs.State.{Settings}
use Rattle.journal.specs.declared.event.Event.{Event}
use Rattle.journal.specs.declared.event.Event.TheVariants.{Hear, Carry, Read}
use Rattle.journal.specs.declared.tally.Tally.{Tally}
use Rattle.journal.proofs.Lifted.{keeps_adds, keeps_same}
use Rattle.garage.specs.Answers.{Reads}
use Rattle.garage.specs.Carrying.{AddsCarry}
use Rattle.garage.specs.Crew.{AreOthersUntouched, AreSeated, AreUntouched, Comes, IsOfRound, IsUntouched, KeepsUnit, LeadTo, Sits, Sitting}
use Rattle.node_core.specs.declared.heard.Answer.{Answer as UnitAnswer}
use Rattle.garage.proofs.SeatKept.{event_hears, keeps_both, keeps_itself, still_seated, still_there, unit_carried, unit_read}
use Rattle.garage.proofs.Events.{tally_more}
use Rattle.garage.proofs.Traffics.{within_or_past}

pub untouched_same : (k : ℕ) (g g' : GarageValue) → g' ≡ g → IsUntouched k g g'
untouched_same k g g' e = record {
  keeps = subst (λ (v : GarageValue). KeepsUnit k g v) (sym e) (keeps_itself k (state_of g).traffic);
  counted = ap (λ (v : GarageValue). (tally_of k v.journal).events) e;
}

-- one event more, of another seat or of none
untouched_by : (k : ℕ) (g g' : GarageValue) (e : Event) → Adds g e g' → KeepsUnit k g g' → tally_of k (e ∷ g.journal) ≡ tally_of k g.journal → IsUntouched k g g'
untouched_by k g g' e adds keeps tally = record {
  keeps = keeps;
  counted = ap (λ (v : GarageValue). (tally_of k v.journal).events) adds.adds ∙ ap (λ (t : Tally). t.events) tally;
}

pub heard_untouched : (k : ℕ) (g : GarageValue) (j : ℕ) (memory : MemoryValue) (answered : UnitAnswer) (g' : GarageValue) → Adds g (Hear j memory answered) g' → k ≢ j → k < length (state_of g).traffic.seats → IsUntouched k g g'
heard_untouched k g j memory answered g' h n there =
    let t : nat_eq j k ≡ false = ne_eqb j k (λ e. n (sym e)) in
    untouched_by k g g' (Hear j memory answered) h (event_hears k g j memory answered g' h there)
    (tally_more k (Hear j memory answered) g.journal ∙ rw t refl)

pub took_untouched : (y k : ℕ) (g g' : GarageValue) (r : Reading) → Adds g (Read y r) g' → k < length (state_of g).traffic.seats → IsUntouched k g g'
took_untouched y k g g' r h there = untouched_by k g g' (Read y r) h (unit_read y k g g' r h there) (tally_more k (Read y r) g.journal)

pub read_untouched : (y k : ℕ) (g g' : GarageValue) (r : Reading) → Reads y g r g' → k < length (state_of g).traffic.seats → IsUntouched k g g'
read_untouched y k g g' reading.Empty h there = untouched_same k g g' h.1
read_untouched y k g g' (reading.Frame f) h there = took_untouched y k g g' (reading.Frame f) h there
read_untouched y k g g' (reading.Gap n) h there = took_untouched y k g g' (reading.Gap n) h there

pub carried_untouched : (k : ℕ) (g g' : GarageValue) (c : Carried) → AddsCarry g c g' → k < length (state_of g).traffic.seats → IsUntouched k g g'
carried_untouched k g g' (carried.Frame j f) h there = untouched_by k g g' (Carry j) h.1 (unit_carried k j g g' h.1 there) (tally_more k (Carry j) g.journal)
carried_untouched k g g' carried.Idle h there = untouched_same k g g' h.1
carried_untouched k g g' carried.Waiting h there = untouched_same k g g' h.1

pub untouched_none : (g g' : GarageValue) → g' ≡ g → AreUntouched g g'
untouched_none g g' e = λ k l. untouched_same k g g' e

pub untouched_both : (a b c : GarageValue) → AreUntouched a b → AreUntouched b c → AreUntouched a c
untouched_both a b c h h' = λ k l.
    (let one = h k l in
    let two = h' k (still_there k (state_of a).traffic (state_of b).traffic one.keeps l) in
    record {
      keeps = keeps_both k (state_of a).traffic (state_of b).traffic (state_of c).traffic one.keeps two.keeps;
      counted = two.counted ∙ one.counted;
    })

-- ---- all but one

pub others_same : (j : ℕ) (g g' : GarageValue) → g' ≡ g → AreOthersUntouched j g g'
others_same j g g' e = λ k n l. untouched_same k g g' e

pub others_both : (j : ℕ) (a b c : GarageValue) → AreOthersUntouched j a b → AreOthersUntouched j b c → AreOthersUntouched j a c
others_both j a b c h h' = λ k n l.
    (let one = h k n l in
    let two = h' k n (still_there k (state_of a).traffic (state_of b).traffic one.keeps l) in
    record {
      keeps = keeps_both k (state_of a).traffic (state_of b).traffic (state_of c).traffic one.keeps two.keeps;
      counted = two.counted ∙ one.counted;
    })

-- ---- all of them

sits_still : (g g' : GarageValue) (s : Sitting) → IsUntouched s.seat g g' → Sits g s → Sits g' s
sits_still g g' s u h = still_seated g g' s.seat s.name s.events s.events u.keeps h (sym (u.counted ∙ h.counted))

-- a step that is no unit's leaves all in their seats
pub crew_still : {P : Type 0} (sitting : P → Sitting) (g g' : GarageValue) (us : List P) → AreUntouched g g' → AreSeated sitting g us → AreSeated sitting g' us
crew_still sitting g g' us all seated = record {
  each = λ i p e. (let s = seated.each i p e in sits_still g g' (sitting p) (all (sitting p).seat s.unit.1) s);
  ordered = seated.ordered;
}

before_or_after : (i j : ℕ) → j ≢ i → (i < j) ⊎ (j < i)
before_or_after i j n =
    elim (within_or_past i j) [
      | inl l ↦ inl l
      | inr l ↦ inr (elim (same_or_not j i) [ inl e ↦ absurd (n e) | inr m ↦ (omega arith) ])
    ]

-- the seats of two, not only of neighbours, stand in order
in_order : {P : Type 0} (sitting : P → Sitting) (g : GarageValue) (us : List P) (i n j : ℕ) (p q : P) → AreSeated sitting g us → j ≡ suc (n + i) → slice_get us i ≡ Some p → slice_get us j ≡ Some q → (sitting p).seat < (sitting q).seat
in_order sitting g us i zero j p q seated e at_i at_j =
    let next : suc i ≡ j = omega arith in
    seated.ordered i p q at_i (ap (λ (x : ℕ). slice_get us x) next ∙ at_j)
in_order sitting g us i (suc n) j p q seated e at_i at_j =
    let m : ℕ = suc (n + i) in
    let next : suc m ≡ j = omega arith in
    let l : j < length us = slice_get_within us j q at_j in
    let r = get_or us m p in
    let at : slice_get us m ≡ Some r = slice_get-get_or us m p (omega arith) in
    let low = in_order sitting g us i n m p r seated refl at_i at in
    let high = seated.ordered m r q at (ap (λ (x : ℕ). slice_get us x) next ∙ at_j) in
    omega arith

ordered_seats : {P : Type 0} (sitting : P → Sitting) (g : GarageValue) (us : List P) (i j : ℕ) (p q : P) → AreSeated sitting g us → i < j → slice_get us i ≡ Some p → slice_get us j ≡ Some q → (sitting p).seat < (sitting q).seat
ordered_seats sitting g us i j p q seated l at_i at_j =
    let e : j ≡ suc ((j - suc i) + i) = omega arith in
    in_order sitting g us i (j - suc i) j p q seated e at_i at_j

pub other_seat : {P : Type 0} (sitting : P → Sitting) (g : GarageValue) (us : List P) (i j : ℕ) (p q : P) → AreSeated sitting g us → j ≢ i → slice_get us i ≡ Some p → slice_get us j ≡ Some q → (sitting q).seat ≢ (sitting p).seat
other_seat sitting g us i j p q seated n at_i at_j same =
    elim (before_or_after i j n) [
      | inl l ↦ (let o = ordered_seats sitting g us i j p q seated l at_i at_j in omega arith)
      | inr l ↦ (let o = ordered_seats sitting g us j i q p seated l at_j at_i in omega arith)
    ]

-- a unit that heard: the others are as they were
pub crew_heard : {P : Type 0} (sitting : P → Sitting) (g g' : GarageValue) (us : List P) (i : ℕ) (p p' : P) → AreSeated sitting g us → slice_get us i ≡ Some p
    → (sitting p').seat ≡ (sitting p).seat → Sits g' (sitting p') → ((k : ℕ) → k ≢ (sitting p).seat → k < length (state_of g).traffic.seats → IsUntouched k g g')
    → AreSeated sitting g' (set us i p')
crew_heard {P} sitting g g' us i p p' seated at_i seat sits all = record {
  each = λ j q e.
      elim (slice_get_set us i j p' q e) [
        | inl same ↦ subst (λ (x : P). Sits g' (sitting x)) (sym same.1) sits
        | inr other ↦
            let s = seated.each j q other.1 in
            sits_still g g' (sitting q) (all (sitting q).seat (other_seat sitting g us i j p q seated other.0 at_i other.1) s.unit.1) s
      ];
  ordered = λ j q r at_j at_k.
      elim (slice_get_set us i j p' q at_j) [
        | inl same_j ↦
            elim (slice_get_set us i (suc j) p' r at_k) [
              | inl same_k ↦ (let a = same_j.0 in let b = same_k.0 in absurd (omega arith))
              | inr other_k ↦
                  let after : slice_get us (suc i) ≡ Some r = ap (λ (x : ℕ). slice_get us (suc x)) (sym same_j.0) ∙ other_k.1 in
                  let o = seated.ordered i p r at_i after in
                  let a : (sitting q).seat ≡ (sitting p).seat = ap (λ (x : P). (sitting x).seat) same_j.1 ∙ seat in
                  omega arith
            ]
        | inr other_j ↦
            elim (slice_get_set us i (suc j) p' r at_k) [
              | inl same_k ↦
                  let at : slice_get us (suc j) ≡ Some p = ap (λ (x : ℕ). slice_get us x) same_k.0 ∙ at_i in
                  let o = seated.ordered j q p other_j.1 at in
                  let b : (sitting r).seat ≡ (sitting p).seat = ap (λ (x : P). (sitting x).seat) same_k.1 ∙ seat in
                  omega arith
              | inr other_k ↦ seated.ordered j q r other_j.1 other_k.1
            ]
      ];
}

-- ---- what leads from one garage to another

pub comes_same : (old new : GarageValue) → new ≡ old → Comes old new
unfolding LeadTo
comes_same old new e = ([], e)

comes_one : (old new : GarageValue) (e : Event) → Adds old e new → IsOfRound e → Comes old new
unfolding LeadTo
comes_one old new e adds is = (e ∷ [], (old, refl, adds, is))

pub leads_both : (P : Event → Type 0) (es : List Event) (a b c : GarageValue) (fs : List Event) → LeadTo P es a b → LeadTo P fs b c → (gs : List Event) × LeadTo P gs a c
unfolding LeadTo
leads_both P es a b c [] h h' = (es, subst (λ (v : GarageValue). LeadTo P es a v) (sym h') h)
leads_both P es a b c (f ∷ fs) h h' = (let r = leads_both P es a b h'.0 fs h h'.1 in (f ∷ r.0, (h'.0, r.1, h'.2, h'.3)))

pub leads_settings : (P : Event → Type 0) (es : List Event) (old new : GarageValue) → LeadTo P es old new → new.settings ≡ old.settings
unfolding LeadTo
leads_settings P [] old new h = ap (λ (g : GarageValue). g.settings) h
leads_settings P (e ∷ es) old new h = ap (λ (g : GarageValue). g.settings) h.2.adds ∙ leads_settings P es old h.0 h.1

pub leads_as : (P Q : Event → Type 0) (es : List Event) (old new : GarageValue) → ((e : Event) → P e → Q e) → LeadTo P es old new → LeadTo Q es old new
unfolding LeadTo
leads_as P Q [] old new is h = h
leads_as P Q (e ∷ es) old new is h = (h.0, leads_as P Q es old h.0 is h.1, h.2, is e h.3)

-- the settings stay
pub comes_settings : (old new : GarageValue) → Comes old new → new.settings ≡ old.settings
comes_settings old new h = leads_settings IsOfRound h.0 old new h.1

-- so a station that was there still is
pub station_still : (y : ℕ) (old new : GarageValue) → Comes old new → y < length old.settings.stations → y < length new.settings.stations
station_still y old new h l = subst (λ (r : Settings). y < length r.stations) (sym (comes_settings old new h)) l

pub comes_both : (a b c : GarageValue) → Comes a b → Comes b c → Comes a c
comes_both a b c h h' = leads_both IsOfRound h.0 a b c h'.0 h.1 h'.1

pub comes_heard : (g : GarageValue) (k : ℕ) (memory : MemoryValue) (answered : UnitAnswer) (g' : GarageValue) → Adds g (Hear k memory answered) g' → Comes g g'
comes_heard g k memory answered g' h = comes_one g g' (Hear k memory answered) h tt

pub comes_carried : (g g' : GarageValue) (c : Carried) → AddsCarry g c g' → Comes g g'
comes_carried g g' (carried.Frame j f) h = comes_one g g' (Carry j) h.1 tt
comes_carried g g' carried.Idle h = comes_same g g' h.1
comes_carried g g' carried.Waiting h = comes_same g g' h.1

lists_both : (a b c : GarageValue) → KeepsLists a b → KeepsLists b c → KeepsLists a c
lists_both a b c h h' = record {
  grows = λ y n k.
      (let one = h.grows y n k in let two = h'.grows y n k in
      (one.0 ++ two.0, two.1 ∙ (ap (λ (l : List Shown). l ++ two.0) one.1 ∙ append_assoc (listed_at a y n k) one.0 two.0)));
}

lists_led : (es : List Event) (a b : GarageValue) → LeadTo IsOfRound es a b → KeepsLists a b
unfolding LeadTo
lists_led [] a b h = keeps_same a b h
lists_led (e ∷ es) a b h = lists_both a h.0 b (lists_led es a h.0 h.1) (keeps_adds h.0 b e h.2)

pub lists_come : (a b : GarageValue) → Comes a b → KeepsLists a b
lists_come a b h = lists_led h.0 a b h.1
