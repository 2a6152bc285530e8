-- What a turn, a reading and the other calls make of a garage: it goes on.
use Rattle.std.proofs.Common.{◌≡◌, ◌⊎◌, ℕ, suc, zero, ◌-◌, ◌∙◌, inl, inr, Bool, true, false, if◌then◌else◌, ◌&&◌, not, is_some, List, [], ◌∷◌, ◌++◌, length, take, Result, Ok, Err, IfOk, IfErr, OnOk, append_assoc, arith, ap, refl, subst, sym}
use Rattle.std.proofs.Math.Seq.{take-append_seam}
use Rattle.std.proofs.lemmas.List.{length-append}
use Rattle.fault_memory.specs.Memory.{MemoryValue}
use Rattle.journal.specs.Journal.{GarageValue, with_event}
use Rattle.journal.specs.declared.event.Event.{Event}
use Rattle.journal.specs.declared.event.Event.TheVariants.{Begin, Leave, Turned}
use Rattle.garage.specs.Calls.{IsNoMemoryOrFull}
use Rattle.garage.specs.Causes.{held_at, has_open_dm1}
use Rattle.garage.specs.declared.error.GarageError.{GarageError}
use Rattle.garage.specs.declared.error.GarageError.TheVariants.{Stranger}
use Rattle.unit_threads.specs.Going.{GoesOnFrom, events_since}
use Rattle.unit_threads.specs.Turns.{GrowsBy, IsHearOf, IsOneRead, IsOneTurn, IsPartOfRead, IsPartOfTurn, IsTurnInSeat, LeftTurn, ReadInTurn, begun_by, with_events}

-- some events more
abbrev pub Grown : GarageValue → GarageValue → Type 0
Grown old new = (es : List Event) × (new ≡ with_events es old)

front : (es js : List Event) → take (length (es ++ js) - length js) (es ++ js) ≡ es
front es js =
    let so : length (es ++ js) - length js ≡ length es = omega (arith, length-append es js) in
    ap (λ n. take n (es ++ js)) so ∙ take-append_seam es js

goes_on_with : (s : GarageValue) (es : List Event) → GoesOnFrom s (with_events es s)
goes_on_with s es = ap (λ fs. with_events fs s) (sym (front es s.journal))

grown_more : (a b c : GarageValue) → Grown a b → Grown b c → Grown a c
grown_more a b c h k = (
  k.0 ++ h.0,
  k.1 ∙ ap (λ g. with_events k.0 g) h.1 ∙ ap (λ (js : List Event). record a { journal = js }) (sym (append_assoc k.0 h.0 a.journal)),
)

-- what goes on, and has some events more, goes on
pub goes_on_more : (s g g' : GarageValue) → GoesOnFrom s g → Grown g g' → GoesOnFrom s g'
goes_on_more s g g' h k =
    let all = grown_more s g g' (events_since s g, h) k in
    subst (λ x. GoesOnFrom s x) (sym all.1) (goes_on_with s all.0)

grown_same : (a b : GarageValue) → b ≡ a → Grown a b
grown_same a b is = ([], is)

grown_event : (a b : GarageValue) (e : Event) → b ≡ with_event e a → Grown a b
grown_event a b e is = (e ∷ [], is)

grown_by : (P : Event → Type 0) (a b : GarageValue) → GrowsBy P a b → Grown a b
grown_by P a b h = (h.events, h.added)

grown_begun : (k : ℕ) (wants : Bool) (memory : MemoryValue) (g : GarageValue) → Grown g (begun_by k wants memory g)
grown_begun k wants memory g = go (wants && (is_some (held_at g k) && not (has_open_dm1 g k)))
  where
    go : (b : Bool) → Grown g (if b then with_event (Begin k memory) g else g)
    go true = grown_event g _ (Begin k memory) refl
    go false = grown_same g g refl

grown_turn : (k : ℕ) (wants : Bool) (memory : MemoryValue) (a b : GarageValue) → IsTurnInSeat k wants memory a b → Grown a b
grown_turn k wants memory a b h =
    let begun = begun_by k wants memory h.heard in
    grown_more a begun b (grown_more a h.heard begun (grown_by (IsHearOf k) a h.heard h.hears) (grown_begun k wants memory h.heard)) (grown_event begun b (Turned k) h.turned)

grown_part : (k : ℕ) (a b : GarageValue) → IsPartOfTurn k a b → Grown a b
grown_part k a b (inl h) = grown_by (IsHearOf k) a b h
grown_part k a b (inr (inl h)) =
    grown_more a h.heard b (grown_by (IsHearOf k) a h.heard h.hears) (subst (λ x. Grown h.heard x) (sym h.begun) (grown_begun k h.wants h.memory h.heard))
grown_part k a b (inr (inr h)) = grown_more a h.turned b (grown_turn k h.wants h.memory a h.turned h.turn) (grown_by _ h.turned b h.carries.carries)

grown_left : (k : ℕ) (a b : GarageValue) → LeftTurn k a b → Grown a b
grown_left k a b h = grown_more a h.last b (grown_part k a h.last h.part) (grown_event h.last b (Leave k) h.left)

-- a turn, as far as it came
pub grown_turned : {X : Type 0} (r : Result X GarageError) (k : ℕ) (wants : X → Bool) (memory : X → MemoryValue) (a b : GarageValue) → IfOk r (λ p. IsOneTurn k (wants p) (memory p) a b)
    → IfErr r (λ e. ((e ≡ Stranger) × (b ≡ a)) ⊎ (IsNoMemoryOrFull e × LeftTurn k a b)) → Grown a b
grown_turned (Ok p) k wants memory a b h err = grown_more a h.turned b (grown_turn k (wants p) (memory p) a h.turned h.turn) (grown_by _ h.turned b h.carries.carries)
grown_turned (Err e) k wants memory a b h err = elim err [ inl same ↦ grown_same a b same.1 | inr left ↦ grown_left k a b left.1 ]

grown_read : (n : ℕ) (a b : GarageValue) → ReadInTurn n a b → Grown a b
grown_read zero a b h = grown_same a b h
grown_read (suc n) a b h = grown_more a h.0 b (grown_read n a h.0 h.1) (grown_by _ h.0 b h.2)

-- a reading, as far as it came
pub grown_reading : {X : Type 0} (r : Result X GarageError) (a b : GarageValue) → OnOk r (IsOneRead a b) → IfErr r (λ e. IsNoMemoryOrFull e × IsPartOfRead a b) → Grown a b
grown_reading (Ok x) a b h err = grown_more a h.read b (grown_read _ a h.read h.reads) (grown_by _ h.read b h.carries.carries)
grown_reading (Err e) a b h err = elim err.1 [
  | inl part ↦ grown_read part.0 a b part.2
  | inr cut ↦ grown_more a cut.read b (grown_read _ a cut.read cut.reads) (grown_by _ cut.read b cut.carries.carries)
]
