-- Steps of a garage, one after another.
use Rattle.std.proofs.Common.{◌≡◌, ℕ, suc, ◌+◌, ◌<◌, ◌⊎◌, List, ◌++◌, ◌∙◌, ap, drop, length, take, min, ◌-◌, ◌^◌, Some, None, Ok, Err, arith, refl, subst, sym, inl, inr}
use Rattle.std.proofs.Math.Seq.{take-append_seam}
use Rattle.can_frame.specs.FrameValue.{FrameValue}
use Rattle.can_frame.specs.declared.reading.Reading.{Reading}
use Rattle.can_frame.specs.declared.reading.Reading.TheVariants.{Empty}
use Rattle.bus_ledger.specs.Carrying.{CanCarry, IsIdle, IsWaiting}
use Rattle.bus_ledger.specs.declared.traffic.Carried.{Carried}
use Rattle.bus_ledger.specs.declared.traffic.Carried.TheVariants as carried
use Rattle.journal.specs.Journal.{GarageValue, state_of}
use Rattle.garage.specs.Answers.{Reads}
use Rattle.garage.specs.Carrying.{AddsCarry}
use Rattle.garage.specs.Hearing.{IsNoMemoryOrFullAt}
use Rattle.garage.specs.Room.{IsFull}
use Rattle.garage.specs.Rounds.{HasReadAll, IsUnread}
use Rattle.garage.specs.declared.error.GarageError.{GarageError}
use Rattle.garage.specs.declared.error.GarageError.TheVariants.{BookFull, OutOfMemory}
use Rattle.script_answer.specs.declared.answer.End.{End}
use Rattle.script_answer.specs.declared.refusal.Refusal.TheVariants.{Garage}
use Rattle.fault_memory.specs.Changes.{changed}
use Rattle.fault_memory.specs.Memory.{MemoryValue}
use Rattle.script_line.specs.declared.command.CodeChange.{CodeChange}
use Rattle.script_run.specs.UnitSteps.{ChangesMany, change_meant}
use Rattle.script_run.specs.Steps.{CarriesSo, CarriesMany, EndsTold, ReadsMany, ReadsSo, end_told}

pub carries_none : (g : GarageValue) → CarriesMany 0 g g
unfolding CarriesMany
carries_none g = refl

pub carries_more : (n m k : ℕ) (f : FrameValue) (a b c : GarageValue) → m ≡ n + 1 → CarriesMany n a b → AddsCarry b (carried.Frame k f) c → CarriesMany m a c
unfolding CarriesMany
carries_more n m k f a b c e some one =
    let next : suc n ≡ m = omega arith in
    subst (λ (i : ℕ). CarriesMany i a c) next (b, k, f, some, one)

-- the next one: a frame, or why there is none
pub carries_next : (n m : ℕ) (c : Carried) (a b d : GarageValue) → m ≡ n + 1 → end_told (Some c) ≡ None → CarriesMany n a b → AddsCarry b c d → CarriesMany m a d
carries_next n m (carried.Frame k f) a b d e is some one = carries_more n m k f a b d e some one
carries_next n m carried.Idle a b d e is some one = absurd cc
carries_next n m carried.Waiting a b d e is some one = absurd cc

pub carries_end : (n most : ℕ) (c : Carried) (end : End) (a b d : GarageValue) → n < most → end_told (Some c) ≡ Some end → CarriesMany n a b → AddsCarry b c d → CarriesMany n a d × EndsTold most n (Some end) d
carries_end n most (carried.Frame k f) end a b d l is some one = absurd cc
carries_end n most carried.Idle end a b d l is some one =
    (subst (λ (v : GarageValue). CarriesMany n a v) (sym one.1) some, (Some carried.Idle, sym is, (l, subst (λ (v : GarageValue). IsIdle (state_of v).traffic) (sym one.1) one.0)))
carries_end n most carried.Waiting end a b d l is some one =
    (subst (λ (v : GarageValue). CarriesMany n a v) (sym one.1) some, (Some carried.Waiting, sym is, (l, subst (λ (v : GarageValue). IsWaiting (state_of v).traffic) (sym one.1) one.0)))

-- why one more was refused
want_at : (g g' : GarageValue) (e : GarageError) → g' ≡ g → (e ≡ BookFull → IsFull g) → (IsFull g → e ≡ BookFull) → (e ≡ BookFull) ⊎ (e ≡ OutOfMemory) → IsNoMemoryOrFullAt g' e
want_at g g' e same full back why =
    subst (λ (v : GarageValue). IsNoMemoryOrFullAt v e) (sym same) (elim why [
      | inl b ↦ inl (b, full b)
      | inr o ↦ inr (o, λ f. (let b = back f in absurd cc))
    ])

pub carries_cut : (n most : ℕ) (e : GarageError) (a b d : GarageValue) → n < most → CarriesMany n a b → d ≡ b → CanCarry (state_of b).traffic → (e ≡ BookFull → IsFull b) → (CanCarry (state_of b).traffic × IsFull b → e ≡ BookFull)
    → (e ≡ BookFull) ⊎ (e ≡ OutOfMemory) → CarriesSo most (Err (Garage e)) a d
carries_cut n most e a b d l some same could full back why =
    (n, l, subst (λ (v : GarageValue). CarriesMany n a v) (sym same) some, subst (λ (v : GarageValue). CanCarry (state_of v).traffic) (sym same) could, want_at b d e same full (λ f. back (could, f)) why)

pub reads_cut : (y n most : ℕ) (e : GarageError) (a b d : GarageValue) → n < most → ReadsMany y n a b → d ≡ b → IsUnread y b → (e ≡ BookFull → IsFull b) → (IsUnread y b × IsFull b → e ≡ BookFull)
    → (e ≡ BookFull) ⊎ (e ≡ OutOfMemory) → ReadsSo y most (Err (Garage e)) a d
reads_cut y n most e a b d l some same left full back why =
    (n, l, subst (λ (v : GarageValue). ReadsMany y n a v) (sym same) some, subst (λ (v : GarageValue). IsUnread y v) (sym same) left, want_at b d e same full (λ f. back (left, f)) why)

-- the last one, after which nothing is unread
pub reads_end : (y n : ℕ) (a b d : GarageValue) → ReadsMany y n a b → Reads y b Empty d → ReadsMany y n a d × HasReadAll y d
reads_end y n a b d some one = (subst (λ (v : GarageValue). ReadsMany y n a v) (sym one.1) some, subst (λ (v : GarageValue). HasReadAll y v) (sym one.1) one.0)

pub reads_none : (y : ℕ) (g : GarageValue) → ReadsMany y 0 g g
unfolding ReadsMany
reads_none y g = refl

pub reads_more : (y n m : ℕ) (r : Reading) (a b c : GarageValue) → m ≡ n + 1 → ReadsMany y n a b → IsUnread y b → Reads y b r c → ReadsMany y m a c
unfolding ReadsMany
reads_more y n m r a b c e some left one =
    let next : suc n ≡ m = omega arith in
    subst (λ (i : ℕ). ReadsMany y i a c) next (b, r, some, left, one)

-- a slice that was lent whole is the whole again
pub whole_slice : {X : Type 0} (n : ℕ) (xs ys : List X) → length xs ≡ n → take n (xs ++ drop (length xs) ys) ≡ xs
whole_slice n xs ys e = ap (λ k. take k (xs ++ drop (length xs) ys)) (sym e) ∙ take-append_seam xs (drop (length xs) ys)

pub changes_none : (c : CodeChange) (spn fmi : ℕ) (m : MemoryValue) → ChangesMany c spn fmi 0 m m
unfolding ChangesMany
changes_none c spn fmi m = refl

pub changes_more : (c : CodeChange) (spn fmi n s : ℕ) (a b d : MemoryValue) → s ≡ min (spn + n) (2 ^ 32 - 1) → ChangesMany c spn fmi n a b → changed b (change_meant c s fmi) ≡ Ok d → ChangesMany c spn fmi (n + 1) a d
unfolding ChangesMany
changes_more c spn fmi n s a b d is some one =
    let next : suc n ≡ n + 1 = omega arith in
    subst (λ (i : ℕ). ChangesMany c spn fmi i a d) next (b, some, subst (λ (k : ℕ). changed b (change_meant c k fmi) ≡ Ok d) is one)
