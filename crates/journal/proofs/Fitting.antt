-- Events, the oldest first, that fit one after another; and which frame is carried next.
use Rattle.std.proofs.Common.{◌≡◌, ℕ, zero, suc, ◌+◌, List, [], ◌∷◌, Option, Some, None, refl, subst, length, arith, slice_index_or}
use Rattle.std.proofs.lemmas.List.Elements.{All-from_recursion}
use Rattle.std.specs.List.{IsDistinct}
use Rattle.fault_memory.specs.Memory.{IsKeptCode, IsLawfulMemory}
use Rattle.bus_ledger.specs.BusValue.{SeatValue, Traffic, nobody}
use Rattle.bus_ledger.specs.Carrying.{IsCarriedNext, Wins, offer, offered}
use Rattle.bus_ledger.specs.declared.traffic.QueuedFrame.{QueuedFrame}
use Rattle.bus_model.proofs.Runs.{faulty_lawful, kept_code}
use Rattle.journal.specs.Fits.{Fits}
use Rattle.journal.specs.Journal.{AllFit, state_after}
use Rattle.journal.specs.State.{Settings, State}
use Rattle.journal.specs.Steps.{after}
use Rattle.journal.specs.declared.event.Event.{Event}
use Rattle.journal.specs.Example.{memory_of_each}

-- ---- which frame is carried next

-- a frame wins against what one seat offers
abbrev pub Beats : ℕ → QueuedFrame → ℕ → Option QueuedFrame → Type 0
Beats k q j None = Unit {0}
Beats k q j (Some r) = Wins k q j r

-- and against what each of these seats offers, the first of which has the number j
abbrev pub BeatsAll : ℕ → QueuedFrame → ℕ → ℕ → List SeatValue → Type 0
BeatsAll k q wire_len j [] = Unit {0}
BeatsAll k q wire_len j (v ∷ vs) = Beats k q j (offered wire_len v) × BeatsAll k q wire_len (suc j) vs

beats_at : (k : ℕ) (q : QueuedFrame) (wire_len j : ℕ) (vs : List SeatValue) → BeatsAll k q wire_len j vs → (i : ℕ) (r : QueuedFrame) → offered wire_len (slice_index_or vs i nobody) ≡ Some r → Wins k q (j + i) r
beats_at k q wire_len j [] b i r h = cc
beats_at k q wire_len j (v ∷ vs) b zero r h = subst (λ (n : ℕ). Wins k q n r) (omega arith) (subst (Beats k q j) h b.0)
beats_at k q wire_len j (v ∷ vs) b (suc i) r h = subst (λ (n : ℕ). Wins k q n r) (omega arith) (beats_at k q wire_len (suc j) vs b.1 i r h)

-- the seat's first frame is carried next, if it wins against all that is offered
pub carried : (t : Traffic) (k : ℕ) (q : QueuedFrame) → offer t k ≡ Some q → BeatsAll k q (length t.wire) 0 t.seats → IsCarriedNext t k q
carried t k q o b = record {
  offers = o;
  wins = λ j r h. subst (λ (n : ℕ). Wins k q n r) (omega arith) (beats_at k q (length t.wire) 0 t.seats b j r h);
}

-- ---- events one after another

-- each fits what came before
abbrev pub AreFitting : State → List Event → Type 0
AreFitting s [] = Unit {0}
AreFitting s (e ∷ later) = Fits s e × AreFitting (after e s) later

-- the journal with these behind it, the newest first
abbrev pub onto : List Event → List Event → List Event
onto [] journal = journal
onto (e ∷ later) journal = onto later (e ∷ journal)

pub fit_onto : (r : Settings) (journal : List Event) → AllFit r journal → (later : List Event) → AreFitting (state_after r journal) later → AllFit r (onto later journal)
unfolding AllFit state_after
fit_onto r journal fit [] f = fit
fit_onto r journal fit (e ∷ later) f = fit_onto r (e ∷ journal) (f.0, fit) later f.1

-- ---- the memory of the examples

pub memory_lawful : IsLawfulMemory memory_of_each
unfolding IsDistinct
memory_lawful = record {
  lamps = (omega arith, omega arith);
  active = faulty_lawful.active;
  previous = faulty_lawful.previous;
  pending = All-from_recursion IsKeptCode memory_of_each.pending (kept_code 500 5 (omega arith) (omega arith), tt);
  distinct = ((refl, (refl, (refl, (refl, tt)))), ((refl, (refl, (refl, tt))), ((refl, (refl, tt)), ((refl, tt), (tt, tt)))));
  room = omega arith;
}
