-- The stations read in turn, event by event.
use Rattle.std.proofs.Common.{◌≡◌, Result, Ok, Err, IfErr, inl, inr, ℕ, suc, ◌+◌, ◌<◌, length, arith, refl, sym, ap, subst, ◌∙◌}
use Rattle.can_frame.specs.declared.reading.Reading.{Reading}
use Rattle.can_frame.specs.declared.reading.Reading.TheVariants as reading
use Rattle.bus_ledger.proofs.Numbers.{same_or_not}
use Rattle.journal.specs.Journal.{Adds, GarageValue, state_of}
use Rattle.journal.specs.declared.event.Event.TheVariants.{Read}
use Rattle.garage.specs.Answers.{Reads}
use Rattle.garage.specs.Calls.{IsNoMemoryOrFull}
use Rattle.garage.specs.Rounds.{HasReadAll, HaveReadAll, IsReadOf}
use Rattle.garage.specs.declared.error.GarageError.{GarageError}
use Rattle.unit_threads.specs.Turns.{CarriesAll, CarriesSome, GrowsBy, IsOneRead, IsPartOfRead, IsPartOfReading, LeavesOthers, ReadInTurn}
use Rattle.garage.proofs.ReadLemmas.{event_same, next_same}
use Rattle.unit_threads.proofs.Turning.{grows_more, grown_same}

-- a reading of one station leaves the others as they were
leaves_event : (y : ℕ) (old new : GarageValue) (r : Reading) → Adds old (Read y r) new → LeavesOthers y old new
leaves_event y old new r h = record {
  settings = ap (λ (g : GarageValue). g.settings) h.adds;
  next = λ j n. next_same j (state_of old).traffic (state_of new).traffic (event_same j y r old new h n);
}

pub leaves_none : (y : ℕ) (g : GarageValue) → LeavesOthers y g g
leaves_none y g = record { settings = refl; next = λ j n. refl }

leaves_both : (y : ℕ) (a b c : GarageValue) → LeavesOthers y a b → LeavesOthers y b c → LeavesOthers y a c
leaves_both y a b c g h = record { settings = h.settings ∙ g.settings; next = λ j n. h.next j n ∙ g.next j n }

leaves_same : (y : ℕ) (a b : GarageValue) → b ≡ a → LeavesOthers y a b
leaves_same y a b e = subst (λ (g : GarageValue). LeavesOthers y a g) (sym e) (leaves_none y a)

-- one more reading taken, if there was one
pub reads_more : (y : ℕ) (a b c : GarageValue) (r : Reading) → GrowsBy (IsReadOf y) a b → Reads y b r c → GrowsBy (IsReadOf y) a c
reads_more y a b c (reading.Frame f) g h = grows_more (IsReadOf y) a b c (Read y (reading.Frame f)) g refl h.adds
reads_more y a b c (reading.Gap n) g h = grows_more (IsReadOf y) a b c (Read y (reading.Gap n)) g refl h.adds
reads_more y a b c reading.Empty g h = grown_same (IsReadOf y) a b c g h.1

pub leaves_more : (y : ℕ) (a b c : GarageValue) (r : Reading) → LeavesOthers y a b → Reads y b r c → LeavesOthers y a c
leaves_more y a b c (reading.Frame f) g h = leaves_both y a b c g (leaves_event y b c (reading.Frame f) h)
leaves_more y a b c (reading.Gap n) g h = leaves_both y a b c g (leaves_event y b c (reading.Gap n) h)
leaves_more y a b c reading.Empty g h = leaves_both y a b c g (leaves_same y b c h.1)

-- ---- station after station

-- how far the stations have read
pub record HasReadTo (n : ℕ) (old new : GarageValue) : Type 0 where
  pub turn : ReadInTurn n old new
  pub all : HaveReadAll n new
  pub settings : new.settings ≡ old.settings

pub turn_more : (n m : ℕ) (a b c : GarageValue) → m ≡ n + 1 → ReadInTurn n a b → GrowsBy (IsReadOf n) b c → ReadInTurn m a c
turn_more n m a b c e turn reads =
    let next : suc n ≡ m = omega arith in
    subst (λ (k : ℕ). ReadInTurn k a c) next (b, turn, reads)

pub read_more : (n m : ℕ) (a b c : GarageValue) → m ≡ n + 1 → HasReadTo n a b → GrowsBy (IsReadOf n) b c → HasReadAll n c → LeavesOthers n b c → HasReadTo m a c
read_more n m a b c e to reads all leaves = record {
  turn = turn_more n m a b c e to.turn reads;
  all = λ y h. elim (same_or_not y n) [
    | inl z ↦ subst (λ (k : ℕ). HasReadAll k c) (sym z) all
    | inr z ↦ leaves.next y z ∙ to.all y (omega arith)
  ];
  settings = leaves.settings ∙ to.settings;
}

-- cut short at this station
pub read_part : (n : ℕ) (a b c : GarageValue) → n < length a.settings.stations → HasReadTo n a b → GrowsBy (IsReadOf n) b c → IsPartOfReading a c
read_part n a b c h to reads = (n + 1, omega arith, turn_more n (n + 1) a b c refl to.turn reads)

-- ---- a whole reading, and one that was cut short

pub one_read_of : (a b c : GarageValue) → ReadInTurn (length a.settings.stations) a b → HaveReadAll (length a.settings.stations) b → CarriesAll b c → IsOneRead a c
one_read_of a b c reads all carries = record { read = b; reads = reads; all = all; carries = carries }

pub part_of_read : (a b c : GarageValue) → ReadInTurn (length a.settings.stations) a b → HaveReadAll (length a.settings.stations) b → CarriesSome b c → IsPartOfRead a c
part_of_read a b c reads all carries = inr (record { read = b; reads = reads; all = all; carries = carries })

pub cut_short : (a b : GarageValue) → IsPartOfReading a b → IsPartOfRead a b
cut_short a b part = inl part

pub wants_and : {T : Type 0} (r : Result T GarageError) (P : Type 0) → IfErr r IsNoMemoryOrFull → P → IfErr r (λ e. IsNoMemoryOrFull e × P)
wants_and (Ok v) P w p = tt
wants_and (Err e) P w p = (w, p)
