-- What a station has of the wire tells its readings in the journal.
use Rattle.std.proofs.Common.{ℕ, ◌≡◌, ◌<◌, ◌==◌, List, [], ◌∷◌, Bool, length, if◌then◌else◌, refl, sym, ap, ◌∙◌, subst, inl, inr}
use Rattle.std.proofs.lemmas.Bool.{ne_eqb}
use Rattle.can_frame.specs.declared.reading.Reading.{Reading}
use Rattle.bus_ledger.proofs.Numbers.{same_or_not}
use Rattle.bus_model.proofs.Lookback.{same_test}
use Rattle.bus_model.specs.Expected.{readings}
use Rattle.bus_model.specs.Machine.{AreFit}
use Rattle.journal.specs.State.{Settings, State, StationState, path_at, table_at, unit_at}
use Rattle.journal.specs.Steps.{after_read, next_for, order_answer}
use Rattle.journal.specs.Fits.{Fits}
use Rattle.journal.specs.Journal.{AllFit, readings_at, state_after}
use Rattle.journal.specs.Worlds.{stations_of}
use Rattle.journal.specs.declared.event.Event.{Event}
use Rattle.journal.specs.declared.event.Event.TheVariants.{Join, Hear, Begin, Turned, Carry, Read, Ordered, Leave, Inject}
use Rattle.journal.proofs.Station.{AtStations, begin_same, carry_same, hear_same, inject_same, join_same, leave_same, new_at, next_is, order_same, read_other, read_own, readings_more, station_given, stations_stand, stations_start}

-- ---- the stations of a journal

pub settings_fit : (r : Settings) (journal : List Event) → AllFit r journal → AreFit (stations_of r)
unfolding AllFit
settings_fit r [] f = f
settings_fit r (e ∷ older) f = settings_fit r older f.1

-- the tables of each station stand for what it read, whoever sent the frames
pub stationed : (r : Settings) (journal : List Event) → AllFit r journal → AtStations r (state_after r journal)
unfolding state_after AllFit
stationed r [] f = stations_start r f
stationed r (e ∷ older) f = stations_stand r e (state_after r older) (stationed r older f.1) f.0

-- ---- what each has of the wire

-- the readings of one station, where one more is another's or its own
abbrev more_at : Bool → Reading → List Reading → List Reading
more_at b x rs = if b then x ∷ rs else rs

read_more : (r : Settings) (s : State) (j y : ℕ) (x : Reading) → AtStations r s → Fits s (Read j x) → readings (path_at (after_read j x s) y) ≡ more_at (j == y) x (readings (path_at s y))
read_more r s j y x at f = elim (same_or_not y j) [
  | inl e ↦ subst (λ (k : ℕ). readings (path_at (after_read j x s) k) ≡ more_at (j == k) x (readings (path_at s k))) (sym e)
      (ap (λ (v : StationState). readings v.path) (read_own j x s here) ∙ (readings_more s j x (next_is s.traffic j x f.1 f.2) ∙ rw (same_test j) refl))
  | inr other ↦ ap (λ (v : StationState). readings v.path) (read_other j x s y other) ∙ rw (ne_eqb j y (λ e. other (sym e))) refl
]
  where
    here : j < length s.stations
    here = subst (λ (n : ℕ). j < n) (sym at.count) (station_given r s j at f.0)

pub path_readings : (r : Settings) (journal : List Event) (y : ℕ) → AllFit r journal → y < length r.stations → readings (path_at (state_after r journal) y) ≡ readings_at y journal
unfolding state_after AllFit readings_at
path_readings r [] y f l = ap (λ (v : StationState). readings v.path) (new_at r y l)
path_readings r (Join seat name address ∷ older) y f l = (join_same name address (state_after r older)).readings' y ∙ path_readings r older y f.1 l
path_readings r (Hear k memory answered ∷ older) y f l = (hear_same (next_for (state_after r older) k) k memory answered (state_after r older)).readings' y ∙ path_readings r older y f.1 l
path_readings r (Begin k memory ∷ older) y f l = (begin_same (unit_at (state_after r older) k).node.claimer.held k memory (state_after r older)).readings' y ∙ path_readings r older y f.1 l
path_readings r (Turned k ∷ older) y f l = path_readings r older y f.1 l
path_readings r (Carry k ∷ older) y f l = (carry_same _ k (state_after r older)).readings' y ∙ path_readings r older y f.1 l
path_readings r (Read j x ∷ older) y f l = read_more r (state_after r older) j y x (stationed r older f.1) f.0 ∙ ap (more_at (j == y) x) (path_readings r older y f.1 l)
path_readings r (Ordered j o ∷ older) y f l = (order_same j (order_answer (table_at (state_after r older) j) o) (state_after r older)).readings' y ∙ path_readings r older y f.1 l
path_readings r (Leave k ∷ older) y f l = (leave_same k (state_after r older)).readings' y ∙ path_readings r older y f.1 l
path_readings r (Inject x ∷ older) y f l = (inject_same x (state_after r older)).readings' y ∙ path_readings r older y f.1 l
