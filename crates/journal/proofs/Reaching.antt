-- Every journal whose events fit leads to a station that stands for its readings; and where no frame came from outside, to a
-- world that the law's machine reaches.
use Rattle.std.proofs.Common.{ℕ, ◌≡◌, ◌+◌, ◌-◌, ◌<◌, List, [], ◌∷◌, ◌++◌, length, refl, sym, subst, arith, inl, inr}
use Rattle.bus_model.specs.Machine.{AreFit, Event as MachineEvent, IsFit, Run, Seat, Step, World, start}
use Rattle.bus_model.specs.Machine as machine
use Rattle.std.proofs.lemmas.Bool.{cases_lt}
use Rattle.bus_ledger.specs.BusValue.{IsUnit}
use Rattle.bus_ledger.specs.Carrying.{IsCarriedNext}
use Rattle.dm_messages.specs.declared.kind.Kind.TheVariants.{Dm1}
use Rattle.journal.specs.State.{Settings, State}
use Rattle.journal.specs.Steps.{after}
use Rattle.journal.specs.Fits.{Fits}
use Rattle.journal.specs.Journal.{AllFit, injected_of, state_after}
use Rattle.journal.specs.Worlds.{stations_of, world_of}
use Rattle.journal.specs.declared.event.Event.{Event}
use Rattle.journal.specs.declared.event.Event.TheVariants.{Join, Hear, Begin, Turned, Carry, Read, Ordered, Leave, Inject}
use Rattle.journal.proofs.Seated.{Stands}
use Rattle.journal.proofs.Coming.{join_runs, leave_runs, unit_place}
use Rattle.journal.proofs.Carrying.{carry_runs}
use Rattle.journal.proofs.Starting.{run_more, start_stands, starts}
use Rattle.journal.proofs.Station.{AtStations, fit_at, station_given}
use Rattle.journal.proofs.Readings.{settings_fit, stationed}
use Rattle.journal.proofs.Reading.{read_runs}
use Rattle.journal.proofs.Ordering.{carry_station_runs, order_runs}
use Rattle.journal.proofs.Hearing.{hear_runs}
use Rattle.journal.proofs.Beginning.{begin_runs}

-- a step of the machine to this state, with some seats
pub record Moves (r : Settings) (s : State) (seats : List Seat) (t : State) : Type 0 where
  pub seats' : List Seat
  pub event : MachineEvent
  pub step : Step (world_of r s seats) event (world_of r t seats')
  pub stands : Stands r t seats'

-- an event of the seats and the stations, and of nobody outside
abbrev IsInside : Event → Type 0
IsInside (Inject f) = ⊥
IsInside _ = Unit {0}

-- where nothing came from outside, it did not before either
none_before : (e : Event) (older : List Event) → injected_of (e ∷ older) ≡ 0 → (injected_of older ≡ 0) × IsInside e
unfolding injected_of
none_before (Join seat name address) older none = (none, tt)
none_before (Hear k memory answered) older none = (none, tt)
none_before (Begin k memory) older none = (none, tt)
none_before (Turned k) older none = (none, tt)
none_before (Carry k) older none = (none, tt)
none_before (Read y x) older none = (none, tt)
none_before (Ordered y o) older none = (none, tt)
none_before (Leave k) older none = (none, tt)
none_before (Inject f) older none = absurd (omega arith)

-- a carry is a station's or a unit's
carry_moves : (r : Settings) (s : State) (seats : List Seat) (k : ℕ) → Stands r s seats → Fits s (Carry k) → Moves r s seats (after (Carry k) s)
carry_moves r s seats k st f = elim (cases_lt k (length s.stations)) [
  | inl h ↦
      (let m = carry_station_runs r k s seats f.0 st h f.1 in
      record { seats' = seats; event = machine.Carry_station k; step = m.0; stands = m.1 })
  | inr h ↦
      (let at : length s.stations + (k - length s.stations) ≡ k = omega arith in
      subst (λ (n : ℕ). Moves r s seats (after (Carry n) s)) at (in_place (k - length s.stations) (subst (λ (n : ℕ). IsCarriedNext s.traffic n f.0) (sym at) f.1)))
]
  where
    in_place : (j : ℕ) → IsCarriedNext s.traffic (length s.stations + j) f.0 → Moves r s seats (after (Carry (length s.stations + j)) s)
    in_place j next =
        let m = carry_runs r s seats j f.0 st next in
        record { seats' = m.0; event = machine.Carry j; step = m.1; stands = m.2 }

leave_moves : (r : Settings) (s : State) (seats : List Seat) (k : ℕ) → Stands r s seats → IsUnit s.traffic k → Moves r s seats (after (Leave k) s)
leave_moves r s seats k st u =
    let at : length s.stations + (k - length s.stations) ≡ k = unit_place r s seats k st u in
    subst (λ (n : ℕ). Moves r s seats (after (Leave n) s)) at (in_place (k - length s.stations) (subst (IsUnit s.traffic) (sym at) u))
  where
    in_place : (j : ℕ) → IsUnit s.traffic (length s.stations + j) → Moves r s seats (after (Leave (length s.stations + j)) s)
    in_place j u =
        let m = leave_runs r s seats j st u in
        record { seats' = m.0; event = machine.Leave j; step = m.1; stands = m.2 }

-- each event that fits is one, but for a frame from outside
moves : (r : Settings) (s : State) (seats : List Seat) (e : Event) → AreFit (stations_of r) → Stands r s seats → AtStations r s → Fits s e → IsInside e → Moves r s seats (after e s)
moves r s seats (Join seat name address) fit st at f inside =
    let m = join_runs r s seats name address st f.1 f.2 f.3 in
    record { seats' = m.0; event = machine.Join name address; step = m.1; stands = m.2 }
moves r s seats (Hear k memory answered) fit st at f inside =
    let m = hear_runs r s seats k memory answered st f in
    record { seats' = m.0; event = machine.Hear (k - length s.stations) m.1; step = m.2; stands = m.3 }
moves r s seats (Begin k memory) fit st at f inside =
    let m = begin_runs r s seats k memory st f in
    record { seats' = m.0; event = machine.Begin (k - length s.stations) Dm1 memory m.1; step = m.2; stands = m.3 }
moves r s seats (Turned k) fit st at f inside = record { seats' = seats; event = machine.Turned k; step = refl; stands = st }
moves r s seats (Carry k) fit st at f inside = carry_moves r s seats k st f
moves r s seats (Read y x) fit st at f inside =
    let h : y < length r.stations = station_given r s y at f.0 in
    let m = read_runs r y s seats x (fit_at r.stations y fit h) st (subst (λ (n : ℕ). y < n) (sym at.count) h) (at.each y h) f in
    record { seats' = seats; event = m.0; step = m.1; stands = m.2 }
moves r s seats (Ordered y o) fit st at f inside =
    let h : y < length r.stations = station_given r s y at f.0 in
    let m = order_runs r y s seats o (fit_at r.stations y fit h) st (subst (λ (n : ℕ). y < n) (sym at.count) h) (at.each y h) f in
    record { seats' = seats; event = m.0; step = m.1; stands = m.2 }
moves r s seats (Leave k) fit st at f inside = leave_moves r s seats k st f
moves r s seats (Inject x) fit st at f inside = absurd inside

-- the state is a world that the machine reaches
pub record Reached (r : Settings) (s : State) : Type 0 where
  pub seats : List Seat
  pub events : List MachineEvent
  pub run : Run (start (stations_of r)) events (world_of r s seats)
  pub stands : Stands r s seats

more : (r : Settings) (s : State) (e : Event) → AreFit (stations_of r) → Reached r s → AtStations r s → Fits s e → IsInside e → Reached r (after e s)
more r s e fit old at f inside =
    let m = moves r s old.seats e fit old.stands at f inside in
    record {
      seats = m.seats';
      events = old.events ++ m.event ∷ [];
      run = run_more (start (stations_of r)) (world_of r s old.seats) (world_of r (after e s) m.seats') old.events m.event old.run m.step;
      stands = m.stands;
    }

-- where no frame came from outside
pub reached : (r : Settings) (journal : List Event) → AllFit r journal → injected_of journal ≡ 0 → Reached r (state_after r journal)
unfolding state_after AllFit
reached r [] f none = record { seats = []; events = []; run = starts r; stands = start_stands r }
reached r (e ∷ older) f none =
    let before = none_before e older none in
    more r (state_after r older) e (settings_fit r older f.1) (reached r older f.1 before.0) (stationed r older f.1) f.0 before.1
