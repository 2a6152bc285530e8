-- Each station's tables stand for what it read.
use Rattle.std.proofs.Common.{ℕ, suc, zero, ◌≡◌, ◌≢◌, ◌<◌, ◌≤◌, List, [], ◌∷◌, map, reverse, take, length, get_or, set, Bool, true, false, Option, Some, None, Result, Ok, Err, if◌then◌else◌, refl, sym, ap, ◌∙◌, subst, arith, inl, inr}
use Rattle.std.specs.Prelude.{nat_lt}
use Rattle.std.proofs.lemmas.Bool.{ne_eqb}
use Rattle.std.proofs.lemmas.List.{get_or-map, get_or-set_same, get_or-set_other, length-map, length-reverse, length-set, length-take-le}
use Rattle.can_frame.specs.FrameValue.{FrameValue}
use Rattle.can_frame.specs.declared.reading.Reading.{Reading}
use Rattle.can_frame.specs.declared.reading.Reading.TheVariants as reading
use Rattle.bus_ledger.specs.BusValue.{IsStation, Traffic}
use Rattle.bus_ledger.specs.Reception.{not_yet_read, overrun, next_reading, first_reading, reading_taken as taken}
use Rattle.bus_ledger.specs.declared.traffic.CarriedFrame.{CarriedFrame}
use Rattle.bus_ledger.specs.declared.traffic.QueuedFrame.{QueuedFrame}
use Rattle.bus_ledger.specs.Changes.{carried_frame, heard_more, queued, withdrawn}
use Rattle.bus_model.specs.Expected.{Own, readings}
use Rattle.bus_model.specs.Machine.{AreFit, IsFit}
use Rattle.dm_messages.specs.declared.kind.Kind.TheVariants.{Dm1}
use Rattle.node_core.specs.declared.heard.Answer.{Answer as UnitAnswer}
use Rattle.node_core.specs.Beginning.{begins}
use Rattle.node_core.specs.Deed.{heard_of}
use Rattle.node_core.specs.Reaction.{reaction}
use Rattle.node_core.specs.declared.heard.Heard.{Heard}
use Rattle.node_core.specs.declared.heard.Started.{Started}
use Rattle.node_core.specs.declared.heard.Started.TheVariants as started
use Rattle.fault_memory.specs.Memory.{MemoryValue}
use Rattle.station_table.specs.StationValue.{StationValue}
use Rattle.station_table.specs.StandsFor.{StandsFor}
use Rattle.station_table.specs.Reactions.{station_reaction}
use Rattle.station_table.specs.Steps.{new_station, after_reading}
use Rattle.node_core.specs.declared.heard.Withdraw.{Withdraw}
use Rattle.node_core.specs.declared.heard.Withdraw.TheVariants as withdraw
use Rattle.bus_ledger.specs.declared.traffic.Which.TheVariants as which
use Rattle.bus_ledger.proofs.Numbers.{same_or_not}
use Rattle.station_table.specs.declared.error.StationError.{StationError}
use Rattle.station_table.specs.declared.reaction.Reaction.{Reaction}
use Rattle.station_table.proofs.Stands.{stands_new, stands_after}
use Rattle.journal.specs.State.{Settings, State, StationSetting, StationState, new_state, new_state_of, no_setting, no_station, path_at, setting_at, station_at, table_at, unit_at, with_claims}
use Rattle.journal.specs.Steps.{after, after_join, after_hear_of, after_begin_of, after_starting, after_carry_of, after_read, after_order_of, after_leave, after_inject, item_of, next_for, begins_session, order_answer, path_after, put_all, reacted, session_message_after, tagged, untagged, withdrawn_by}
use Rattle.journal.specs.Fits.{Fits}
use Rattle.journal.specs.Worlds.{law_settings, station_of_at, stations_of}
use Rattle.journal.specs.declared.event.Event.{Event}
use Rattle.journal.specs.declared.event.Event.TheVariants.{Join, Hear, Begin, Turned, Carry, Read, Ordered, Leave, Inject}

-- a station's tables say what it read
abbrev pub AtStation : Settings → ℕ → State → Type 0
AtStation r y s = StandsFor (station_of_at r y) (setting_at r y).grant (table_at s y) (readings (path_at s y))

-- there are as many stations as the settings say, each with a window, and the tables of each say what it read
pub record AtStations (r : Settings) (s : State) : Type 0 where
  pub count : length s.stations ≡ length r.stations
  pub windows : length s.traffic.windows ≡ length r.stations
  pub each : (y : ℕ) → y < length r.stations → AtStation r y s

-- ---- the start

pub fit_at : (rs : List StationSetting) (y : ℕ) → AreFit (map law_settings rs) → y < length rs → IsFit (law_settings (get_or rs y no_setting))
fit_at [] y fit l = absurd (omega arith)
fit_at (r ∷ rs) zero fit l = fit.0
fit_at (r ∷ rs) (suc y) fit l = fit_at rs y fit.2 (omega arith)

claims_windows : (y : ℕ) (rs : List StationSetting) (t : Traffic) → (with_claims y rs t).windows ≡ t.windows
claims_windows y [] t = refl
claims_windows y (r ∷ rs) t = claims_windows (suc y) rs _

pub new_at : (r : Settings) (y : ℕ) → y < length r.stations → station_at (new_state r) y ≡ new_state_of (setting_at r y)
new_at r y l = get_or-map new_state_of r.stations y no_setting no_station l

pub stations_start : (r : Settings) → AreFit (stations_of r) → AtStations r (new_state r)
stations_start r fit = record {
  count = length-map r.stations new_state_of;
  windows = ap length (claims_windows 0 r.stations _) ∙ (length-map (map _ r.stations) _ ∙ length-map r.stations _);
  each = λ y l.
      (let x : StationSetting = setting_at r y in
      let f : IsFit (law_settings x) = fit_at r.stations y fit l in
      subst (λ (v : StationState). StandsFor (law_settings x) x.grant v.table (readings v.path)) (sym (new_at r y l))
      (stands_new (law_settings x) x.grant (new_station x.name x.address x.grant) (ne_eqb x.address 255 (λ e. let a = f.address in omega arith)) refl));
}

-- ---- events that are no readings

-- each station has the same tables and has read the same, and there are as many, with as many windows
pub record SameStations (s t : State) : Type 0 where
  pub count : length t.stations ≡ length s.stations
  pub windows : t.traffic.windows ≡ s.traffic.windows
  pub table : (y : ℕ) → table_at t y ≡ table_at s y
  pub readings' : (y : ℕ) → readings (path_at t y) ≡ readings (path_at s y)

pub same_at : (r : Settings) (s t : State) → SameStations s t → AtStations r s → AtStations r t
same_at r s t same at = record {
  count = same.count ∙ at.count;
  windows = ap length same.windows ∙ at.windows;
  each = λ y l.
      subst (λ (v : StationValue). StandsFor (station_of_at r y) (setting_at r y).grant v (readings (path_at t y))) (sym (same.table y))
      (subst (λ (h : List Reading). StandsFor (station_of_at r y) (setting_at r y).grant (table_at s y) h) (sym (same.readings' y)) (at.each y l));
}

-- where the stations are not touched
untouched : (s t : State) → t.stations ≡ s.stations → t.traffic.windows ≡ s.traffic.windows → SameStations s t
untouched s t e w = record {
  count = ap length e;
  windows = w;
  table = λ y. ap (λ (xs : List StationState). (get_or xs y no_station).table) e;
  readings' = λ y. ap (λ (xs : List StationState). readings (get_or xs y no_station).path) e;
}

pub put_windows : (k : ℕ) (qs : List QueuedFrame) (t : Traffic) → (put_all k qs t).windows ≡ t.windows
put_windows k [] t = refl
put_windows k (q ∷ qs) t = put_windows k qs (queued k q t)

withdrawn_windows : (k : ℕ) (w : Withdraw) (t : Traffic) → (withdrawn_by k w t).windows ≡ t.windows
withdrawn_windows k withdraw.Keep t = refl
withdrawn_windows k withdraw.Session t = refl
withdrawn_windows k withdraw.All t = refl

pub reacted_windows : (y : ℕ) (x : Reaction) (t : Traffic) → (reacted y x t).windows ≡ t.windows
reacted_windows y x t = put_windows y (map untagged x.put) (if x.withdraw then withdrawn y which.All t else t) ∙ go x.withdraw
  where
    go : (b : Bool) → (if b then withdrawn y which.All t else t).windows ≡ t.windows
    go true = refl
    go false = refl

pub join_same : (name address : ℕ) (s : State) → SameStations s (after_join name address s)
unfolding after_join
join_same name address s = untouched s _ refl refl

-- a hearing leaves the windows
hearing_windows : (k : ℕ) (h : Heard) (s : State)
    → (put_all k (map (tagged (length s.begun) (begins_session h.begun) (session_message_after (unit_at s k).session_message (length s.begun) h.begun)) h.put) (withdrawn_by k h.withdraw (heard_more k 1 s.traffic))).windows ≡ s.traffic.windows
hearing_windows k h s =
    put_windows k (map (tagged (length s.begun) (begins_session h.begun) (session_message_after (unit_at s k).session_message (length s.begun) h.begun)) h.put) (withdrawn_by k h.withdraw (heard_more k 1 s.traffic))
    ∙ withdrawn_windows k h.withdraw (heard_more k 1 s.traffic)

pub hear_same : (o : Option FrameValue) (k : ℕ) (memory : MemoryValue) (answered : UnitAnswer) (s : State) → SameStations s (after_hear_of o k memory answered s)
unfolding after_hear_of
hear_same None k memory answered s = untouched s s refl refl
hear_same (Some f) k memory answered s = untouched s _ refl (hearing_windows k (heard_of answered (reaction (unit_at s k).node memory answered f)) s)

starting_same : (k : ℕ) (memory : MemoryValue) (b : Started) (s : State) → SameStations s (after_starting k memory b s)
starting_same k memory started.Held s = untouched s s refl refl
starting_same k memory (started.Begun b put) s = untouched s _ refl (put_windows k (map (tagged (length s.begun) false (unit_at s k).session_message) put) s.traffic)

pub begin_same : (o : Option ℕ) (k : ℕ) (memory : MemoryValue) (s : State) → SameStations s (after_begin_of o k memory s)
unfolding after_begin_of
begin_same None k memory s = untouched s s refl refl
begin_same (Some source) k memory s = starting_same k memory (begins (unit_at s k).node.session Dm1 memory source) s

-- what is the same of a station before and after is the same in each place
kept_by_set : {A : Type 0} (f : StationState → A) (xs : List StationState) (k : ℕ) (v : StationState) → f v ≡ f (get_or xs k no_station) → (y : ℕ) → f (get_or (set xs k v) y no_station) ≡ f (get_or xs y no_station)
kept_by_set f [] k v e y = refl
kept_by_set f (x ∷ xs) zero v e zero = e
kept_by_set f (x ∷ xs) zero v e (suc y) = refl
kept_by_set f (x ∷ xs) (suc k) v e zero = refl
kept_by_set f (x ∷ xs) (suc k) v e (suc y) = kept_by_set f xs k v e y

pub carry_same : (o : Option QueuedFrame) (k : ℕ) (s : State) → SameStations s (after_carry_of o k s)
unfolding after_carry_of
carry_same None k s = untouched s s refl refl
carry_same (Some q) k s =
    let v : StationState = record (station_at s k) { path = Own (item_of s (carried_frame k q)) ∷ path_at s k } in
    record {
      count = length-set s.stations k v;
      windows = refl;
      table = λ y. kept_by_set (λ (x : StationState). x.table) s.stations k v refl y;
      readings' = λ y. kept_by_set (λ (x : StationState). readings x.path) s.stations k v refl y;
    }

pub order_same : (y : ℕ) (o : Result Reaction StationError) (s : State) → SameStations s (after_order_of y o s)
unfolding after_order_of
order_same y (Err e) s = untouched s s refl refl
order_same y (Ok r) s = untouched s _ refl (reacted_windows y r s.traffic)

pub leave_same : (k : ℕ) (s : State) → SameStations s (after_leave k s)
unfolding after_leave
leave_same k s = untouched s _ refl refl

pub inject_same : (f : FrameValue) (s : State) → SameStations s (after_inject f s)
unfolding after_inject
inject_same f s = untouched s _ refl refl

-- ---- readings

-- what stands behind the next reading: the oldest unread frame, or as many as the window was overrun by
pub data Next (t : Traffic) (y : ℕ) : Reading → Type 0 where
  One : (c : CarriedFrame) (cs : List CarriedFrame) → not_yet_read t y ≡ c ∷ cs → Next t y (reading.Frame c.frame)
  Over : (n : ℕ) → n ≤ length (not_yet_read t y) → Next t y (reading.Gap n)

pub next_is : (t : Traffic) (y : ℕ) (x : Reading) → x ≡ next_reading t y → x ≢ reading.Empty → Next t y x
next_is t y x e n = subst (Next t y) (sym e) (go (nat_lt 0 (overrun t y)) (not_yet_read t y) refl (λ f. n (e ∙ f)))
  where
    first : (cs : List CarriedFrame) → not_yet_read t y ≡ cs → first_reading cs ≢ reading.Empty → Next t y (first_reading cs)
    first [] e n = absurd (n refl)
    first (c ∷ cs) e n = One c cs e

    go : (b : Bool) (cs : List CarriedFrame) → not_yet_read t y ≡ cs → (if b then reading.Gap (overrun t y) else first_reading cs) ≢ reading.Empty → Next t y (if b then reading.Gap (overrun t y) else first_reading cs)
    go true cs e n = Over (overrun t y) (omega arith)
    go false cs e n = first cs e n

pub readings_more : (s : State) (y : ℕ) (x : Reading) → Next s.traffic y x → readings (path_after y x s) ≡ x ∷ readings (path_at s y)
readings_more s y x (One c cs e) = rw e refl
readings_more s y x (Over n l) =
    ap (λ (m : ℕ). reading.Gap m ∷ readings (path_at s y))
    (length-map (reverse (take n (not_yet_read s.traffic y))) (item_of s) ∙ (length-reverse (take n (not_yet_read s.traffic y)) ∙ length-take-le n (not_yet_read s.traffic y) l))

-- the station after its reading
abbrev pub station_read : ℕ → Reading → State → StationState
station_read y x s = record { table = after_reading (table_at s y) x; path = path_after y x s }

pub read_own : (y : ℕ) (x : Reading) (s : State) → y < length s.stations → station_at (after_read y x s) y ≡ station_read y x s
unfolding after_read
read_own y x s l = get_or-set_same s.stations y (station_read y x s) no_station l

pub read_other : (y : ℕ) (x : Reading) (s : State) (i : ℕ) → i ≢ y → station_at (after_read y x s) i ≡ station_at s i
unfolding after_read
read_other y x s i n = get_or-set_other s.stations y i (station_read y x s) no_station n

read_count : (y : ℕ) (x : Reading) (s : State) → length (after_read y x s).stations ≡ length s.stations
unfolding after_read
read_count y x s = length-set s.stations y (station_read y x s)

read_windows : (y : ℕ) (x : Reading) (s : State) → (after_read y x s).traffic.windows ≡ s.traffic.windows
unfolding after_read
read_windows y x s = reacted_windows y (station_reaction (table_at s y) x) (taken y x s.traffic)

pub read_at : (r : Settings) (s : State) (y : ℕ) (x : Reading) → y < length r.stations → Next s.traffic y x → AtStations r s → AtStations r (after_read y x s)
read_at r s y x l next at = record {
  count = read_count y x s ∙ at.count;
  windows = ap length (read_windows y x s) ∙ at.windows;
  each = λ i lt. elim (same_or_not i y) [
    | inl e ↦ subst (λ (k : ℕ). AtStation r k (after_read y x s)) (sym e) own
    | inr other ↦ subst (λ (v : StationState). StandsFor (station_of_at r i) (setting_at r i).grant v.table (readings v.path)) (sym (read_other y x s i other)) (at.each i lt)
  ];
}
  where
    own : AtStation r y (after_read y x s)
    own =
        subst (λ (v : StationState). StandsFor (station_of_at r y) (setting_at r y).grant v.table (readings v.path)) (sym (read_own y x s (subst (λ (n : ℕ). y < n) (sym at.count) l)))
        (subst (λ (h : List Reading). StandsFor (station_of_at r y) (setting_at r y).grant (after_reading (table_at s y) x) h) (sym (readings_more s y x next))
        (stands_after (station_of_at r y) (setting_at r y).grant (table_at s y) (readings (path_at s y)) x (at.each y l)))

-- a station of the bus is one of the settings
pub station_given : (r : Settings) (s : State) (y : ℕ) → AtStations r s → IsStation s.traffic y → y < length r.stations
station_given r s y at h = subst (λ (n : ℕ). y < n) at.windows h

-- the tables stand for what was read after each event
pub stations_stand : (r : Settings) (e : Event) (s : State) → AtStations r s → Fits s e → AtStations r (after e s)
stations_stand r (Join seat name address) s at fits = same_at r s _ (join_same name address s) at
stations_stand r (Hear k memory answered) s at fits = same_at r s _ (hear_same (next_for s k) k memory answered s) at
stations_stand r (Begin k memory) s at fits = same_at r s _ (begin_same (unit_at s k).node.claimer.held k memory s) at
stations_stand r (Turned k) s at fits = at
stations_stand r (Carry k) s at fits = same_at r s _ (carry_same _ k s) at
stations_stand r (Read y x) s at fits = read_at r s y x (station_given r s y at fits.0) (next_is s.traffic y x fits.1 fits.2) at
stations_stand r (Ordered y o) s at fits = same_at r s _ (order_same y (order_answer (table_at s y) o) s) at
stations_stand r (Leave k) s at fits = same_at r s _ (leave_same k s) at
stations_stand r (Inject f) s at fits = same_at r s _ (inject_same f s) at
