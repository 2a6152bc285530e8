-- Which of the watches a line is for, where each bus is watched: the one of its bus; each, where frames were missed on an unknown one. And what
-- they are after it.
use Rattle.std.specs.Borrow.{Bor}
use Rattle.std.specs.Option.{option_map_or}
use Rattle.std.specs.Prelude.{◌≡◌, ◌⊎◌, ◌==◌, ℕ, Bool, true, false, List, [], ◌∷◌, ◌++◌, Option, Some, None, if◌then◌else◌, length, nat_lt, option_map, slice_get, string_bytes}
use Rattle.std.specs.List.{position}
use Rattle.std.specs.Str.{bytes_eq}
use Rattle.candump_line.specs.declared.line.Line.{Line}
use Rattle.candump_line.specs.declared.line.Line.TheVariants as line
use Rattle.bus_watch.specs.declared.buses.BusWatch.{BusWatch}
use Rattle.bus_watch.specs.declared.buses.Hearers.{Hearers}
use Rattle.bus_watch.specs.declared.buses.Hearers.TheVariants.{Nobody, One, New, Every}
use Rattle.bus_watch.specs.declared.buses.BusShown.{BusShown}
use Rattle.bus_watch.specs.declared.buses.BusShown.TheVariants.{First, Named, Each}
use Rattle.bus_watch.specs.declared.buses.TheConstants.{MOST_BUSES}
use Rattle.bus_watch.specs.declared.watch.WatchSettings.{WatchSettings}
use Rattle.bus_watch.specs.Contested.{no_contests}
use Rattle.bus_watch.specs.Over.{HasOwnersAlone}
use Rattle.bus_watch.specs.Told.{Beginning, IsToldAs, Read, StandsForAll, Told}
use Rattle.bus_watch.specs.Identified.{none_identified, identified_anew}
use Rattle.bus_watch.specs.IdentifiedSaid.{IdentifiedGoesOn}

-- how each is watched, whether each bus is, and the watches in the order in which their buses were first named
pub record BusesValue : Type 0 where
  pub settings : WatchSettings
  pub each : Bool
  pub watches : List BusWatch

-- a watch is of the bus of its name
abbrev pub is_on : List ℕ → BusWatch → Bool
is_on bus one = option_map_or (λ name. bytes_eq (string_bytes name) bus) one.bus false

abbrev pub watch_place : List ℕ → List BusWatch → Option ℕ
watch_place bus watches = position (is_on bus) watches

-- a line of a bus is for its watch; the first one begins that, while there are not too many
abbrev pub hearer_at : Option ℕ → ℕ → Hearers
hearer_at (Some place) count = One place
hearer_at None count = if nat_lt count MOST_BUSES then New count else Nobody

abbrev pub hearer_of : List ℕ → List BusWatch → Hearers
hearer_of bus watches = hearer_at (watch_place bus watches) (length watches)

-- frames that were dropped of a bus are for its watch, if it has one
abbrev pub hearer_known : Option ℕ → Hearers
hearer_known (Some place) = One place
hearer_known None = Nobody

abbrev pub hearer_of_drops : List ℕ → List BusWatch → Hearers
hearer_of_drops bus watches = hearer_known (watch_place bus watches)

-- a line that names no bus is for none
abbrev pub hearer_named : Option (Bor (List ℕ)) → List BusWatch → Hearers
hearer_named None watches = Nobody
hearer_named (Some bus) watches = hearer_of bus.now watches

abbrev pub hearers_by : List BusWatch → Line → Hearers
hearers_by watches (line.Frame time bus frame) = hearer_named bus watches
hearers_by watches (line.Overflow time bus) = hearer_named bus watches
hearers_by watches (line.Foreign bus what) = hearer_named bus watches
hearers_by watches (line.Dropped (Some bus) count) = hearer_of_drops bus.now watches
hearers_by watches (line.Dropped None count) = Every
hearers_by watches (line.Bad reason) = Every
hearers_by watches _ = Nobody

-- where one bus is watched, each line is for its watch, which reads those of its bus
abbrev pub hearers_of : BusesValue → Line → Hearers
hearers_of buses l = if buses.each then hearers_by buses.watches l else One 0

-- ---- a watch that begins

-- how a watch begins, of the bus of this name or of the first that a line names
abbrev pub beginning_as : WatchSettings → Option (List ℕ) → Beginning
beginning_as s followed = record { selection = s.selection; skips_bad = s.skips_bad; silence = s.silence; bus = followed; contests = no_contests; gaps = 0; before = record { missed = 0; unread = 0 }; partly = 0 }

-- a watch that was told nothing, of such a bus, and the name that it has where each is watched
pub record IsNew (s : WatchSettings) (followed named : Option (List ℕ)) (one : BusWatch) : Type 0 where
  pub name : option_map string_bytes one.bus ≡ named
  pub stands : StandsForAll (beginning_as s followed) [] one.watch
  pub identified : one.watch.identified ≡ none_identified

-- it stands behind the others
pub record BeginsOne (followed named : Option (List ℕ)) (old new : BusesValue) : Type 0 where
  pub one : BusWatch
  pub is : IsNew old.settings followed named one
  pub begun : new ≡ record old { watches = old.watches ++ one ∷ [] }

-- which watches there are at first
abbrev pub AreShown : WatchSettings → BusShown → BusesValue → Type 0
AreShown s First buses = BeginsOne None None (record { settings = s; each = false; watches = [] }) buses
AreShown s (Named name) buses = BeginsOne (Some name.now) None (record { settings = s; each = false; watches = [] }) buses
AreShown s Each buses = buses ≡ record { settings = s; each = true; watches = [] }

-- the bus that a line names
abbrev pub name_in : Option (Bor (List ℕ)) → Option (List ℕ)
name_in bus = option_map (λ name. name.now) bus

abbrev pub bus_named_by : Line → Option (List ℕ)
bus_named_by (line.Frame time bus frame) = name_in bus
bus_named_by (line.Overflow time bus) = name_in bus
bus_named_by (line.Foreign bus what) = name_in bus
bus_named_by (line.Dropped bus count) = name_in bus
bus_named_by _ = None

-- a line that is for a new watch begins that, of the bus that it names; no other one begins any
abbrev pub HasBegunFor : Hearers → Option (List ℕ) → BusesValue → BusesValue → Type 0
HasBegunFor (New place) bus old new = BeginsOne bus bus old new
HasBegunFor _ bus old new = new ≡ old

abbrev pub HasBegun : Hearers → Line → BusesValue → BusesValue → Type 0
HasBegun hearers l old new = HasBegunFor hearers (bus_named_by l) old new

abbrev pub place_begun : Hearers → Option ℕ
place_begun (New place) = Some place
place_begun _ = None

-- ---- watches that are told something

abbrev pub is_hearer : Hearers → ℕ → Bool
is_hearer Nobody place = false
is_hearer (One here) place = place == here
is_hearer (New here) place = place == here
is_hearer Every place = true

-- a watch was told this, and beside it stands what that changed
pub record IsTold (next : Told) (old new : BusWatch) : Type 0 where
  pub bus : new.bus ≡ old.bus
  pub stands : (b : Beginning) (ts : List Told) → StandsForAll b ts old.watch → StandsForAll b (next ∷ ts) new.watch
  pub identified : IdentifiedGoesOn next old.watch new.watch
  pub changes : IsToldAs next old.watch new.watch new.changes

-- or was begun anew, with the owners of addresses and the identifications alone
pub record IsOver (old new : BusWatch) : Type 0 where
  pub bus : new.bus ≡ old.bus
  pub anew : HasOwnersAlone old.watch new.watch
  pub identified : new.watch.identified ≡ identified_anew old.watch.identified
  pub changes : new.changes ≡ old.changes

-- it changed so, or is as it was
abbrev pub IsChangedOrNot : (BusWatch → BusWatch → Type 0) → Bool → Option BusWatch → Option BusWatch → Type 0
IsChangedOrNot Changes does None None = Unit {0}
IsChangedOrNot Changes true (Some old) (Some new) = Changes old new
IsChangedOrNot Changes false (Some old) (Some new) = new ≡ old
IsChangedOrNot Changes does _ _ = ⊥

-- those at these places changed so, and each other one is as it was
pub record AreChanged (Changes : BusWatch → BusWatch → Type 0) (does : ℕ → Bool) (old new : BusesValue) : Type 0 where
  pub settings : new.settings ≡ old.settings
  pub each : new.each ≡ old.each
  pub watches : (place : ℕ) → IsChangedOrNot Changes (does place) (slice_get old.watches place) (slice_get new.watches place)

abbrev pub AreTold : (ℕ → Bool) → Told → BusesValue → BusesValue → Type 0
AreTold told next old new = AreChanged (IsTold next) told old new

-- the one at this place
abbrev pub OneIsOver : ℕ → BusesValue → BusesValue → Type 0
OneIsOver place old new = AreChanged IsOver (λ p. p == place) old new

-- of those at these places some were told it
pub record MayBeTold (may : ℕ → Bool) (next : Told) (old new : BusesValue) : Type 0 where
  pub told : ℕ → Bool
  pub among : (place : ℕ) → told place ≡ true → may place ≡ true
  pub are : AreTold told next old new

-- each that a line is for has heard it, also one that it begins; each other one is as it was
pub record HaveHeard (l : Line) (old new : BusesValue) : Type 0 where
  pub begun : BusesValue
  pub begins : HasBegun (hearers_of old l) l old begun
  pub told : AreTold (is_hearer (hearers_of old l)) (Read l) begun new

-- where memory was refused: one that it begins may have begun, and each that it is for has heard it or is as it was
pub record MayHaveHeard (l : Line) (old new : BusesValue) : Type 0 where
  pub begun : BusesValue
  pub begins : (begun ≡ old) ⊎ HasBegun (hearers_of old l) l old begun
  pub told : MayBeTold (is_hearer (hearers_of old l)) (Read l) begun new
