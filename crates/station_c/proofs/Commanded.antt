-- What the number that a command answers says of what was heard.
use Rattle.std.proofs.Common.{inl, inr, List, ◌≡◌, ◌<◌, ◌≤◌, ℕ, Result, Ok, Err, IfOk, IfErr, ap, subst}
use Rattle.std.specs.Prelude.{◌⊎◌, IsNone, IsOk, IsSome}
use Rattle.bus_model.specs.Heard.{StationSettings, address_heard}
use Rattle.can_frame.specs.declared.address.TheConstants.{GREATEST_ADDRESS}
use Rattle.can_frame.specs.declared.reading.Reading.{Reading}
use Rattle.station_table.specs.Orders.{AnswersCommand}
use Rattle.station_table.specs.declared.error.StationError.{StationError}
use Rattle.station_table.specs.declared.error.StationError.TheVariants as station
use Rattle.station_table.specs.declared.reaction.Reaction.{Reaction}
use Rattle.station_c.specs.Orders.{OrderCommands}
use Rattle.station_c.specs.Statuses.{status_number, status_of_station}
use Rattle.station_c.specs.declared.status.Status.{Status}
use Rattle.station_c.specs.declared.status.Status.TheVariants.{Done}

module _ (spec : Result Reaction StationError) (r : StationSettings) (h : List Reading) (address : ℕ) (a : AnswersCommand r h address spec) where
  refused_so : (e : StationError) → spec ≡ Err e → address ≤ GREATEST_ADDRESS → IsSome (address_heard r h) → ⊥
  refused_so e is le some = let f : IsOk {T = Reaction} (Err e) = subst (λ (s : Result Reaction StationError). IsOk s) is (a.commanded.1 (le, some)) in cc

  far_is : (e : StationError) → spec ≡ Err e → (e ≡ station.NotAnAddress → ⊥) → GREATEST_ADDRESS < address → ⊥
  far_is e is other far = other (let f = a.not_an_address.1 far in cc)

  none_is : (e : StationError) → spec ≡ Err e → (e ≡ station.NotHeld → ⊥) → (address ≤ GREATEST_ADDRESS) × IsNone (address_heard r h) → ⊥
  none_is e is other none = other (let f = a.not_held.1 none in cc)

  when_done : (y : Reaction) (n : ℕ) → spec ≡ Ok y → n ≡ 0 → OrderCommands (address_heard r h) address n
  when_done y n is e = (
    ((λ f. absurd cc), (λ far. absurd (let f = a.not_an_address.1 far in cc))),
    ((λ f. absurd cc), (λ none. absurd (let f = a.not_held.1 none in cc))),
    λ le some. inl e,
  )

  when_full : (n : ℕ) → (spec ≡ Err station.NotAnAddress → ⊥) → (spec ≡ Err station.NotHeld → ⊥) → n ≡ 33 → OrderCommands (address_heard r h) address n
  when_full n far_not none_not e = (
    ((λ f. absurd cc), (λ far. absurd (far_not (a.not_an_address.1 far)))),
    ((λ f. absurd cc), (λ none. absurd (none_not (a.not_held.1 none)))),
    λ le some. inr e,
  )

  when_far : (n : ℕ) → spec ≡ Err station.NotAnAddress → n ≡ 7 → OrderCommands (address_heard r h) address n
  when_far n is e = (
    ((λ f. a.not_an_address.0 is), (λ far. e)),
    ((λ f. absurd cc), (λ none. absurd (none_is station.NotAnAddress is (λ f. cc) none))),
    λ le some. absurd (refused_so station.NotAnAddress is le some),
  )

  when_unknown : (n : ℕ) → spec ≡ Err station.NoAddress → n ≡ 22 → OrderCommands (address_heard r h) address n
  when_unknown n is e = (
    ((λ f. absurd cc), (λ far. absurd (far_is station.NoAddress is (λ f. cc) far))),
    ((λ f. absurd cc), (λ none. absurd (none_is station.NoAddress is (λ f. cc) none))),
    λ le some. absurd (refused_so station.NoAddress is le some),
  )

  when_unheld : (n : ℕ) → spec ≡ Err station.NotHeld → n ≡ 23 → OrderCommands (address_heard r h) address n
  when_unheld n is e = (
    ((λ f. absurd cc), (λ far. absurd (far_is station.NotHeld is (λ f. cc) far))),
    ((λ f. a.not_held.0 is), (λ none. e)),
    λ le some. absurd (refused_so station.NotHeld is le some),
  )

  -- by what the station answered
  pub commanded_told : (answer : Result Reaction StationError) (status : Status) (Q : Reaction → Type 0) (R : Type 0)
      → IfOk answer (λ x. spec ≡ Ok x) → ((e : StationError) → spec ≡ Err e → answer ≡ Err e)
      → IfErr answer (λ e. (e ≡ station.OutOfMemory) ⊎ (spec ≡ Err e))
      → IfOk answer (λ x. (status ≡ Done) × Q x) → IfErr answer (λ e. (status ≡ status_of_station e) × R)
      → OrderCommands (address_heard r h) address (status_number status)
  commanded_told (Ok y) status Q R is so why done told = when_done y (status_number status) is (ap status_number done.0)
  commanded_told (Err station.OutOfMemory) status Q R is so why done told =
      when_full (status_number status) (λ f. let g = so station.NotAnAddress f in cc) (λ f. let g = so station.NotHeld f in cc) (ap status_number told.0)
  commanded_told (Err station.NotAnAddress) status Q R is so (inl e) done told = absurd cc
  commanded_told (Err station.NotAnAddress) status Q R is so (inr s) done told = when_far (status_number status) s (ap status_number told.0)
  commanded_told (Err station.NoAddress) status Q R is so (inl e) done told = absurd cc
  commanded_told (Err station.NoAddress) status Q R is so (inr s) done told = when_unknown (status_number status) s (ap status_number told.0)
  commanded_told (Err station.NotHeld) status Q R is so (inl e) done told = absurd cc
  commanded_told (Err station.NotHeld) status Q R is so (inr s) done told = when_unheld (status_number status) s (ap status_number told.0)
