-- What the number that a request answers says of what was heard.
use Rattle.std.proofs.Common.{inl, inr, List, ◌≡◌, ℕ, Result, Ok, Err, IfOk, IfErr, ap, subst}
use Rattle.std.specs.Prelude.{◌⊎◌, IsNone, IsOk, IsSome}
use Rattle.bus_model.specs.Heard.{StationSettings, address_heard, address_known}
use Rattle.can_frame.specs.declared.reading.Reading.{Reading}
use Rattle.station_table.specs.Orders.{AnswersAsk}
use Rattle.station_table.specs.declared.error.StationError.{StationError}
use Rattle.station_table.specs.declared.error.StationError.TheVariants as station
use Rattle.station_table.specs.declared.reaction.Reaction.{Reaction}
use Rattle.station_c.specs.Orders.{OrderAsks}
use Rattle.station_c.specs.Statuses.{status_number, status_of_station}
use Rattle.station_c.specs.declared.status.Status.{Status}
use Rattle.station_c.specs.declared.status.Status.TheVariants.{Done}

module _ (spec : Result Reaction StationError) (r : StationSettings) (h : List Reading) (name : ℕ) (a : AnswersAsk r h name spec) where
  asked_so : (e : StationError) → spec ≡ Err e → IsSome (address_heard r h) → IsSome (address_known r name h) → ⊥
  asked_so e is own to = let f : IsOk {T = Reaction} (Err e) = subst (λ (s : Result Reaction StationError). IsOk s) is (a.asked.1 (own, to)) in cc

  none_is : (e : StationError) → spec ≡ Err e → (e ≡ station.NotHeld → ⊥) → IsNone (address_heard r h) → ⊥
  none_is e is other none = other (let f = a.not_held.1 none in cc)

  lost_is : (e : StationError) → spec ≡ Err e → (e ≡ station.NoAddress → ⊥) → IsSome (address_heard r h) × IsNone (address_known r name h) → ⊥
  lost_is e is other lost = other (let f = a.no_address.1 lost in cc)

  when_done : (y : Reaction) (n : ℕ) → spec ≡ Ok y → n ≡ 0 → OrderAsks (address_heard r h) (address_known r name h) n
  when_done y n is e = (
    ((λ f. absurd cc), (λ none. absurd (let f = a.not_held.1 none in cc))),
    ((λ f. absurd cc), (λ lost. absurd (let f = a.no_address.1 lost in cc))),
    λ own to. inl e,
  )

  when_full : (n : ℕ) → (spec ≡ Err station.NotHeld → ⊥) → (spec ≡ Err station.NoAddress → ⊥) → n ≡ 33
      → OrderAsks (address_heard r h) (address_known r name h) n
  when_full n none_not lost_not e = (
    ((λ f. absurd cc), (λ none. absurd (none_not (a.not_held.1 none)))),
    ((λ f. absurd cc), (λ lost. absurd (lost_not (a.no_address.1 lost)))),
    λ own to. inr e,
  )

  when_unheld : (n : ℕ) → spec ≡ Err station.NotHeld → n ≡ 23 → OrderAsks (address_heard r h) (address_known r name h) n
  when_unheld n is e = (
    ((λ f. a.not_held.0 is), (λ none. e)),
    ((λ f. absurd cc), (λ lost. absurd (lost_is station.NotHeld is (λ f. cc) lost))),
    λ own to. absurd (asked_so station.NotHeld is own to),
  )

  when_unknown : (n : ℕ) → spec ≡ Err station.NoAddress → n ≡ 22 → OrderAsks (address_heard r h) (address_known r name h) n
  when_unknown n is e = (
    ((λ f. absurd cc), (λ none. absurd (none_is station.NoAddress is (λ f. cc) none))),
    ((λ f. a.no_address.0 is), (λ lost. e)),
    λ own to. absurd (asked_so station.NoAddress is own to),
  )

  when_far : (n : ℕ) → spec ≡ Err station.NotAnAddress → n ≡ 7 → OrderAsks (address_heard r h) (address_known r name h) n
  when_far n is e = (
    ((λ f. absurd cc), (λ none. absurd (none_is station.NotAnAddress is (λ f. cc) none))),
    ((λ f. absurd cc), (λ lost. absurd (lost_is station.NotAnAddress is (λ f. cc) lost))),
    λ own to. absurd (asked_so station.NotAnAddress is own to),
  )

  -- by what the station answered
  pub asked_told : (answer : Result Reaction StationError) (status : Status) (Q : Reaction → Type 0) (R : Type 0)
      → IfOk answer (λ x. spec ≡ Ok x) → ((e : StationError) → spec ≡ Err e → answer ≡ Err e)
      → IfErr answer (λ e. (e ≡ station.OutOfMemory) ⊎ (spec ≡ Err e))
      → IfOk answer (λ x. (status ≡ Done) × Q x) → IfErr answer (λ e. (status ≡ status_of_station e) × R)
      → OrderAsks (address_heard r h) (address_known r name h) (status_number status)
  asked_told (Ok y) status Q R is so why done told = when_done y (status_number status) is (ap status_number done.0)
  asked_told (Err station.OutOfMemory) status Q R is so why done told =
      when_full (status_number status) (λ f. let g = so station.NotHeld f in cc) (λ f. let g = so station.NoAddress f in cc) (ap status_number told.0)
  asked_told (Err station.NotAnAddress) status Q R is so (inl e) done told = absurd cc
  asked_told (Err station.NotAnAddress) status Q R is so (inr s) done told = when_far (status_number status) s (ap status_number told.0)
  asked_told (Err station.NoAddress) status Q R is so (inl e) done told = absurd cc
  asked_told (Err station.NoAddress) status Q R is so (inr s) done told = when_unknown (status_number status) s (ap status_number told.0)
  asked_told (Err station.NotHeld) status Q R is so (inl e) done told = absurd cc
  asked_told (Err station.NotHeld) status Q R is so (inr s) done told = when_unheld (status_number status) s (ap status_number told.0)
