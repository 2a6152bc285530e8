-- What a call answers tells whether the station was asked and what it did.
use Rattle.std.proofs.Common.{◌≡◌, Result, Ok, Err, IfErr, OnOk, refl, sym, ◌∙◌}
use Rattle.station_table.specs.declared.error.StationError.{StationError}
use Rattle.station_table.specs.declared.error.StationError.TheVariants as station
use Rattle.station_c.specs.Statuses.{status_number, status_of_station}
use Rattle.station_c.specs.declared.status.Status.{Status}
use Rattle.station_c.specs.declared.status.Status.TheVariants.{Done, IdTooLarge, TooLong, NotAnAddress, NoAddress, NotHeld, BadSetting, PgnTooLarge, NoStation, HasStation, NoPlace, NoKind, OutOfMemory, NotKept, SpnTooLarge, FmiTooLarge, MemoryFull, NotActive, NoUnit, HasUnit, QueueFull, SessionOpen, NotPending, NoListener, HasListener, OrderOpen, NoGroup, NoRoom, NotSaved}

pub refusal_is_not_done : (e : StationError) → status_of_station e ≡ Done → ⊥
refusal_is_not_done station.OutOfMemory h = cc
refusal_is_not_done station.NotAnAddress h = cc
refusal_is_not_done station.NoAddress h = cc
refusal_is_not_done station.NotHeld h = cc

-- where the call was done, the station answered
pub done_is_ok : {T : Type 0} (P Q R : Type 0) (answer : Result T StationError) (status : Status)
    → IfErr answer (λ e. (status ≡ status_of_station e) × Q × R) → status ≡ Done → OnOk answer P → P
done_is_ok P Q R (Ok x) status refused done ok = ok
done_is_ok P Q R (Err e) status refused done ok = absurd (refusal_is_not_done e (sym refused.0 ∙ done))

-- 0 is the number of nothing else
pub done_by_number : (status : Status) → status_number status ≡ 0 → status ≡ Done
done_by_number Done h = refl
done_by_number IdTooLarge h = absurd cc
done_by_number TooLong h = absurd cc
done_by_number NotAnAddress h = absurd cc
done_by_number NoAddress h = absurd cc
done_by_number NotHeld h = absurd cc
done_by_number BadSetting h = absurd cc
done_by_number PgnTooLarge h = absurd cc
done_by_number NoStation h = absurd cc
done_by_number HasStation h = absurd cc
done_by_number NoPlace h = absurd cc
done_by_number NoKind h = absurd cc
done_by_number OutOfMemory h = absurd cc
done_by_number NotKept h = absurd cc
done_by_number SpnTooLarge h = absurd cc
done_by_number FmiTooLarge h = absurd cc
done_by_number MemoryFull h = absurd cc
done_by_number NotActive h = absurd cc
done_by_number NoUnit h = absurd cc
done_by_number HasUnit h = absurd cc
done_by_number QueueFull h = absurd cc
done_by_number SessionOpen h = absurd cc
done_by_number NotPending h = absurd cc
done_by_number NoListener h = absurd cc
done_by_number HasListener h = absurd cc
done_by_number OrderOpen h = absurd cc
done_by_number NoGroup h = absurd cc
done_by_number NoRoom h = absurd cc
done_by_number NotSaved h = absurd cc
