-- The identifications that all the lines tell that a watch was told, newest first: of each unit the newest whose frames were all read.
use Rattle.std.specs.Prelude.{◌≡◌, List, [], ◌∷◌}
use Rattle.bus_model.specs.Overheard.{who_heard}
use Rattle.bus_watch.specs.Runs.{newest_time}
use Rattle.bus_watch.specs.Told.{Addressless, Assumed, Beginning, Read, StandsForAll, Told, all_said, readings_said}
use Rattle.bus_watch.specs.Identified.{IdentifiedValue, halves_claimed, identified_read}
use Rattle.bus_watch.specs.WatchValue.{WatchValue}

-- with these before all; what is assumed is as a claim
abbrev pub identified_said : IdentifiedValue → Beginning → List Told → IdentifiedValue
identified_said first b [] = first
identified_said first b (Read l ∷ older) =
    identified_read b.selection (newest_time (all_said b older).moments) (all_said b older).followed (λ a. who_heard a (readings_said b older)) l (identified_said first b older)
identified_said first b (Assumed name address ∷ older) =
    record (identified_said first b older) { half = halves_claimed (who_heard address (readings_said b older)) address name (identified_said first b older).half }
identified_said first b (Addressless name ∷ older) = identified_said first b older

-- the identifications go on with one more that is told
abbrev pub IdentifiedGoesOn : Told → WatchValue → WatchValue → Type 0
IdentifiedGoesOn next old new =
    (first : IdentifiedValue) (b : Beginning) (ts : List Told) → StandsForAll b ts old → old.identified ≡ identified_said first b ts → new.identified ≡ identified_said first b (next ∷ ts)
