-- The last moment of each frame that is awaited, by sessions of the standard's form (SAE J1939-21, 5.10.3).
use Rattle.std.specs.Prelude.{◌≡◌, ℕ, ◌+◌, Bool, true, false, List, [], ◌∷◌, Some}
use Rattle.reassembly.specs.Pacing.{pace_announced, is_over, pace_after}
use Rattle.reassembly.specs.declared.pacing.Pace.{Pace}
use Rattle.reassembly.specs.declared.pacing.Silence.TheVariants.{Standard}
use Rattle.reassembly.specs.declared.pacing.Step.{Step}
use Rattle.reassembly.specs.declared.pacing.Step.TheVariants.{Cts, Packet}

-- frames at their times, the oldest first
abbrev pub after_steps : Pace → List (ℕ × Step) → Pace
after_steps pace [] = pace
after_steps pace ((time, step) ∷ later) = after_steps (pace_after Standard (Some time) step pace) later

-- a message is announced to all or to one address at time 0, these frames come, and then this one: in time at this moment, late at the next
abbrev pub IsLastMoment : Bool → List (ℕ × Step) → Step → ℕ → Type 0
IsLastMoment to_all before step time =
    (is_over (pace_after Standard (Some time) step (after_steps (pace_announced to_all (Some 0)) before)) ≡ false)
    × (is_over (pace_after Standard (Some (time + 1)) step (after_steps (pace_announced to_all (Some 0)) before)) ≡ true)

-- two packets are let come; the first of them is read; the second too
abbrev pub let_come : List (ℕ × Step)
let_come = (10000, Cts 2 1) ∷ []

abbrev pub first_read : List (ℕ × Step)
first_read = (10000, Cts 2 1) ∷ (20000, Packet 1) ∷ []

abbrev pub both_read : List (ℕ × Step)
both_read = (10000, Cts 2 1) ∷ (20000, Packet 1) ∷ (30000, Packet 2) ∷ []

-- the session is held, once or three times
abbrev pub held_once : List (ℕ × Step)
held_once = (10000, Cts 0 255) ∷ []

abbrev pub held_on : List (ℕ × Step)
held_on = (500000, Cts 0 255) ∷ (1000000, Cts 0 255) ∷ (1500000, Cts 0 255) ∷ []
