-- What a station reads from the wire.
use Rattle.std.specs.Prelude.{ℕ, ◌-◌, nat_lt, List, [], ◌∷◌, drop, length, slice_index, if◌then◌else◌}
use Rattle.can_frame.specs.declared.reading.Reading.{Reading}
use Rattle.can_frame.specs.declared.reading.Reading.TheVariants.{Frame, Gap, Empty}
use Rattle.bus_ledger.specs.declared.traffic.CarriedFrame.{CarriedFrame}
use Rattle.bus_ledger.specs.BusValue.{Traffic, seat_at}
use Rattle.bus_ledger.specs.Changes.{heard_more}

-- the frames that a station has neither read nor been told of as missed
abbrev pub not_yet_read : Traffic → ℕ → List CarriedFrame
not_yet_read t y = drop (seat_at t y).heard t.wire

-- how many unread frames its window holds
abbrev pub window_at : Traffic → ℕ → ℕ
window_at t y = slice_index t.windows y

-- how many of its unread frames no longer stand in its window
abbrev pub overrun : Traffic → ℕ → ℕ
overrun t y = length (not_yet_read t y) - window_at t y

abbrev pub first_reading : List CarriedFrame → Reading
first_reading [] = Empty
first_reading (c ∷ cs) = Frame c.frame

-- the next reading: a gap where the window was overrun, else the oldest unread frame
abbrev pub next_reading : Traffic → ℕ → Reading
next_reading t y = if nat_lt 0 (overrun t y) then Gap (overrun t y) else first_reading (not_yet_read t y)

-- how many frames a reading passes over
abbrev pub passes : Reading → ℕ
passes (Frame f) = 1
passes (Gap n) = n
passes Empty = 0

-- a station took the reading
abbrev pub reading_taken : ℕ → Reading → Traffic → Traffic
reading_taken y r t = heard_more y (passes r) t
