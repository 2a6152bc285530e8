-- A station's window: a ring of the latest unread frames.
use Rattle.std.specs.Prelude.{ℕ, ◌+◌, ◌-◌, ◌<◌, ◌^◌, ◌==◌, nat_lt, List, [], ◌∷◌, ◌++◌, drop, length, map, slice_index_or, if◌then◌else◌}
use Rattle.circular_buffer.specs.Buffer.{keep_last}
use Rattle.can_frame.specs.FrameValue.{FrameValue}
use Rattle.can_frame.specs.declared.reading.Reading.{Reading}
use Rattle.can_frame.specs.declared.reading.Reading.TheVariants.{Frame, Gap, Empty}
use Rattle.bus_ledger.specs.declared.traffic.CarriedFrame.{CarriedFrame}
use Rattle.bus_ledger.specs.BusValue.{Traffic}
use Rattle.bus_ledger.specs.Reception.{not_yet_read, window_at}

-- how many frames it holds at most, those that it holds, the oldest first, and how many went out of it unread
pub record WindowValue : Type 0 where
  pub size : ℕ
  pub unread : List FrameValue
  pub missed : ℕ

abbrev pub window : ℕ → List FrameValue → ℕ → WindowValue
window size not_yet_read missed = record { size = size; unread = not_yet_read; missed = missed }

-- what stands at a number of no station
abbrev pub no_window : WindowValue
no_window = window 0 [] 0

abbrev pub window_in : List WindowValue → ℕ → WindowValue
window_in ws y = slice_index_or ws y no_window

abbrev pub size_of : WindowValue → ℕ
size_of w = w.size

-- each can count one frame more as missed
abbrev pub AllMayMiss : List WindowValue → Type 0
AllMayMiss ws = (y : ℕ) → y < length ws → (window_in ws y).missed < 2 ^ 32 - 1

-- one frame more; the oldest goes out of a full window, and counts as missed
abbrev pub pushed : FrameValue → WindowValue → WindowValue
pushed f w = window w.size (keep_last w.size (w.unread ++ f ∷ [])) (w.missed + (length w.unread + 1 - w.size))

-- a frame was carried from seat k; the own frames of the station on seat y are no readings of it
abbrev pub taken_in : ℕ → ℕ → FrameValue → WindowValue → WindowValue
taken_in y k f w = if k == y then w else pushed f w

abbrev pub first_of : List FrameValue → Reading
first_of [] = Empty
first_of (f ∷ fs) = Frame f

-- what was missed is told before any frame
abbrev pub reading_of : WindowValue → Reading
reading_of w = if nat_lt 0 w.missed then Gap w.missed else first_of w.unread

-- what is left after that reading
abbrev pub rest_of : WindowValue → WindowValue
rest_of w = if nat_lt 0 w.missed then window w.size w.unread 0 else window w.size (drop 1 w.unread) w.missed

-- what a window of this size holds of the frames that its station has not read, and how many it has missed
abbrev pub seen_through : ℕ → List FrameValue → WindowValue
seen_through size fs = window size (keep_last size fs) (length fs - size)

abbrev pub frame_of : CarriedFrame → FrameValue
frame_of c = c.frame

-- a station's window as the traffic leaves it
abbrev pub window_of : Traffic → ℕ → WindowValue
window_of t y = seen_through (window_at t y) (map frame_of (not_yet_read t y))
