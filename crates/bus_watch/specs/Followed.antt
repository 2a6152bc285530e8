-- What a line is to the listener: exactly one reading, by the line and what was before it.
use Rattle.std.specs.Borrow.{Bor}
use Rattle.std.specs.Prelude.{ℕ, Bool, true, false, if◌then◌else◌, List, Option, Some, None}
use Rattle.std.specs.Str.{bytes_eq}
use Rattle.can_frame.specs.FrameValue.{FrameValue}
use Rattle.can_frame.specs.declared.reading.Reading.{Reading}
use Rattle.can_frame.specs.declared.reading.Reading.TheVariants as reading
use Rattle.candump_line.specs.declared.line.Line.{Line}
use Rattle.candump_line.specs.declared.line.Line.TheVariants as line
use Rattle.bus_model.specs.Overheard.{HalfSent}
use Rattle.parameter_group.specs.Group.{Group, group_of}
use Rattle.reassembly.specs.declared.pacing.Pace.{Pace}
use Rattle.reassembly.specs.declared.pacing.Silence.{Silence}
use Rattle.listener.specs.Paced.{paces_after, reading_paced}

-- what is known of the bus that is followed: whether bad lines are passed over; how long a message may be silent; the bus, once a line named
-- it; and how the message stands from each source to each destination
pub record Followed : Type 0 where
  pub skips_bad : Bool
  pub silence : Silence
  pub bus : Option (List ℕ)
  pub packets : List (List (Option Pace))

-- whether a line that names this bus is of the one that is followed, which is the first that is named; one without is of none
abbrev pub is_watched : Option (List ℕ) → Option (Bor (List ℕ)) → Bool
is_watched followed None = false
is_watched None (Some bus) = true
is_watched (Some followed) (Some bus) = bytes_eq followed bus.now

-- whether frames that were dropped may be of the bus that is followed
abbrev pub may_be_watched : Option (List ℕ) → Option (Bor (List ℕ)) → Bool
may_be_watched (Some followed) (Some bus) = bytes_eq followed bus.now
may_be_watched _ _ = true

-- the bus that is followed after a line that names this one
abbrev pub bus_after : Option (List ℕ) → Option (Bor (List ℕ)) → Option (List ℕ)
bus_after followed None = followed
bus_after None (Some bus) = Some bus.now
bus_after (Some followed) (Some bus) = Some followed

-- the bus once a line gave it this name, or none since it had one
abbrev pub renamed : Option (List ℕ) → Option (List ℕ) → Option (List ℕ)
renamed None followed = followed
renamed (Some name) followed = Some name

abbrev pub with_bus_name : Option (List ℕ) → Followed → Followed
with_bus_name name f = record f { bus = renamed name f.bus }

abbrev pub with_bus : Option (Bor (List ℕ)) → Followed → Followed
with_bus bus f = record f { bus = bus_after f.bus bus }

-- what is known after a frame of the bus that says this
abbrev pub followed_with : Option ℕ → Group → Followed → Followed
followed_with time g f = record f { packets = paces_after f.silence time g f.packets }

-- the reading that a frame is, where this is half sent: all are read but a packet that is late, or comes again as it was asked for
abbrev pub frame_reading : Option ℕ → (ℕ → ℕ → Option HalfSent) → Followed → FrameValue → Reading
frame_reading time half f frame = reading_paced f.silence time f.packets half frame

-- the reading that a line is: the frame of a line of the bus, but for such a packet; as many missed frames as a line tells of; one where a
-- line is bad and bad lines count; else the empty one
abbrev pub reading_by : (ℕ → ℕ → Option HalfSent) → Followed → Line → Reading
reading_by half f (line.Frame time bus frame) = if is_watched f.bus bus then frame_reading time half f frame else reading.Empty
reading_by half f (line.Dropped bus count) = if may_be_watched f.bus bus then reading.Gap count else reading.Empty
reading_by half f (line.Overflow time bus) = if is_watched f.bus bus then reading.Gap 1 else reading.Empty
reading_by half f (line.Bad reason) = if f.skips_bad then reading.Empty else reading.Gap 1
reading_by half f _ = reading.Empty

-- the time of a line of the bus that is followed, where it has one
abbrev pub time_by : Followed → Line → Option ℕ
time_by f (line.Frame time bus frame) = if is_watched f.bus bus then time else None
time_by f (line.Overflow time bus) = if is_watched f.bus bus then time else None
time_by f _ = None

-- what is known after a line
abbrev pub followed_after : Followed → Line → Followed
followed_after f (line.Frame time bus frame) = if is_watched f.bus bus then followed_with time (group_of frame) (with_bus bus f) else f
followed_after f (line.Overflow time bus) = with_bus bus f
followed_after f (line.Foreign bus what) = with_bus bus f
followed_after f _ = f
