-- What a watch is: its listener, the lists that it fills, what it knows of the bus that it follows, of which addresses it told that a
-- message came from there without an owner, and what it counts.
use Rattle.std.specs.Prelude.{◌≡◌, ℕ, zero, suc, ◌+◌, ◌-◌, ◌≤◌, Bool, List, [], ◌∷◌, Option, if◌then◌else◌, is_some}
use Rattle.bus_model.specs.Heard.{counted}
use Rattle.bus_model.specs.OverheardChanged.{change_overheard}
use Rattle.bus_model.specs.declared.who.Who.{Who}
use Rattle.can_frame.specs.FrameValue.{FrameValue}
use Rattle.can_frame.specs.declared.reading.Reading.{Reading}
use Rattle.can_frame.specs.declared.reading.Reading.TheVariants.{Frame, Gap, Empty}
use Rattle.candump_line.specs.declared.line.Line.{Line}
use Rattle.dm_messages.specs.declared.kind.Kind.{Kind}
use Rattle.listener.specs.ListenerValue.{HasOverheard, ListenerValue, who_in}
use Rattle.listener.specs.Broken.{half_joined}
use Rattle.listener.specs.Paced.{PacedValue, half_in}
use Rattle.bus_model.specs.declared.overheard.Overheard.{Overheard}
use Rattle.parameter_group.specs.Group.{Group, ConnectionManagement, group_of}
use Rattle.reassembly.specs.declared.pacing.Silence.{Silence}
use Rattle.transport.specs.declared.control.Control.TheVariants.{Rts, Bam}
use Rattle.bus_watch.specs.Contested.{contests_after}
use Rattle.bus_watch.specs.Counted.{partly_after}
use Rattle.bus_watch.specs.Followed.{Followed, followed_after, followed_with, frame_reading, reading_by, time_by}
use Rattle.bus_watch.specs.Runs.{ListsValue, Moment, entries_in, lists_shown, contests_heard, entries_came, kept_heard, newest_time, readings_in, runs_by, runs_under, units_in, units_shown, with_moment}
use Rattle.bus_watch.specs.Tellings.{is_news, told_heard, told_of}
use Rattle.bus_watch.specs.Identified.{IdentifiedValue, identified_read}
use Rattle.bus_watch.specs.declared.change.Changes.{Changes}
use Rattle.bus_watch.specs.declared.selection.Selection.{Selection}

-- how many frames were missed, and how many messages could not be read whole, before a watch started over
pub record CountsBefore : Type 0 where
  pub missed : ℕ
  pub unread : ℕ

-- those; the messages that were read in part; those that were broken; between how many pairs of addresses messages were announced; and the identifications
pub record WatchValue : Type 0 where
  pub listener : ListenerValue
  pub lists : ListsValue
  pub followed : Followed
  pub told : List Bool
  pub before : CountsBefore
  pub partly : ℕ
  pub broken : ℕ
  pub pairs : ℕ
  pub identified : IdentifiedValue

-- its listener as it looks at times
abbrev pub ear_of : WatchValue → PacedValue
ear_of w = record { listener = w.listener; paces = w.followed.packets; silence = w.followed.silence }

-- how many frames were missed in all, and how many messages could not be read whole, or not at all
abbrev pub missed_by : WatchValue → ℕ
missed_by w = counted (w.before.missed + w.listener.missed)

abbrev pub unread_by : WatchValue → ℕ
unread_by w = counted (w.before.unread + w.listener.unread)

abbrev pub unreadable_by : WatchValue → ℕ
unreadable_by w = unread_by w - w.partly

-- how many messages are half joined from a source to destinations below this one, and from sources below this one to all
abbrev pub half_below : WatchValue → ℕ → ℕ → ℕ
half_below w s zero = 0
half_below w s (suc d) = half_below w s d + (if is_some (half_joined (ear_of w) s d) then 1 else 0)

unfoldable pub half_from_source : WatchValue → ℕ → ℕ
half_from_source w s = half_below w s 256

abbrev pub half_from : WatchValue → ℕ → ℕ
half_from w zero = 0
half_from w (suc s) = half_from w s + half_from_source w s

unfoldable pub half_in_all : WatchValue → ℕ
half_in_all w = half_from w 256

-- how a watch begins: which messages are shown, whether bad lines are passed over, how long a message may be silent, the bus, if it is named,
-- when a claim of each address last displaced another NAME, and what was counted before
pub record Beginning : Type 0 where
  pub selection : Selection
  pub skips_bad : Bool
  pub silence : Silence
  pub bus : Option (List ℕ)
  pub contests : List (Option ℕ)
  pub gaps : ℕ
  pub before : CountsBefore
  pub partly : ℕ

-- ---- what is counted

-- how many messages were read in part, after so many before
abbrev pub partly_heard : ℕ → List Moment → ℕ
partly_heard first [] = first
partly_heard first (m ∷ older) = partly_after (change_overheard m.reading (readings_in older)) (partly_heard first older)

-- a message of several packets is announced
abbrev pub announcements_by : Group → ℕ
announcements_by (ConnectionManagement s d (Rts size packets most pgn)) = 1
announcements_by (ConnectionManagement s d (Bam size packets pgn)) = 1
announcements_by g = 0

abbrev pub announcements_in : List Reading → ℕ
announcements_in [] = 0
announcements_in (Gap n ∷ older) = announcements_in older
announcements_in (Empty ∷ older) = announcements_in older
announcements_in (Frame f ∷ older) = announcements_in older + announcements_by (group_of f)

-- lists once it is noted which address what was heard contests
abbrev pub noted_in : Overheard → ListsValue → ListsValue
noted_in c lists = record lists { contests = contests_after lists.time c lists.contests }

-- the listener stands for the readings, newest first, of a watch that began so; each list is what its runs say, of what is shown, and these are
-- those of the entries as they came; the units with entries are those of which one is; it was told of unowned addresses as they were heard; and it
-- counted no pair that was not announced
pub record StandsInRuns (b : Beginning) (w : WatchValue) (h : List Moment) : Type 0 where
  pub listener : HasOverheard w.listener (readings_in h)
  pub shows : w.lists.selection ≡ b.selection
  pub time : w.lists.time ≡ newest_time h
  pub contests : w.lists.contests ≡ contests_heard b.contests h
  pub lists : (u : Who) (k : Kind) → entries_in w.lists u k ≡ lists_shown b.selection h u k
  pub runs : (u : Who) (k : Kind) → runs_under w.lists u k ≡ runs_by (entries_came b.selection b.contests h u k)
  pub kept : w.lists.kept ≡ kept_heard b.selection b.contests h
  pub units : units_in w.lists ≡ units_shown b.selection h
  pub told : w.told ≡ told_heard b.selection h
  pub before : w.before ≡ b.before
  pub partly : w.partly ≡ partly_heard b.partly h
  pub pairs : w.pairs ≤ announcements_in (readings_in h)

-- what is told of a reading is of what it changed
abbrev pub Tells : WatchValue → WatchValue → Reading → Changes → Type 0
Tells old new reading told =
    (b : Beginning) (h : List Moment) → StandsInRuns b old h
    → told ≡ told_of b.selection.unclaimed (is_news old.told old.lists new.lists (change_overheard reading (readings_in h))) (change_overheard reading (readings_in h))

-- a reading is taken, of a line with this time or with none, and this is known of the bus
pub record Takes (old new : WatchValue) (reading : Reading) (time : Option ℕ) (known : Followed) : Type 0 where
  pub stands : (b : Beginning) (h : List Moment) → StandsInRuns b old h → StandsInRuns b new (with_moment reading time h)
  pub followed : new.followed ≡ known

-- a frame is taken that says this and comes at this time, and what is told is of what it changed
abbrev pub TakesGroup : WatchValue → WatchValue → Group → Option ℕ → Type 0
TakesGroup old new g time = (f : FrameValue) → group_of f ≡ g → Takes old new (frame_reading time (half_in old.listener) old.followed f) time (followed_with time g old.followed)

abbrev pub TellsGroup : WatchValue → WatchValue → Group → Option ℕ → Changes → Type 0
TellsGroup old new g time told = (f : FrameValue) → group_of f ≡ g → Tells old new (frame_reading time (half_in old.listener) old.followed f) told

-- the reading that a line is is taken, and it is known of the bus what the line says
abbrev pub HearsLine : WatchValue → WatchValue → Line → Type 0
HearsLine old new line = Takes old new (reading_by (half_in old.listener) old.followed line) (time_by old.followed line) (followed_after old.followed line)

-- and what is told is of what that reading changed
abbrev pub TellsLine : WatchValue → WatchValue → Line → Changes → Type 0
TellsLine old new line told = Tells old new (reading_by (half_in old.listener) old.followed line) told

-- the identifications after a line
abbrev pub identified_in : WatchValue → Line → IdentifiedValue
identified_in w line = identified_read w.lists.selection w.lists.time w.followed (who_in w.listener) line w.identified
