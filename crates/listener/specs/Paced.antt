-- A listener that looks at times: which reading a frame is to it, and what it holds.
use Rattle.std.specs.Prelude.{◌≡◌, ℕ, Bool, true, false, List, ◌∷◌, Option, Some, None, if◌then◌else◌}
use Rattle.bus_model.specs.Overheard.{HalfSent, between_heard}
use Rattle.bus_model.specs.OverheardChanged.{change_overheard}
use Rattle.bus_model.specs.declared.overheard.Overheard.{Overheard}
use Rattle.can_frame.specs.FrameValue.{FrameValue}
use Rattle.can_frame.specs.declared.reading.Reading.{Reading}
use Rattle.can_frame.specs.declared.reading.Reading.TheVariants.{Frame, Empty}
use Rattle.parameter_group.specs.Group.{Group, ConnectionManagement, DataTransfer, group_of}
use Rattle.reassembly.specs.Pacing.{announces, fate_of, paces_managed, paces_packeted}
use Rattle.reassembly.specs.Pairs.{pair_at}
use Rattle.reassembly.specs.declared.paces.Fate.{Fate}
use Rattle.reassembly.specs.declared.paces.Fate.TheVariants.{Read}
use Rattle.reassembly.specs.declared.pacing.Pace.{Pace}
use Rattle.reassembly.specs.declared.pacing.Silence.{Silence}
use Rattle.listener.specs.ListenerValue.{HasOverheard, ListenerValue}
use Rattle.listener.specs.SentEntries.{HasTaken, SaysSent, entry_sent, group_listed}
use Rattle.listener.specs.declared.entry.SentEntry.{SentEntry}

-- the listener; how messages between any two addresses stand, by source and destination; and how long they may be silent
pub record PacedValue : Type 0 where
  pub listener : ListenerValue
  pub paces : List (List (Option Pace))
  pub silence : Silence

-- what is to be done with a frame that says this and comes now, by what is half sent from each source to each destination
abbrev pub fate_by : Silence → Option ℕ → List (List (Option Pace)) → (ℕ → ℕ → Option HalfSent) → Group → Fate
fate_by silence now paces half (DataTransfer s d bytes) = fate_of silence now bytes (pair_at paces s d) (half s d)
fate_by silence now paces half g = Read

abbrev pub is_read : Fate → Bool
is_read Read = true
is_read _ = false

-- the reading that a frame is: none where it is a packet that is withheld or passed over
abbrev pub reading_if : Fate → FrameValue → Reading
reading_if fate f = if is_read fate then Frame f else Empty

abbrev pub reading_paced : Silence → Option ℕ → List (List (Option Pace)) → (ℕ → ℕ → Option HalfSent) → FrameValue → Reading
reading_paced silence now paces half f = reading_if (fate_by silence now paces half (group_of f)) f

-- how messages stand after a frame that says this and comes now
abbrev pub paces_after : Silence → Option ℕ → Group → List (List (Option Pace)) → List (List (Option Pace))
paces_after silence now (ConnectionManagement s d message) paces = paces_managed silence now s d message paces
paces_after silence now (DataTransfer s d bytes) paces = paces_packeted silence now s d bytes paces
paces_after silence now g paces = paces

-- what is half sent by what was heard
abbrev pub half_heard : List Reading → ℕ → ℕ → Option HalfSent
half_heard h s d = between_heard s d h

-- between which addresses a message is announced, if one is
abbrev pub announced_between : Group → Option (ℕ × ℕ)
announced_between (ConnectionManagement s d message) = if announces d message then Some (s, d) else None
announced_between g = None

-- ---- by the tables

-- what is half sent
abbrev pub half_in : ListenerValue → ℕ → ℕ → Option HalfSent
half_in l s d = pair_at l.pairs s d

abbrev pub fate_in : PacedValue → Option ℕ → Group → Fate
fate_in l now g = fate_by l.silence now l.paces (half_in l.listener) g

-- the reading that a frame is, and the entry that it lists
abbrev pub reading_in : PacedValue → Option ℕ → Group → FrameValue → Reading
reading_in l now g f = reading_if (fate_in l now g) f

abbrev pub listed_if : Fate → ListenerValue → Group → Option SentEntry
listed_if fate l g = if is_read fate then group_listed l g else None

abbrev pub listed_in : PacedValue → Option ℕ → Group → Option SentEntry
listed_in l now g = listed_if (fate_in l now g) l.listener g

-- a listener has taken a reading that lists this entry, and said this of it; and its lists have taken the entry
pub record IsHeard {L : Type 0} (takes : L → SentEntry → L → Type 0) (old new : ListenerValue) (before after : L) (x : Reading) (entry : Option SentEntry) (c : Overheard) : Type 0 where
  pub stands : (h : List Reading) → HasOverheard old h → HasOverheard new (x ∷ h)
  pub heard : (h : List Reading) → HasOverheard old h → c ≡ change_overheard x h
  pub listed : (h : List Reading) → HasOverheard old h → HasTaken takes before (entry_sent x h) after
  pub says : SaysSent c entry
  pub put : HasTaken takes before entry after
