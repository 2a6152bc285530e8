-- A listener that looks at times, the lists that it fills, and the messages that it heard break.
use Rattle.std.specs.Prelude.{◌≡◌, ℕ, List, [], ◌∷◌, Option}
use Rattle.bus_model.specs.OverheardChanged.{change_overheard}
use Rattle.bus_model.specs.declared.overheard.Overheard.{Overheard}
use Rattle.can_frame.specs.FrameValue.{FrameValue}
use Rattle.can_frame.specs.declared.reading.Reading.{Reading}
use Rattle.can_frame.specs.declared.reading.Reading.TheVariants.{Gap}
use Rattle.listener.specs.Broken.{broken_count, may_end, with_numbers, those_broken, was_whole}
use Rattle.listener.specs.ListenerValue.{HasOverheard}
use Rattle.listener.specs.NewestSent.{KeepsOverheard, NewestSentValue}
use Rattle.listener.specs.Paced.{PacedValue, fate_in, paces_after, reading_in}
use Rattle.listener.specs.declared.broken.BrokenMessage.{BrokenMessage}
use Rattle.parameter_group.specs.Group.{group_of}
use Rattle.reassembly.specs.Pairs.{no_pairs}
use Rattle.reassembly.specs.declared.pacing.Silence.TheVariants.{Standard}

-- the listener; which entries are kept; the messages that the newest frame broke, and how many were broken so far
pub record ListedListenerValue : Type 0 where
  pub ear : PacedValue
  pub lists : NewestSentValue
  pub broken : List BrokenMessage
  pub broken_count : ℕ

-- it has what was overheard of readings, newest first: its tables, and the newest entries of each list
abbrev pub HasHeard : ListedListenerValue → List Reading → Type 0
HasHeard v h = HasOverheard v.ear.listener h × KeepsOverheard v.lists h

-- it knows of no message under way, and lets one be silent as long as the standard does
pub record KnowsOfNone (v : ListedListenerValue) : Type 0 where
  pub paces : v.ear.paces ≡ no_pairs
  pub silence : v.ear.silence ≡ Standard
  pub broken : v.broken ≡ []
  pub count : v.broken_count ≡ 0

-- a reading was taken that changed this
pub record TakesHeard (before : ListedListenerValue) (x : Reading) (c : Overheard) (after : ListedListenerValue) : Type 0 where
  pub heard : (h : List Reading) → HasHeard before h → HasHeard after (x ∷ h)
  pub change : (h : List Reading) → HasHeard before h → c ≡ change_overheard x h
  pub silence : after.ear.silence ≡ before.ear.silence
  pub keeps : after.lists.keep ≡ before.lists.keep

-- a frame was taken that came at this time: read, but for a packet that is late or comes again; and of the messages that were half joined
-- those are broken that it ended
pub record TakesFrame (before : ListedListenerValue) (now : Option ℕ) (f : FrameValue) (c : Overheard) (after : ListedListenerValue) : Type 0 where
  pub takes : TakesHeard before (reading_in before.ear now (group_of f) f) c after
  pub paces : after.ear.paces ≡ paces_after before.ear.silence now (group_of f) before.ear.paces
  pub broken : after.broken ≡ with_numbers before.broken_count
      (those_broken after.ear (was_whole c) (may_end before.ear (fate_in before.ear now (group_of f)) (group_of f)))
  pub count : after.broken_count ≡ broken_count before.broken_count
      (those_broken after.ear (was_whole c) (may_end before.ear (fate_in before.ear now (group_of f)) (group_of f)))

-- frames were missed: what was half joined is let go, and of none of it is told
pub record TakesGap (before : ListedListenerValue) (missed : ℕ) (c : Overheard) (after : ListedListenerValue) : Type 0 where
  pub takes : TakesHeard before (Gap missed) c after
  pub paces : after.ear.paces ≡ before.ear.paces
  pub broken : after.broken ≡ []
  pub count : after.broken_count ≡ before.broken_count
