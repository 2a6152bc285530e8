-- What a listener told of readings that it took, and frames that it took one after the other, each with its time.
use Rattle.std.specs.Prelude.{◌≡◌, ◌==◌, ◌<◌, ◌≤◌, ◌^◌, ◌&&◌, ◌||◌, ℕ, Bool, true, List, [], ◌∷◌, ◌++◌, Option, Some, None, if◌then◌else◌}
use Rattle.std.specs.List.{list_all}
use Rattle.bus_model.specs.declared.overheard.Overheard.{Overheard}
use Rattle.can_frame.specs.FrameValue.{FrameValue}
use Rattle.station_c.specs.HeardRecords.{TellsHeard}
use Rattle.station_c.specs.ListedListeners.{ListedListenerValue, TakesFrame, TakesGap}
use Rattle.station_c.specs.Records.{frame_recorded}
use Rattle.station_c.specs.declared.heard_records.HeardRecord.{HeardRecord}
use Rattle.station_c.specs.declared.log_records.LoggedRecord.{LoggedRecord}
use Rattle.station_c.specs.declared.records.FrameRecord.{FrameRecord}
use Rattle.station_c.specs.declared.told.TheConstants.{NO_TIME}

-- the time that a call hands over, if it hands over one
abbrev pub time_handed : ℕ → Option ℕ
time_handed now = if now == NO_TIME then None else Some now

-- a frame was taken that came at this time, and it is told what it changed and broke
pub record OverhearsFrame (before : ListedListenerValue) (now : Option ℕ) (f : FrameValue) (told : HeardRecord) (after : ListedListenerValue) : Type 0 where
  pub change : Overheard
  pub takes : TakesFrame before now f change after
  pub tells : TellsHeard told change after.broken

-- frames were missed, and that is told
pub record HearsGap (before : ListedListenerValue) (missed : ℕ) (told : HeardRecord) (after : ListedListenerValue) : Type 0 where
  pub change : Overheard
  pub takes : TakesGap before missed change after
  pub tells : TellsHeard told change []

-- a record tells all that its frame did: nothing broke by it, or one message and nothing else changed
abbrev pub tells_all : HeardRecord → Bool
tells_all told = told.broken == 0 || (told.broken == 1 && told.what == 8)

-- frames were taken one after the other at these times, with what was told of each; before the last one all was told
pub data HearsFrames : ListedListenerValue → List FrameRecord → List LoggedRecord → List HeardRecord → ListedListenerValue → Type 0 where
  HearsNone : (v : ListedListenerValue) → HearsFrames v [] [] [] v
  HearsMore : (before between after : ListedListenerValue) (fs : List FrameRecord) (ls : List LoggedRecord) (cs : List HeardRecord) (f : FrameRecord) (l : LoggedRecord) (c : HeardRecord)
      → HearsFrames before fs ls cs between → list_all tells_all cs ≡ true → f.id < 2 ^ 29 → f.len ≤ 8 → OverhearsFrame between (time_handed l.time) (frame_recorded f) c after
      → HearsFrames before (fs ++ f ∷ []) (ls ++ l ∷ []) (cs ++ c ∷ []) after
