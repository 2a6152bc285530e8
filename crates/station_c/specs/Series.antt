-- Frames that a station took one after the other.
use Rattle.std.specs.Prelude.{◌≡◌, ◌<◌, ◌≤◌, ◌^◌, ◌==◌, ℕ, List, [], ◌∷◌, ◌++◌}
use Rattle.bus_model.specs.Changed.{change_heard}
use Rattle.bus_model.specs.Heard.{StationSettings}
use Rattle.can_frame.specs.declared.reading.Reading.{Reading}
use Rattle.can_frame.specs.declared.reading.Reading.TheVariants.{Frame}
use Rattle.entry_lists.specs.Newest.{KeepsNewest}
use Rattle.station_table.specs.Listing.{lists_heard}
use Rattle.station_table.specs.Reactions.{silent, station_reaction}
use Rattle.station_table.specs.StandsFor.{StandsFor}
use Rattle.station_table.specs.declared.reaction.Reaction.{Reaction}
use Rattle.station_c.specs.ListedStations.{ListedStationValue}
use Rattle.station_c.specs.Records.{TellsChange, frame_recorded, frames_recorded}
use Rattle.station_c.specs.declared.changes.ChangeRecord.{ChangeRecord}
use Rattle.station_c.specs.declared.records.FrameRecord.{FrameRecord}
use Rattle.station_c.specs.declared.records.ReplyRecord.{ReplyRecord}

-- what a reply says to withdraw and to queue
abbrev pub reaction_told : ReplyRecord → Reaction
reaction_told reply = record { withdraw = reply.withdraw == 1; put = frames_recorded reply }

-- a reading was taken: the station with its lists, what is told of the change and the reply are what the call of one reading promises
pub record TakesReading (before : ListedStationValue) (x : Reading) (told : ChangeRecord) (reply : Reaction) (after : ListedStationValue) : Type 0 where
  pub stands : (r : StationSettings) (grant : ℕ) (h : List Reading) → StandsFor r grant before.station h → StandsFor r grant after.station (x ∷ h)
  pub lists : (r : StationSettings) (grant : ℕ) (h : List Reading) → StandsFor r grant before.station h → KeepsNewest before.lists (lists_heard r h)
      → KeepsNewest after.lists (lists_heard r (x ∷ h))
  pub keeps : after.lists.keep ≡ before.lists.keep
  pub replied : reply ≡ station_reaction before.station x
  pub changed : (r : StationSettings) (grant : ℕ) (h : List Reading) → StandsFor r grant before.station h
      → TellsChange told (change_heard r x h)

-- frames were taken one after the other, with what was told of each: none; or some, to which the station did not reply, and one more
pub data TakesFrames : ListedStationValue → List FrameRecord → List ChangeRecord → Reaction → ListedStationValue → Type 0 where
  TakesNone : (v : ListedStationValue) → TakesFrames v [] [] silent v
  TakesMore : (before between after : ListedStationValue) (fs : List FrameRecord) (cs : List ChangeRecord) (f : FrameRecord) (c : ChangeRecord) (reply : Reaction)
      → TakesFrames before fs cs silent between → f.id < 2 ^ 29 → f.len ≤ 8 → TakesReading between (Frame (frame_recorded f)) c reply after
      → TakesFrames before (fs ++ f ∷ []) (cs ++ c ∷ []) reply after
