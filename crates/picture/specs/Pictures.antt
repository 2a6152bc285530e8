-- What is kept of a log for its picture.
use Rattle.std.specs.Prelude.{ℕ, List, Option}
use Rattle.picture.specs.Histories.{HistoryValue}
use Rattle.picture.specs.Tracks.{TrackValue}
use Rattle.picture.specs.declared.handover.Handover.{Handover}
use Rattle.picture.specs.declared.lane.UnitLane.{UnitLane}
use Rattle.picture.specs.declared.picture.Axis.{Axis}

-- the lanes, gaps and handovers with the number of those that are left out, the changes and how many are of no lane, and what moments are, the line, and
-- the first and the newest time
pub record PictureValue : Type 0 where
  pub lanes : List UnitLane
  pub gaps : TrackValue
  pub handovers : List Handover
  pub handovers_left_out : ℕ
  pub history : HistoryValue
  pub undrawn : ℕ
  pub axis : Option Axis
  pub line : ℕ
  pub start : Option ℕ
  pub newest : ℕ
