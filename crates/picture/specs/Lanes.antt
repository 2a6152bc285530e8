-- A lane: what one unit held and told.
use Rattle.std.specs.Prelude.{ℕ, Bool, List, Option, None, Some, slice_get}
use Rattle.std.specs.List.{position}
use Rattle.picture.specs.Tracks.{TrackValue}
use Rattle.picture.specs.Units.{same_unit}
use Rattle.picture.specs.declared.lane.Holding.{Holding}
use Rattle.picture.specs.declared.lane.MessageMarks.{MessageMarks}
use Rattle.picture.specs.declared.unit.DrawnUnit.{DrawnUnit}

-- whose it is; when it held which address, and which it holds; whether its address is another one's by now; and its messages of each kind
pub record DrawnLane : Type 0 where
  pub unit : DrawnUnit
  pub addresses : TrackValue
  pub holding : Holding
  pub is_past : Bool
  pub dm1 : MessageMarks
  pub dm2 : MessageMarks
  pub dm6 : MessageMarks

-- the place of the lane of a unit, and the lane
abbrev pub lane_place : DrawnUnit → List DrawnLane → Option ℕ
lane_place unit lanes = position (λ lane. same_unit lane.unit unit) lanes

abbrev pub lane_there : Option ℕ → List DrawnLane → Option DrawnLane
lane_there (Some place) lanes = slice_get lanes place
lane_there None lanes = None

abbrev pub lane_in : List DrawnLane → DrawnUnit → Option DrawnLane
lane_in lanes unit = lane_there (lane_place unit lanes) lanes
