use Rattle.std.specs.Prelude.{List, []}
use Rattle.can_frame.specs.FrameValue.{FrameValue}
use Rattle.can_frame.specs.declared.frames.Places.{Places}
use Rattle.can_frame.specs.declared.frames.Places.TheVariants.{None, One, Many}

-- the frames that stand in the places of a list
abbrev pub frames_of : Places → List FrameValue
frames_of None = []
frames_of (One frames) = frames
frames_of (Many frames) = frames.items
