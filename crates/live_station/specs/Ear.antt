-- Which frames the station is told of: all but its own, which a bus may tell it of as of any other, and packets of a session with it that are not the next one.
use Rattle.std.specs.Prelude.{ℕ, Bool, true, false, ◌==◌, ◌&&◌, ◌||◌, List, [], ◌∷◌, Option, Some, None, if◌then◌else◌}
use Rattle.can_frame.specs.Fields.{source_of}
use Rattle.can_frame.specs.FrameValue.{FrameValue}
use Rattle.can_frame.specs.declared.reading.Reading.{Reading}
use Rattle.can_frame.specs.declared.reading.Reading.TheVariants.{Frame, Gap, Empty}
use Rattle.address_claim.specs.Claiming.{ClaimerValue, is_held}
use Rattle.parameter_group.specs.Group.{Group, AddressClaimed, CannotClaim, DataTransfer, group_of}
use Rattle.bus_model.specs.Heard.{Joining, StationSettings, claimer_heard, session_heard}
use Rattle.reassembly.specs.Partials.{answer_to}
use Rattle.entry_lists.specs.declared.entry.NewEntry.{NewEntry}
use Rattle.station_table.specs.Listing.{entry_heard}
use Rattle.transport.specs.declared.took.Took.{Took}
use Rattle.transport.specs.declared.took.Took.TheVariants.{Broken}

-- a frame is the station's own: a claim under its NAME, or anything but a claim from the address that it holds
abbrev pub is_own_by : ℕ → Option ℕ → ℕ → Group → Bool
is_own_by own held source (AddressClaimed address name) = name == own
is_own_by own held source (CannotClaim name) = name == own
is_own_by own held source _ = is_held held source

abbrev pub is_own : ClaimerValue → FrameValue → Bool
is_own c f = is_own_by c.name c.held (source_of f.id) (group_of f)

-- a packet that is so answered is not the next one of what is half joined
abbrev pub breaks_session : Option Took → Bool
breaks_session (Some Broken) = true
breaks_session _ = false

-- a packet to the address held is out of turn in the session from its source: it came already, or one before it is missing
abbrev pub is_out_of_turn : Option ℕ → Option Joining → Group → Bool
is_out_of_turn held session (DataTransfer source destination bytes) = is_held held destination && breaks_session (answer_to bytes session)
is_out_of_turn held session _ = false

-- the station is not told of it
abbrev pub is_untold : ClaimerValue → Option Joining → FrameValue → Bool
is_untold c session f = is_own c f || is_out_of_turn c.held session (group_of f)

-- by what it was told before
abbrev pub is_untold_after : StationSettings → List Reading → FrameValue → Bool
is_untold_after r told f = is_untold (claimer_heard r told) (session_heard r (source_of f.id) told) f

-- what it is told of what was heard, newest first
abbrev pub frames_told : StationSettings → List Reading → List Reading
frames_told r [] = []
frames_told r (Gap count ∷ older) = Gap count ∷ frames_told r older
frames_told r (Empty ∷ older) = Empty ∷ frames_told r older
frames_told r (Frame f ∷ older) = if is_untold_after r (frames_told r older) f then frames_told r older else Frame f ∷ frames_told r older

-- the entry that a frame lists
abbrev pub entry_of_told : StationSettings → FrameValue → List Reading → Option NewEntry
entry_of_told r f older = if is_untold_after r (frames_told r older) f then None else entry_heard r (Frame f) (frames_told r older)
