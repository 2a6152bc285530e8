-- Which error frames tell of frames that were lost, as the Linux kernel writes them (linux/can/error.h).
use Rattle.std.specs.Prelude.{ℕ, Bool, ◌/◌, ◌%◌, ◌==◌, ◌&&◌, List, slice_index}

-- it is of the class of errors of the controller (0x4), and its second byte says that the controller received more than it could hold (0x1).
-- That it was to send more than it could hold (0x2) loses no frame of another's, nor does an error of any other class
abbrev pub tells_of_lost_frames : ℕ → List ℕ → Bool
tells_of_lost_frames class bytes = (class / 4 % 2 == 1) && (slice_index bytes 1 % 2 == 1)
