-- A program sends a message of a group that it shares: whether it may, and what goes at a time of that and of what waits (SAE J1939-21).
use Rattle.std.specs.Prelude.{ℕ, ◌&&◌, Bool, true, false, not, nat_lt, is_some, List, length, drop, slice_get, Option, Some, None, if◌then◌else◌}
use Rattle.can_frame.specs.FrameValue.{FrameValue}
use Rattle.reassembly.specs.Tables.{at}
use Rattle.shared_groups.specs.Outgoing.{can_go_to, frame_of_due, is_carried, is_under_way, outgoing_after, outgoing_begun, outgoing_due}
use Rattle.shared_groups.specs.Sharing.{SharedValue, frame_waiting, is_shared}
use Rattle.shared_groups.specs.declared.error.SharedError.{SharedError}
use Rattle.shared_groups.specs.declared.error.SharedError.TheVariants as refusal
use Rattle.shared_groups.specs.declared.outgoing.Due.{Due}
use Rattle.shared_groups.specs.declared.outgoing.Due.TheVariants as due
use Rattle.shared_groups.specs.declared.outgoing.Sent.TheVariants.{Open}
use Rattle.shared_groups.specs.declared.sending.TheConstants.{MOST_BYTES_SENT}
use Rattle.shared_groups.specs.declared.waiting.Waiting.{Waiting}

-- ---- whether it may

-- why a message of so many bytes is not sent, memory aside
abbrev pub why_unsent : SharedValue → ℕ → ℕ → ℕ → Option SharedError
why_unsent x pgn size to =
    if not (is_shared x.groups pgn && is_carried pgn) then Some refusal.NoGroup
    else if not (is_some x.held) then Some refusal.NotHeld
    else if nat_lt MOST_BYTES_SENT size then Some refusal.TooLong
    else if not (can_go_to x.held pgn size to) then Some refusal.NotAnAddress
    else if is_under_way x.outgoing then Some refusal.SessionOpen
    else None

-- it is given to be sent, to who holds that address then
abbrev pub sending_begun : ℕ → ℕ → List ℕ → SharedValue → SharedValue
sending_begun pgn to bytes x = record x { outgoing = outgoing_begun pgn to (at x.owners to) bytes Open }

-- ---- what goes

abbrev pub is_any_due : Due → Bool
is_any_due due.Nothing = false
is_any_due _ = true

-- something waits, or a message that is sent does something at this time
abbrev pub has_to_do : ℕ → SharedValue → Bool
has_to_do now x = if nat_lt 0 (length x.waiting) then true else is_any_due (outgoing_due x.gap now x.outgoing)

-- what waits goes in its order, before what is sent
abbrev pub frame_of_first : ℕ → ℕ → SharedValue → Option Waiting → Option FrameValue
frame_of_first now own x None = frame_of_due own x.outgoing (outgoing_due x.gap now x.outgoing)
frame_of_first now own x (Some w) = Some (frame_waiting own w)

abbrev pub frame_from : ℕ → SharedValue → Option ℕ → Option FrameValue
frame_from now x None = None
frame_from now x (Some own) = frame_of_first now own x (slice_get x.waiting 0)

-- the frame that goes at this time, from the address that is held
abbrev pub frame_due : ℕ → SharedValue → Option FrameValue
frame_due now x = frame_from now x x.held

abbrev pub after_first : ℕ → SharedValue → Option Waiting → SharedValue
after_first now x None = record x { outgoing = outgoing_after now x.outgoing (outgoing_due x.gap now x.outgoing) }
after_first now x (Some w) = record x { waiting = drop 1 x.waiting }

-- then it has gone
abbrev pub after_due : ℕ → SharedValue → SharedValue
after_due now x = if is_some x.held then after_first now x (slice_get x.waiting 0) else x
