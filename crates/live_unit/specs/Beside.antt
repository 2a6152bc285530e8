-- What a unit writes and does while a message of several packets to all goes that its caller sends in its name: a unit has one on its way at a
-- time (SAE J1939-21, broadcast announcement).
use Rattle.std.specs.Prelude.{ℕ, ◌&&◌, ◌||◌, ◌==◌, Bool, false, not, nat_lt, Option, Some, None, length, slice_get}
use Rattle.can_frame.specs.Fields.{pgn_of}
use Rattle.can_frame.specs.FrameValue.{FrameValue}
use Rattle.can_frame.specs.declared.group_numbers.TheConstants.{CONNECTION_MANAGEMENT, DATA_TRANSFER}
use Rattle.fault_memory.specs.Memory.{MemoryValue}
use Rattle.node_core.specs.NodeValue.{NodeValue}
use Rattle.node_core.specs.declared.out.Out.{Out}
use Rattle.live_unit.specs.declared.clock.UnitClock.{UnitClock}
use Rattle.live_unit.specs.Queue.{QueueValue, waits}
use Rattle.live_unit.specs.Times.{is_left_alone}

-- a frame of a message of several packets
abbrev pub is_of_several : FrameValue → Bool
is_of_several f = pgn_of f.id == CONNECTION_MANAGEMENT || pgn_of f.id == DATA_TRANSFER

abbrev pub begins_several : Option Out → Bool
begins_several (Some o) = is_of_several o.frame
begins_several None = false

-- nothing but a message of several packets to all would go next: it waits for the end of the other one
abbrev pub is_withheld : QueueValue → Bool
is_withheld q =
    not (waits q.claims) && not (waits q.singles) && not (waits q.session) && begins_several (slice_get q.messages.outs 0)

-- its DM1 does not fit one frame: it has more than one active code
abbrev pub tells_several : MemoryValue → Bool
tells_several m = nat_lt 1 (length m.active)

-- such a DM1 does not begin meanwhile; a session that was left alone is given up all the same
abbrev pub is_silent : UnitClock → ℕ → NodeValue → MemoryValue → QueueValue → Bool
is_silent c now node m q = tells_several m && not (is_left_alone c now node q)
