-- When what goes: times are microseconds of any clock, and waits are added to the time that is handed in.
use Rattle.std.specs.Prelude.{ℕ, ◌+◌, ◌*◌, ◌%◌, ◌^◌, ◌&&◌, ◌||◌, ◌==◌, Bool, true, false, not, nat_le, nat_lt, Option, Some, None, slice_get, is_some, if◌then◌else◌}
use Rattle.fault_memory.specs.Memory.{MemoryValue}
use Rattle.dm_messages.specs.declared.kind.Kind.TheVariants.{Dm1}
use Rattle.node_core.specs.NodeValue.{NodeValue, is_open}
use Rattle.node_core.specs.declared.out.Out.{Out}
use Rattle.node_core.specs.declared.out.Part.{Part}
use Rattle.node_core.specs.declared.out.Part.TheVariants as part
use Rattle.live_unit.specs.declared.clock.UnitClock.{UnitClock}
use Rattle.live_unit.specs.declared.clock.UnitSettings.{UnitSettings}
use Rattle.live_unit.specs.declared.clock.TheConstants.{ANSWER_WITHIN, HELD_FOR, LONGEST_PAUSE}
use Rattle.live_unit.specs.declared.queue.Lane.{Lane}
use Rattle.live_unit.specs.declared.queue.Lane.TheVariants.{Claims, Singles, Session, Messages}
use Rattle.live_unit.specs.Again.{never_asked}
use Rattle.live_unit.specs.Queue.{LaneValue, QueueValue, waits}
use Rattle.live_unit.specs.Telling.{has_to_tell, is_change_due, told_nothing, told_something}
use Rattle.live_unit.specs.Waits.{later}

-- nothing was written yet, so nothing is put off
abbrev pub clock_at_start : UnitClock
clock_at_start = record { claim_from = 0; claimed = false; settled_from = 0; packet_from = 0; alone_from = 0; dm1_from = 0; told = told_nothing; asked = never_asked }

-- ---- what is written when

-- a further packet of a message
abbrev pub is_further_part : Option Part → Bool
is_further_part (Some (part.Begun j)) = nat_lt 0 j
is_further_part _ = false

abbrev pub is_further : Option Out → Bool
is_further (Some o) = is_further_part o.part
is_further None = false

-- the first frame of the messages goes: a further packet only after the gap
abbrev pub message_goes : UnitClock → ℕ → LaneValue → Bool
message_goes c now l = waits l && (not (is_further (slice_get l.outs 0)) || nat_le c.packet_from now)

-- what of the lanes but the claims goes: single frames first, then those of a session, then messages to all
abbrev pub other_lane_due : UnitClock → ℕ → QueueValue → Option Lane
other_lane_due c now q =
    if waits q.singles then Some Singles
    else if waits q.session then Some Session
    else if message_goes c now q.messages then Some Messages
    else None

-- the lane whose first frame goes at this time: a claim goes before all, and nothing else until the unit has settled
abbrev pub lane_due : UnitClock → ℕ → QueueValue → Option Lane
lane_due c now q =
    if waits q.claims then (if nat_le c.claim_from now then Some Claims else None)
    else if nat_le c.settled_from now then other_lane_due c now q
    else None

-- a claim puts off all but claims, once for each address that the unit takes: it is the first that is written since (SAE J1939-81). Another
-- one of the same address, as an answer to a request or to defend it, puts off nothing
abbrev pub clock_claimed : UnitSettings → ℕ → UnitClock → UnitClock
clock_claimed s now c = if c.claimed then c else record c { settled_from = later now s.settle; claimed = true }

-- what a frame that is written puts off: all but claims, the next packet of a broadcast, the end of the session's patience
abbrev pub clock_written : UnitSettings → Lane → ℕ → UnitClock → UnitClock
clock_written s Claims now c = clock_claimed s now c
clock_written s Singles now c = c
clock_written s Session now c = record c { alone_from = later now ANSWER_WITHIN }
clock_written s Messages now c = record c { packet_from = later now s.gap }

-- a unit that can claim no address says so after a pause of 0 to 153 ms, by its identity number
abbrev pub pause_of : ℕ → ℕ
pause_of name = 1000 * (name % 2 ^ 21 % (LONGEST_PAUSE + 1))

-- it holds the address that it held, or none as before
abbrev pub is_same_address : Option ℕ → Option ℕ → Bool
is_same_address None None = true
is_same_address (Some before) (Some after) = before == after
is_same_address _ _ = false

-- it held an address, and holds none
abbrev pub has_lost : Option ℕ → Option ℕ → Bool
has_lost before after = is_some before && not (is_some after)

-- the times after a frame was heard: a session that was held open by it has its time anew, a unit that lost its address waits, and one that
-- took another address has not claimed that yet
abbrev pub clock_after_hearing : Bool → Option ℕ → Option ℕ → ℕ → ℕ → UnitClock → UnitClock
clock_after_hearing held_open before after name now c = record c {
  alone_from = if held_open then later now HELD_FOR else c.alone_from;
  claim_from = if has_lost before after then later now (pause_of name) else c.claim_from;
  claimed = c.claimed && is_same_address before after;
}

-- a message to all of which frames waited was withdrawn
abbrev pub is_cut : QueueValue → QueueValue → Bool
is_cut q q' = waits q.messages && not (waits q'.messages)

-- where it may have been a DM1 of its own, that is to begin anew: the second since then counts as over
abbrev pub clock_cut : Bool → ℕ → UnitClock → UnitClock
clock_cut cut now c = record c { dm1_from = if cut then now else c.dm1_from }

-- from when on the unit may send frames beside those that wait: it holds an address, and no claim of it waits
abbrev pub free_from : UnitClock → NodeValue → QueueValue → Option ℕ
free_from c node q = if is_some node.claimer.held && not (waits q.claims) then Some c.settled_from else None

-- ---- what a unit does of its own accord

-- its session was left alone: no frame of it waits, and its time is over
abbrev pub is_left_alone : UnitClock → ℕ → NodeValue → QueueValue → Bool
is_left_alone c now node q = is_some node.session && not (waits q.session) && nat_le c.alone_from now

-- it holds an address and has settled, and no claim, no message to all and no session of a DM1 is on its way
abbrev pub is_free_for_dm1 : UnitClock → ℕ → NodeValue → QueueValue → Bool
is_free_for_dm1 c now node q =
    is_some node.claimer.held && nat_le c.settled_from now && not (waits q.claims) && not (waits q.messages) && not (is_open node.session Dm1)

-- the second since its latest DM1 is over, and it has something to tell, or told something by that
abbrev pub is_second_over : UnitSettings → UnitClock → ℕ → MemoryValue → Bool
is_second_over s c now memory = nat_le c.dm1_from now && (s.always || told_something c.told || has_to_tell memory)

-- a DM1 of its own is due: each second while it has something to tell, and once after that; and at once where a change is to be told
abbrev pub is_dm1_due : UnitSettings → UnitClock → ℕ → Bool → NodeValue → MemoryValue → QueueValue → Bool
is_dm1_due s c now willing node memory q =
    willing && is_free_for_dm1 c now node q && (is_second_over s c now memory || is_change_due now c.told memory)
