-- Packets of a unit's session that went already, and that its receiver asks for again by a clear to send (SAE J1939-21, 5.10.3).
use Rattle.std.specs.Prelude.{ℕ, ◌≤◌, ◌+◌, ◌-◌, ◌==◌, ◌&&◌, ◌||◌, Bool, not, min, nat_le, nat_lt, List, length, Option, Some, None, slice_get, if◌then◌else◌}
use Rattle.can_frame.specs.FrameValue.{FrameValue}
use Rattle.address_claim.specs.Claiming.{is_held}
use Rattle.transport.specs.Messages.{control_frame}
use Rattle.transport.specs.Sending.{SendingValue}
use Rattle.transport.specs.declared.control.Control.{Control}
use Rattle.transport.specs.declared.control.Control.TheVariants.{Cts}
use Rattle.parameter_group.specs.Group.{Group, ConnectionManagement}
use Rattle.node_core.specs.Deed.{marked_parts}
use Rattle.node_core.specs.NodeValue.{NodeValue}
use Rattle.node_core.specs.Pieces.{number_in}
use Rattle.node_core.specs.Reaction.{is_with}
use Rattle.node_core.specs.declared.out.Out.{Out}
use Rattle.node_core.specs.declared.out.Part.{Part}
use Rattle.node_core.specs.declared.out.Part.TheVariants as part
use Rattle.node_core.specs.declared.session.OpenSession.{OpenSession}
use Rattle.live_unit.specs.declared.clock.Asked.{Asked}
use Rattle.live_unit.specs.declared.again.Retransmission.{Retransmission}
use Rattle.live_unit.specs.declared.again.TheConstants.{MOST_AGAIN}
use Rattle.live_unit.specs.Queue.{LaneValue, QueueValue}

-- ---- what is asked for again

-- the number of the packet that a frame is; the request to send is 0
abbrev pub number_of_mark : Option Part → ℕ
number_of_mark (Some p) = number_in p
number_of_mark None = 0

abbrev pub number_of_out : Option Out → ℕ
number_of_out (Some o) = number_of_mark o.part
number_of_out None = 0

-- it is among those that wait: as many as there are frames, from the first on
abbrev pub waits_in : LaneValue → ℕ → Bool
waits_in l number = nat_le (number_of_out (slice_get l.outs 0)) number && nat_lt number (number_of_out (slice_get l.outs 0) + length l.outs)

-- a packet of the session was put, and waits no more
abbrev pub has_gone : SendingValue → LaneValue → ℕ → Bool
has_gone s l number = nat_le 1 number && nat_le number s.queued && not (waits_in l number)

-- it is the first that was not put, and packets that go again wait before it, of which it is not the next
abbrev pub is_beyond : SendingValue → LaneValue → ℕ → Bool
is_beyond s l number =
    (number == s.queued + 1) && nat_lt 0 (length l.outs) && not (number_of_out (slice_get l.outs 0) + length l.outs == s.queued + 1)

-- of so many packets from this one on, those that were put before, and the rest
abbrev pub of_grant : SendingValue → ℕ → ℕ → Retransmission
of_grant s granted next = record { first = next; again = min granted (s.queued + 1 - next); rest = granted - (s.queued + 1 - next) }

-- a clear to send of packets of which the first has gone asks for them again; one of the first that was not put ends what goes again
abbrev pub again_of : Option OpenSession → LaneValue → ℕ → ℕ → ℕ → ℕ → Option Retransmission
again_of None l source granted next pgn = None
again_of (Some s) l source granted next pgn =
    if is_with s source pgn && not (granted == 0) && (has_gone s.sending l next || is_beyond s.sending l next) then Some (of_grant s.sending granted next)
    else None

abbrev pub again_by_control : NodeValue → LaneValue → ℕ → ℕ → Control → Option Retransmission
again_by_control node l source destination (Cts granted next pgn) =
    if is_held node.claimer.held destination then again_of node.session l source granted next pgn else None
again_by_control node l source destination _ = None

-- what is said asks for packets of the open session again, or ends that
abbrev pub again_by : NodeValue → QueueValue → Group → Option Retransmission
again_by node q (ConnectionManagement source destination control) = again_by_control node q.session source destination control
again_by node q _ = None

-- ---- how often

abbrev pub never_asked : Asked
never_asked = record { packet = 0; times = 0 }

-- how often the packet, or an earlier one, was asked for again before
abbrev pub times_before : Asked → ℕ → ℕ
times_before a number = if nat_le number a.packet then a.times else 0

abbrev pub is_too_often : Asked → ℕ → Bool
is_too_often a number = nat_le MOST_AGAIN (times_before a number)

-- after a frame was heard, by what it asks for again and whether a session was open
abbrev pub asked_then : Option Retransmission → Bool → Asked → Asked
asked_then (Some r) has_session a =
    if r.again == 0 then a
    else if is_too_often a r.first then never_asked
    else record { packet = r.first; times = times_before a r.first + 1 }
asked_then None has_session a = if has_session then a else never_asked

-- ---- what goes

-- what may: packets that were put
pub record WerePut (r : Retransmission) (s : SendingValue) : Type 0 where
  pub first : 1 ≤ r.first
  pub within : r.first + r.again ≤ s.queued + 1

-- the packets that were put before, from an address
abbrev pub parts_again : SendingValue → ℕ → Retransmission → List Out
parts_again s source r = marked_parts (λ j. part.Session j) s.payload s.pgn source s.dest r.first (r.first + r.again)

-- the rest is what a clear to send asks for that names the first packet not yet put; where all 255 were, there is none
abbrev pub rest_again : SendingValue → ℕ → Retransmission → FrameValue
rest_again s source r = control_frame (Cts r.rest (min (s.queued + 1) 255) s.pgn) s.dest source
