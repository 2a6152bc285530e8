-- Sessions that a unit refuses or ends by an abort for what it hears, and for which reason (SAE J1939-21, connection abort; reasons 1, 4
-- and 5 from memory).
use Rattle.std.specs.Prelude.{ℕ, ◌≡◌, ◌∷◌, [], ◌&&◌, ◌==◌, Bool, true, false, not, nat_le, Option, Some, None, is_some, if◌then◌else◌}
use Rattle.can_frame.specs.FrameValue.{FrameValue}
use Rattle.can_frame.specs.declared.address.TheConstants.{GREATEST_ADDRESS}
use Rattle.address_claim.specs.Claiming.{is_held}
use Rattle.transport.specs.Messages.{control_frame}
use Rattle.transport.specs.declared.control.Control.{Control}
use Rattle.transport.specs.declared.control.Control.TheVariants.{Abort, Cts, Rts}
use Rattle.parameter_group.specs.Group.{Group, ConnectionManagement}
use Rattle.node_core.specs.NodeValue.{NodeValue}
use Rattle.node_core.specs.Reaction.{is_with}
use Rattle.node_core.specs.declared.heard.Withdraw.{Withdraw}
use Rattle.node_core.specs.declared.heard.Withdraw.TheVariants as withdraw
use Rattle.node_core.specs.declared.session.OpenSession.{OpenSession}
use Rattle.live_unit.specs.declared.aborting.OwedAbort.{OwedAbort}
use Rattle.live_unit.specs.declared.aborting.TheConstants.{ALREADY_IN_SESSION, ASKED_TOO_OFTEN, CLEARED_WHILE_SENDING}
use Rattle.live_unit.specs.Again.{waits_in}
use Rattle.live_unit.specs.Queue.{LaneValue, QueueValue}

-- the frame of an abort
abbrev pub abort_of : OwedAbort → ℕ → FrameValue
abort_of a source = control_frame (Abort a.reason a.pgn) source a.dest

-- where the open session ends by it, what waits of that is withdrawn
abbrev pub withdrawn_for : OwedAbort → Withdraw
withdrawn_for a = if a.ends then withdraw.Session else withdraw.Keep

-- of a session that is refused, since one is open
abbrev pub refused_beside : ℕ → ℕ → OwedAbort
refused_beside source pgn = record { reason = ALREADY_IN_SESSION; pgn = pgn; dest = source; ends = false }

-- of the open session, for this reason
abbrev pub ended_for : ℕ → OpenSession → OwedAbort
ended_for reason s = record { reason = reason; pgn = s.sending.pgn; dest = s.sending.dest; ends = true }

-- a clear to send names a packet that was put and waits: those before it are on their way
abbrev pub is_still_sent : OpenSession → LaneValue → ℕ → Bool
is_still_sent s l next = nat_le 1 next && nat_le next s.sending.queued && waits_in l next

-- one that its receiver sends of packets, while these go, ends the session
abbrev pub ended_by_clear : Option OpenSession → LaneValue → ℕ → ℕ → ℕ → ℕ → Option OwedAbort
ended_by_clear None l source granted next pgn = None
ended_by_clear (Some s) l source granted next pgn =
    if is_with s source pgn && not (granted == 0) && is_still_sent s l next then Some (ended_for CLEARED_WHILE_SENDING s) else None

-- a request to send, from who can hold an address, is refused while a session is open
abbrev pub abort_by_control : NodeValue → LaneValue → ℕ → Control → Option OwedAbort
abort_by_control node l source (Rts size packets most pgn) =
    if nat_le source GREATEST_ADDRESS && is_some node.session then Some (refused_beside source pgn) else None
abort_by_control node l source (Cts granted next pgn) = ended_by_clear node.session l source granted next pgn
abort_by_control node l source _ = None

-- what is said to the address held is answered with an abort, or is not
abbrev pub abort_by : NodeValue → QueueValue → Group → Option OwedAbort
abort_by node q (ConnectionManagement source destination control) =
    if is_held node.claimer.held destination then abort_by_control node q.session source control else None
abort_by node q _ = None
