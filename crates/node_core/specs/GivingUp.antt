-- A session that is left alone is given up (SAE J1939-21, connection abort), and what holds it open (TP.CM_CTS).
use Rattle.std.specs.Prelude.{ℕ, Bool, false, ◌==◌, ◌&&◌, List, [], ◌∷◌, Option, Some, None}
use Rattle.can_frame.specs.FrameValue.{FrameValue}
use Rattle.address_claim.specs.Claiming.{is_held}
use Rattle.parameter_group.specs.Group.{Group, ConnectionManagement}
use Rattle.transport.specs.Messages.{control_frame}
use Rattle.transport.specs.declared.control.Control.{Control}
use Rattle.transport.specs.declared.control.Control.TheVariants.{Abort, Cts}
use Rattle.node_core.specs.NodeValue.{NodeValue}
use Rattle.node_core.specs.Deed.{plain}
use Rattle.node_core.specs.Reaction.{is_open_with}
use Rattle.node_core.specs.declared.session.OpenSession.{OpenSession}
use Rattle.node_core.specs.declared.out.Out.{Out}
use Rattle.node_core.specs.declared.heard.Answer.TheVariants.{NotAsked}
use Rattle.node_core.specs.declared.heard.Heard.{Heard}
use Rattle.node_core.specs.declared.heard.Withdraw.{Withdraw}
use Rattle.node_core.specs.declared.heard.Withdraw.TheVariants as withdraw

-- the abort for want of an answer (reason 3), from the address held to the session's destination, about its group
abbrev pub parting_of : OpenSession → ℕ → FrameValue
parting_of s source = control_frame (Abort 3 s.sending.pgn) source s.sending.dest

-- what is put where it is given up
abbrev pub put_at_parting : Option OpenSession → Option ℕ → List Out
put_at_parting (Some s) (Some source) = plain (parting_of s source) ∷ []
put_at_parting _ _ = []

-- what is withdrawn before: the frames of the session
abbrev pub withdrawn_at_parting : Option OpenSession → Withdraw
withdrawn_at_parting (Some s) = withdraw.Session
withdrawn_at_parting None = withdraw.Keep

-- all of it
abbrev pub given_up : NodeValue → Heard
given_up node = record {
  withdraw = withdrawn_at_parting node.session;
  put = put_at_parting node.session node.claimer.held;
  begun = None;
  answer = NotAsked;
}

-- a clear to send of 0, to the address held, from the session's destination, about its group
abbrev pub holds_it_open : NodeValue → ℕ → ℕ → Control → Bool
holds_it_open node source destination (Cts granted next pgn) =
    (granted == 0) && is_held node.claimer.held destination && is_open_with node.session source pgn
holds_it_open node source destination _ = false

-- what is said holds the open session open
abbrev pub is_held_open : NodeValue → Group → Bool
is_held_open node (ConnectionManagement source destination control) = holds_it_open node source destination control
is_held_open node _ = false
