-- What a unit may do on hearing a frame, and what that comes to: what it withdraws, what it queues, what it begins, and
-- what it keeps from then on.
use Rattle.std.specs.Prelude.{ℕ, ◌+◌, ◌-◌, ◌==◌, List, [], ◌∷◌, map, Option, Some, None, if◌then◌else◌}
use Rattle.std.specs.List.{range_with_len}
use Rattle.can_frame.specs.FrameValue.{FrameValue}
use Rattle.can_frame.specs.declared.address.TheConstants.{GLOBAL_ADDRESS}
use Rattle.transport.specs.Messages.{part_of_message, last_part}
use Rattle.transport.specs.Sending.{new_sending, after_queueing}
use Rattle.address_claim.specs.Frames.{claim_frame_value}
use Rattle.fault_memory.specs.Memory.{MemoryValue}
use Rattle.dm_messages.specs.View.{pgn_of_kind, payload_of}
use Rattle.dm_messages.specs.declared.kind.Kind.{Kind}
use Rattle.node_core.specs.NodeValue.{NodeValue}
use Rattle.node_core.specs.declared.session.OpenSession.{OpenSession}
use Rattle.node_core.specs.declared.out.Out.{Out}
use Rattle.node_core.specs.declared.out.Part.{Part}
use Rattle.node_core.specs.declared.out.Part.TheVariants as part
use Rattle.node_core.specs.declared.heard.Answer.{Answer}
use Rattle.node_core.specs.declared.heard.Answer.TheVariants.{NotAsked}
use Rattle.node_core.specs.declared.heard.Begun.{Begun}
use Rattle.node_core.specs.declared.heard.Heard.{Heard}
use Rattle.node_core.specs.declared.heard.Withdraw.{Withdraw}
use Rattle.node_core.specs.declared.heard.Withdraw.TheVariants as withdraw

pub data Deed : Type 0 where
  Nothing : Deed
  Replies : (frame : FrameValue) → Deed  -- queues one frame
  Begins : (kind : Kind) (memory : MemoryValue) (source destination : ℕ) → Deed  -- begins a message of that memory
  Sends : (session : OpenSession) (source count : ℕ) → Deed  -- queues so many further packets of the open session
  EndsSession : Deed  -- ends the session and withdraws its frames
  Claims : (name : ℕ) (held : Option ℕ) → Deed  -- withdraws all, ends the session, holds that address or none, and says so

-- a frame that is no part of a message
abbrev pub plain : FrameValue → Out
plain f = record { frame = f; part = None }

-- part j of a message, marked
abbrev pub marked_part : (ℕ → Part) → List ℕ → ℕ → ℕ → ℕ → ℕ → Out
marked_part mark payload pgn source destination j =
    record { frame = part_of_message payload pgn source destination j; part = Some (mark j) }

-- the parts of a message from `first` up to the one before `end`
abbrev pub marked_parts : (ℕ → Part) → List ℕ → ℕ → ℕ → ℕ → ℕ → ℕ → List Out
marked_parts mark payload pgn source destination first end =
    map (marked_part mark payload pgn source destination) (range_with_len first (end - first))

-- the parts that are queued when a message begins: all that go to all, of a session the first
abbrev pub first_parts : List ℕ → ℕ → ℕ
first_parts payload destination = if destination == GLOBAL_ADDRESS then last_part payload + 1 else 1

-- the frames queued when a message begins
abbrev pub parts_begun : List ℕ → ℕ → ℕ → ℕ → List Out
parts_begun payload pgn source destination =
    marked_parts (λ j. part.Begun j) payload pgn source destination 0 (first_parts payload destination)

-- further packets of an open session: parts of the payload with which it began
abbrev pub parts_of_session : OpenSession → ℕ → ℕ → List Out
parts_of_session s source count =
    marked_parts (λ j. part.Session j) s.sending.payload s.sending.pgn source s.sending.dest (s.sending.queued + 1) (s.sending.queued + 1 + count)

-- the frames queued, in order
abbrev pub put_of : Deed → List Out
put_of Nothing = []
put_of (Replies frame) = plain frame ∷ []
put_of (Begins kind memory source destination) = parts_begun (payload_of kind memory) (pgn_of_kind kind) source destination
put_of (Sends session source count) = parts_of_session session source count
put_of EndsSession = []
put_of (Claims name held) = plain (claim_frame_value name held) ∷ []

-- the frames withdrawn before
abbrev pub withdraw_of : Deed → Withdraw
withdraw_of EndsSession = withdraw.Session
withdraw_of (Claims name held) = withdraw.All
withdraw_of _ = withdraw.Keep

-- the message begun
abbrev pub begun_of : Deed → Option Begun
begun_of (Begins kind memory source destination) = Some (record { kind = kind; source = source; dest = destination })
begun_of _ = None

-- what is withdrawn, queued and begun, with what the unit answered
abbrev pub heard_of : Answer → Deed → Heard
heard_of answer deed = record { withdraw = withdraw_of deed; put = put_of deed; begun = begun_of deed; answer = answer }

-- the answer by which a message of this payload begins
abbrev pub begin_answer : List ℕ → Begun → Heard
begin_answer payload begun =
    record {
      withdraw = withdraw.Keep;
      put = parts_begun payload (pgn_of_kind begun.kind) begun.source begun.dest;
      begun = Some begun;
      answer = NotAsked;
    }

-- a session whose first frame alone is queued
abbrev pub opened : Kind → MemoryValue → ℕ → OpenSession
opened kind memory destination =
    record { kind = kind; sending = new_sending (payload_of kind memory) destination (pgn_of_kind kind) }

-- the same session with so many packets more queued
abbrev pub further : OpenSession → ℕ → OpenSession
further s count = record { kind = s.kind; sending = after_queueing s.sending count }

-- what the unit keeps after a deed
abbrev pub after_deed : NodeValue → Deed → NodeValue
after_deed node (Begins kind memory source destination) =
    if destination == GLOBAL_ADDRESS then node else record node { session = Some (opened kind memory destination) }
after_deed node (Sends session source count) = record node { session = Some (further session count) }
after_deed node EndsSession = record node { session = None }
after_deed node (Claims name held) = record node { claimer = record node.claimer { held = held }; session = None }
after_deed node _ = node
