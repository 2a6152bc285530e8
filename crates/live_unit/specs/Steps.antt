-- What one call changes of a unit that takes part in a bus.
use Rattle.std.specs.Prelude.{ℕ, ◌≡◌, ◌∷◌, [], ◌⊎◌, ◌≤◌, ◌<◌, Bool, true, false, nat_le, Option, None, Some, is_some, slice_get, if◌then◌else◌}
use Rattle.can_frame.specs.FrameValue.{FrameValue}
use Rattle.can_frame.specs.declared.address.TheConstants.{GLOBAL_ADDRESS}
use Rattle.transport.specs.declared.control.Control.{Control}
use Rattle.transport.specs.declared.control.Control.TheVariants.{Rts, Cts}
use Rattle.parameter_group.specs.Group.{Group, Request, ConnectionManagement, group_of}
use Rattle.address_claim.specs.Frames.{claim_frame_value, claim_source}
use Rattle.fault_memory.specs.Memory.{MemoryValue}
use Rattle.dm_messages.specs.View.{payload_of, pgn_of_kind}
use Rattle.dm_messages.specs.declared.kind.Kind.{Kind}
use Rattle.dm_messages.specs.declared.kind.Kind.TheVariants.{Dm1}
use Rattle.node_core.specs.Asking.{IsAnswerTo, is_agreed}
use Rattle.node_core.specs.NodeValue.{NodeValue, is_open}
use Rattle.node_core.specs.Deed.{EndsSession, after_deed, parts_begun, plain}
use Rattle.node_core.specs.GivingUp.{given_up, is_held_open}
use Rattle.node_core.specs.Reaction.{Reacts, noted_from, question}
use Rattle.node_core.specs.Staying.{is_commanded_to_stay}
use Rattle.node_core.specs.declared.heard.Answer.{Answer}
use Rattle.node_core.specs.declared.heard.Answer.TheVariants.{NotAsked}
use Rattle.node_core.specs.declared.heard.Heard.{Heard}
use Rattle.node_core.specs.declared.heard.Withdraw.TheVariants as withdraw
use Rattle.node_core.specs.declared.out.Out.{Out}
use Rattle.node_core.specs.declared.session.OpenSession.{OpenSession}
use Rattle.live_unit.specs.declared.again.Retransmission.{Retransmission}
use Rattle.live_unit.specs.declared.clock.Asked.{Asked}
use Rattle.live_unit.specs.declared.clock.UnitClock.{UnitClock}
use Rattle.live_unit.specs.declared.clock.UnitSettings.{UnitSettings}
use Rattle.live_unit.specs.declared.told.TheConstants.{DM1_PERIOD}
use Rattle.live_unit.specs.declared.queue.Lane.{Lane}
use Rattle.live_unit.specs.declared.queue.TheConstants.{MOST_PUT}
use Rattle.live_unit.specs.declared.node.Act.{Act}
use Rattle.live_unit.specs.declared.node.Act.TheVariants as act
use Rattle.live_unit.specs.declared.aborting.OwedAbort.{OwedAbort}
use Rattle.live_unit.specs.declared.aborting.TheConstants.{ASKED_TOO_OFTEN}
use Rattle.live_unit.specs.Aborts.{abort_by, abort_of, ended_for, withdrawn_for}
use Rattle.live_unit.specs.Again.{again_by, asked_then, is_too_often, parts_again, rest_again}
use Rattle.live_unit.specs.Queue.{HasFreeLanes, QueueValue, TakesFirst, claiming_anew, lane_of, putting, after_heard, after_withdrawing}
use Rattle.live_unit.specs.Telling.{after_telling}
use Rattle.live_unit.specs.Times.{clock_after_hearing, clock_cut, clock_written, is_cut, is_dm1_due, is_left_alone, lane_due}
use Rattle.live_unit.specs.Waits.{later}

-- a unit: what it keeps of the bus, its fault memory, and what waits to be written
pub record Standing : Type 0 where
  pub node : NodeValue
  pub memory : MemoryValue
  pub queue : QueueValue

abbrev pub standing : NodeValue → MemoryValue → QueueValue → Standing
standing node memory queue = record { node = node; memory = memory; queue = queue }

-- a frame was heard: the answer, the node and the memory are what is owed; what is withdrawn and put for it is withdrawn and put
pub record HasHeardInFull (f : FrameValue) (answer : Answer) (u u' : Standing) : Type 0 where
  pub heard : Heard
  pub answer_is : heard.answer ≡ answer
  pub reacts : Reacts f u.node u.memory heard u'.node u'.memory
  pub queue : u'.queue ≡ after_heard heard (claim_source u'.node.claimer.held) u.queue

-- a command to hold the address that is held was heard (SAE J1939-81): it counts as heard, and is put to the unit. Where that agreed its claim
-- is put, in the place of claims that wait. Nothing else changes: its session stays, and so does all else that waits
pub record HasStayed (f : FrameValue) (answer : Answer) (u u' : Standing) : Type 0 where
  pub answered : IsAnswerTo (question u.node f) answer
  pub node : u'.node ≡ noted_from u.node (group_of f)
  pub memory : u'.memory ≡ u.memory
  pub queue : u'.queue ≡ (if is_agreed answer then claiming_anew (claim_frame_value u.node.claimer.name u.node.claimer.held) u.queue else u.queue)

-- a frame was heard: such a command, or any other
pub record HasHeardBesides (f : FrameValue) (answer : Answer) (u u' : Standing) : Type 0 where
  pub stays : is_commanded_to_stay u.node (group_of f) ≡ true → HasStayed f answer u u'
  pub in_full : is_commanded_to_stay u.node (group_of f) ≡ false → HasHeardInFull f answer u u'

-- packets of the open session go again: what of it waits is withdrawn, those that were put before are put once more, and the node hears of
-- the rest
pub record SendsAgain (r : Retransmission) (s : OpenSession) (answer : Answer) (u u' : Standing) : Type 0 where
  pub heard : Heard
  pub answer_is : heard.answer ≡ answer
  pub reacts : Reacts (rest_again s.sending (claim_source u.node.claimer.held) r) u.node u.memory heard u'.node u'.memory
  pub queue : u'.queue ≡ after_heard heard (claim_source u'.node.claimer.held)
      (putting false (parts_again s.sending (claim_source u.node.claimer.held) r)
      (after_withdrawing withdraw.Session (claim_source u.node.claimer.held) u.queue))

-- an abort is owed: it is put, and the open session ends by it or stays as it is
pub record Aborts (owed : OwedAbort) (answer : Answer) (u u' : Standing) : Type 0 where
  pub unasked : answer ≡ NotAsked
  pub node : u'.node ≡ (if owed.ends then after_deed u.node EndsSession else u.node)
  pub memory : u'.memory ≡ u.memory
  pub queue : u'.queue ≡ putting false (plain (abort_of owed (claim_source u.node.claimer.held)) ∷ [])
      (after_withdrawing (withdrawn_for owed) (claim_source u.node.claimer.held) u.queue)

-- packets of the open session were asked for again: they go again, but that the session ends where it was for one too often
pub record HasHeardAgain (r : Retransmission) (asked : Asked) (answer : Answer) (u u' : Standing) : Type 0 where
  pub session : OpenSession
  pub of : u.node.session ≡ Some session
  pub again : is_too_often asked r.first ≡ false → SendsAgain r session answer u u'
  pub ends : is_too_often asked r.first ≡ true → Aborts (ended_for ASKED_TOO_OFTEN session) answer u u'

-- a frame was heard, by a unit that was asked for packets so often: what asks for packets again, or any other, where no abort is owed for it
abbrev pub HasHeardBy : Option Retransmission → FrameValue → Asked → Answer → Standing → Standing → Type 0
HasHeardBy (Some r) f asked answer u u' = HasHeardAgain r asked answer u u'
HasHeardBy None f asked answer u u' = HasHeardBesides f answer u u'

abbrev pub HasHeardUnless : Option OwedAbort → FrameValue → Asked → Answer → Standing → Standing → Type 0
HasHeardUnless (Some owed) f asked answer u u' = Aborts owed answer u u'
HasHeardUnless None f asked answer u u' = HasHeardBy (again_by u.node u.queue (group_of f)) f asked answer u u'

-- a frame was heard: it is answered with an abort, or not
abbrev pub HasHeardFrame : FrameValue → Asked → Answer → Standing → Standing → Type 0
HasHeardFrame f asked answer u u' = HasHeardUnless (abort_by u.node u.queue (group_of f)) f asked answer u u'

-- the times after a frame was heard by the unit of this NAME: what it was and what waited before and after that
abbrev pub clock_heard : FrameValue → ℕ → ℕ → NodeValue → QueueValue → NodeValue → QueueValue → UnitClock → UnitClock
clock_heard f name now node q node' q' c =
    record (clock_cut (is_cut q q') now (clock_after_hearing (is_held_open node (group_of f)) node.claimer.held node'.claimer.held name now c)) {
      asked = asked_then (again_by node q (group_of f)) (is_some node.session) c.asked;
    }

-- a request, a request to send and a clear to send may put something beside what waits; whatever else puts something withdraws all
abbrev pub control_needs_room : Control → Bool
control_needs_room (Rts size packets most pgn) = true
control_needs_room (Cts granted next pgn) = true
control_needs_room _ = false

abbrev pub needs_room : Group → Bool
needs_room (Request pgn destination source) = true
needs_room (ConnectionManagement source destination control) = control_needs_room control
needs_room _ = false

-- a frame is not heard for want of room
abbrev pub LacksRoomFor : FrameValue → QueueValue → Type 0
LacksRoomFor f q = (MOST_PUT ≤ q.put) ⊎ ((needs_room (group_of f) ≡ true) × (¬ HasFreeLanes q))

-- a unit that can put something
abbrev pub CanPut : QueueValue → Type 0
CanPut q = (q.put < MOST_PUT) × HasFreeLanes q

-- a message of the memory to all began, from the address held
pub record BeginsToAll (kind : Kind) (u u' : Standing) : Type 0 where
  pub source : ℕ
  pub held : u.node.claimer.held ≡ Some source
  pub free : is_open u.node.session kind ≡ false
  pub node : u'.node ≡ u.node
  pub memory : u'.memory ≡ u.memory
  pub queue : u'.queue ≡ putting true (parts_begun (payload_of kind u.memory) (pgn_of_kind kind) source GLOBAL_ADDRESS) u.queue

-- its session was given up
pub record GivesUp (u u' : Standing) : Type 0 where
  pub node : u'.node ≡ after_deed u.node EndsSession
  pub memory : u'.memory ≡ u.memory
  pub queue : u'.queue ≡ after_heard (given_up u.node) (claim_source u.node.claimer.held) u.queue

-- a DM1 of its own puts off the next, and tells the changes since the one before
abbrev pub clock_told : ℕ → MemoryValue → UnitClock → UnitClock
clock_told now m c = record c { dm1_from = later now DM1_PERIOD; told = after_telling now (nat_le c.dm1_from now) m c.told }

-- what a unit did of its own accord: nothing where nothing is due; it gave up its session, which was left alone; or it began a DM1,
-- which was due
abbrev pub Acts : UnitSettings → ℕ → Bool → Act → Standing → UnitClock → Standing → UnitClock → Type 0
Acts s now willing act.Nothing u c u' c' =
    (CanPut u.queue → (is_left_alone c now u.node u.queue ≡ false) × (is_dm1_due s c now willing u.node u.memory u.queue ≡ false))
    × (u' ≡ u) × (c' ≡ c)
Acts s now willing act.GaveUp u c u' c' = (is_left_alone c now u.node u.queue ≡ true) × GivesUp u u' × (c' ≡ c)
Acts s now willing act.Began u c u' c' =
    (is_dm1_due s c now willing u.node u.memory u.queue ≡ true) × BeginsToAll Dm1 u u' × (c' ≡ clock_told now u.memory c)

-- a frame goes: the first of the lane that is due
pub record Writes (s : UnitSettings) (now : ℕ) (f : FrameValue) (q : QueueValue) (c : UnitClock) (q' : QueueValue) (c' : UnitClock) : Type 0 where
  pub lane : Lane
  pub due : lane_due c now q ≡ Some lane
  pub out : Out
  pub first : slice_get (lane_of lane q).outs 0 ≡ Some out
  pub frame : f ≡ out.frame
  pub taken : TakesFirst lane q q'
  pub clock : c' ≡ clock_written s lane now c
