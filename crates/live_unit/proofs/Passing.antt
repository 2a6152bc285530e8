-- A frame that a unit passes over counts as heard: nothing comes of it.
use Rattle.std.proofs.Common.{◌≡◌, ℕ, Bool, true, false, not, ◌&&◌, if◌then◌else◌, Option, Some, None, is_some, inl, inr, refl, sym, ap, subst, arith}
use Rattle.std.specs.Prelude.{◌==◌}
use Rattle.std.proofs.lemmas.Bool.Decides.{nat_tests}
use Rattle.can_frame.specs.FrameValue.{FrameValue}
use Rattle.address_claim.specs.Claiming.{is_held}
use Rattle.fault_memory.specs.Memory.{MemoryValue, new_memory}
use Rattle.requests.specs.declared.commanded.Commanded.{Commanded}
use Rattle.transport.specs.declared.control.Control.TheVariants.{Rts, Cts, EndAck, Bam, Abort}
use Rattle.parameter_group.specs.Group.{Group, AddressClaimed, CannotClaim, Request, Acknowledgment, Diagnostic, ConnectionManagement, DataTransfer, Other, group_of}
use Rattle.node_core.specs.Asking.{IsAnswerTo, memory_answered}
use Rattle.node_core.specs.Deed.{Deed, Nothing, Replies, Sends, heard_of}
use Rattle.node_core.specs.GivingUp.{is_held_open}
use Rattle.node_core.specs.NodeValue.{NodeValue}
use Rattle.node_core.specs.Passing.{IsHeardQuietly}
use Rattle.node_core.specs.Reaction.{Reacts, command_heard, is_open_with, is_with, on_cts, put_by_command, put_to, reaction_to}
use Rattle.node_core.specs.Staying.{is_commanded_to_stay, is_to_held}
use Rattle.node_core.specs.declared.heard.Answer.{Answer}
use Rattle.node_core.specs.declared.heard.Answer.TheVariants.{NotAsked}
use Rattle.node_core.specs.declared.session.OpenSession.{OpenSession}
use Rattle.live_unit.specs.Aborts.{abort_by, ended_by_clear}
use Rattle.live_unit.specs.Again.{again_by, again_of, asked_then}
use Rattle.live_unit.specs.Queue.{LaneValue, QueueValue, waits}
use Rattle.live_unit.specs.Steps.{HasHeardBesides, HasHeardBy, HasHeardFrame, HasHeardInFull, HasHeardUnless, Standing, clock_heard, standing}
use Rattle.live_unit.specs.Times.{clock_after_hearing, clock_cut, has_lost, is_same_address}
use Rattle.live_unit.specs.declared.aborting.OwedAbort.{OwedAbort}
use Rattle.live_unit.specs.declared.again.Retransmission.{Retransmission}
use Rattle.live_unit.specs.declared.clock.UnitClock.{UnitClock}
use Rattle.live_unit.proofs.Sources.{heard_kept}

-- ---- what a frame is not that is heard quietly

record IsQuiet (node : NodeValue) (q : QueueValue) (g : Group) : Type 0 where
  abort : abort_by node q g ≡ None
  again : again_by node q g ≡ None
  stays : is_commanded_to_stay node g ≡ false
  holds : is_held_open node g ≡ false

none_either : (A : Type 0) (b : Bool) → ◌≡◌ {A = Option A} (if b then None else None) None
none_either A true = refl
none_either A false = refl

rts_refused : (held fits holds : Bool) (owed : OwedAbort) (frame : FrameValue) → (if held && fits then Replies frame else Nothing) ≡ Nothing
    → (if held then (if fits && holds then Some owed else None) else None) ≡ None
rts_refused true true holds owed frame e = absurd cc
rts_refused true false holds owed frame e = refl
rts_refused false fits holds owed frame e = refl

not_with : (w : Bool) (s : OpenSession) (address count : ℕ) → (if w then Sends s address count else Nothing) ≡ Nothing → w ≡ false
not_with true s address count e = absurd cc
not_with false s address count e = refl

none_unless : (A : Type 0) (w x y : Bool) (a : A) → w ≡ false → (if w && x && y then Some a else None) ≡ None
none_unless A true x y a e = absurd cc
none_unless A false x y a e = refl

not_open : (z held w : Bool) → (held && w) ≡ false → (z && held && w) ≡ false
not_open true true w e = e
not_open true false w e = refl
not_open false held w e = refl

record IsQuietClear (held : Bool) (o : Option OpenSession) (l : LaneValue) (source granted next pgn : ℕ) : Type 0 where
  abort : (if held then ended_by_clear o l source granted next pgn else None) ≡ None
  again : (if held then again_of o l source granted next pgn else None) ≡ None
  holds : (held && is_open_with o source pgn) ≡ false

clear_of : (s : OpenSession) (l : LaneValue) (source granted next pgn : ℕ) → is_with s source pgn ≡ false → IsQuietClear true (Some s) l source granted next pgn
clear_of s l source granted next pgn e = record {
  abort = none_unless _ (is_with s source pgn) _ _ _ e;
  again = none_unless _ (is_with s source pgn) _ _ _ e;
  holds = e;
}

clear_quiet : (held : Bool) (o : Option OpenSession) (l : LaneValue) (address source granted next pgn : ℕ)
    → (if held then on_cts o address source granted next pgn else Nothing) ≡ Nothing → IsQuietClear held o l source granted next pgn
clear_quiet false o l address source granted next pgn e = record { abort = refl; again = refl; holds = refl }
clear_quiet true None l address source granted next pgn e = record { abort = refl; again = refl; holds = refl }
clear_quiet true (Some s) l address source granted next pgn e = clear_of s l source granted next pgn (not_with (is_with s source pgn) s address _ e)

not_to_stay : (held : Option ℕ) (o : Option Commanded) → put_by_command o ≡ None → is_to_held held o ≡ false
not_to_stay held None e = refl
not_to_stay held (Some c) e = absurd cc

quiet : (node : NodeValue) (q : QueueValue) (m : MemoryValue) (g : Group) → put_to node g ≡ None → reaction_to node m NotAsked g ≡ Nothing → IsQuiet node q g
quiet node q m (AddressClaimed source name) u e = record { abort = refl; again = refl; stays = refl; holds = refl }
quiet node q m (CannotClaim name) u e = record { abort = refl; again = refl; stays = refl; holds = refl }
quiet node q m (Request pgn destination source) u e = record { abort = refl; again = refl; stays = refl; holds = refl }
quiet node q m (Acknowledgment control requester pgn destination source) u e = record { abort = refl; again = refl; stays = refl; holds = refl }
quiet node q m (Diagnostic kind source bytes) u e = record { abort = refl; again = refl; stays = refl; holds = refl }
quiet node q m (ConnectionManagement source destination (Rts size packets most pgn)) u e =
    record { abort = rts_refused (is_held node.claimer.held destination) _ (is_some node.session) _ _ e; again = refl; stays = refl; holds = refl }
quiet node q m (ConnectionManagement source destination (Cts granted next pgn)) u e =
    let c = clear_quiet (is_held node.claimer.held destination) node.session q.session destination source granted next pgn e in
    record { abort = c.abort; again = c.again; stays = refl; holds = not_open (granted == 0) (is_held node.claimer.held destination) _ c.holds }
quiet node q m (ConnectionManagement source destination (EndAck size packets pgn)) u e = record { abort = none_either _ (is_held node.claimer.held destination); again = refl; stays = refl; holds = refl }
quiet node q m (ConnectionManagement source destination (Bam size packets pgn)) u e = record { abort = none_either _ (is_held node.claimer.held destination); again = refl; stays = refl; holds = refl }
quiet node q m (ConnectionManagement source destination (Abort reason pgn)) u e = record { abort = none_either _ (is_held node.claimer.held destination); again = refl; stays = refl; holds = refl }
quiet node q m (DataTransfer source destination bytes) u e = record { abort = refl; again = refl; stays = not_to_stay node.claimer.held (command_heard node source destination bytes) u; holds = refl }
quiet node q m Other u e = record { abort = refl; again = refl; stays = refl; holds = refl }

-- ---- what comes of it

reacts_quietly : (f : FrameValue) (node node' : NodeValue) (m : MemoryValue) → IsHeardQuietly node f node' → Reacts f node m (heard_of NotAsked Nothing) node' m
reacts_quietly f node node' m h = record {
  heard_is = sym (ap (heard_of NotAsked) (h.idle m NotAsked));
  node_is = sym (h.keeps m NotAsked);
  memory_is = sym (ap (λ x. memory_answered x NotAsked m) h.unasked);
  answer_is = subst (λ x. IsAnswerTo x NotAsked) (sym h.unasked) refl;
}

held_as_before : (f : FrameValue) (node node' : NodeValue) (m : MemoryValue) → IsHeardQuietly node f node' → node'.claimer.held ≡ node.claimer.held
held_as_before f node node' m h = elim (heard_kept f node node' m m (heard_of NotAsked Nothing) (reacts_quietly f node node' m h)) [ inl all ↦ absurd cc | inr same ↦ same ]

besides : (f : FrameValue) (node node' : NodeValue) (m : MemoryValue) (q : QueueValue) → IsHeardQuietly node f node' → is_commanded_to_stay node (group_of f) ≡ false
    → HasHeardBesides f NotAsked (standing node m q) (standing node' m q)
besides f node node' m q h s = record {
  stays = λ e. absurd cc;
  in_full = λ e. record { heard = heard_of NotAsked Nothing; answer_is = refl; reacts = reacts_quietly f node node' m h; queue = refl };
}

pub heard_quietly : (f : FrameValue) (node node' : NodeValue) (m : MemoryValue) (q : QueueValue) (c : UnitClock) → IsHeardQuietly node f node'
    → HasHeardFrame f c.asked NotAsked (standing node m q) (standing node' m q)
heard_quietly f node node' m q c h =
    let k = quiet node q m (group_of f) h.unasked (h.idle m NotAsked) in
    let u = standing node m q in let u' = standing node' m q in
    subst (λ x. HasHeardUnless x f c.asked NotAsked u u') (sym k.abort) (subst (λ x. HasHeardBy x f c.asked NotAsked u u') (sym k.again) (besides f node node' m q h k.stays))

-- ---- and of its times

never_both : (b : Bool) → (b && not b) ≡ false
never_both true = refl
never_both false = refl

same_number : (n : ℕ) → (n == n) ≡ true
same_number n = grind (arith, nat_tests)

claimed_as_before : (b : Bool) (held : Option ℕ) → (b && is_same_address held held) ≡ b
claimed_as_before true None = refl
claimed_as_before false None = refl
claimed_as_before true (Some a) = same_number a
claimed_as_before false (Some a) = refl

not_lost : (held : Option ℕ) → has_lost held held ≡ false
not_lost None = refl
not_lost (Some a) = refl

same_clock : (c : UnitClock) (cut holds has : Bool) (before after : Option ℕ) (again : Option Retransmission) (name now : ℕ) → cut ≡ false → holds ≡ false → after ≡ before → again ≡ None
    → ◌≡◌ {A = UnitClock} (record c { asked = asked_then None has c.asked })
    (record (clock_cut cut now (clock_after_hearing holds before after name now c)) { asked = asked_then again has c.asked })
same_clock c cut holds has before after again name now e1 e2 e3 e4 = rw (e1, e2, e3, e4, claimed_as_before c.claimed before, not_lost before) refl

pub clock_quietly : (f : FrameValue) (node node' : NodeValue) (q : QueueValue) (c : UnitClock) (name now : ℕ) → IsHeardQuietly node f node'
    → record c { asked = asked_then None (is_some node.session) c.asked } ≡ clock_heard f name now node q node' q c
clock_quietly f node node' q c name now h =
    let k = quiet node q new_memory (group_of f) h.unasked (h.idle new_memory NotAsked) in
    same_clock c _ _ (is_some node.session) node.claimer.held node'.claimer.held _ name now (never_both (waits q.messages)) k.holds (held_as_before f node node' new_memory h) k.again
