-- What asks for packets again, and what is answered with an abort.
use Rattle.std.proofs.Common.{◌≡◌, ℕ, ◌+◌, ◌≤◌, ◌⊎◌, inl, inr, Bool, true, false, if◌then◌else◌, Option, Some, None, refl, sym, ◌∙◌, subst, arith}
use Rattle.std.specs.Prelude.{◌&&◌, ◌||◌}
use Rattle.std.proofs.lemmas.Bool.Decides.{nat_tests}
use Rattle.can_frame.specs.FrameValue.{FrameValue}
use Rattle.address_claim.specs.Claiming.{is_held}
use Rattle.transport.specs.Sending.{SendingValue}
use Rattle.transport.specs.declared.control.Control.TheVariants.{Rts, Cts, EndAck, Bam, Abort}
use Rattle.parameter_group.specs.Group.{Group, AddressClaimed, CannotClaim, Request, Acknowledgment, Diagnostic, ConnectionManagement, DataTransfer, Other}
use Rattle.node_core.specs.NodeValue.{NodeValue}
use Rattle.node_core.specs.Reaction.{put_to}
use Rattle.node_core.specs.declared.heard.Answer.{Answer}
use Rattle.node_core.specs.declared.session.OpenSession.{OpenSession}
use Rattle.live_unit.specs.Aborts.{abort_by, abort_by_control, ended_by_clear, ended_for}
use Rattle.live_unit.specs.declared.aborting.OwedAbort.{OwedAbort}
use Rattle.live_unit.specs.declared.aborting.TheConstants.{ASKED_TOO_OFTEN}
use Rattle.live_unit.specs.Again.{WerePut, again_by, again_of, has_gone, is_beyond, is_too_often, of_grant}
use Rattle.live_unit.specs.Queue.{LaneValue, QueueValue}
use Rattle.live_unit.specs.Steps.{Aborts, HasHeardAgain, HasHeardBy, HasHeardUnless, SendsAgain, Standing, needs_room}
use Rattle.live_unit.specs.declared.again.Retransmission.{Retransmission}
use Rattle.live_unit.specs.declared.clock.Asked.{Asked}

from_if : (b : Bool) (x r : Retransmission) → (if b then Some x else None) ≡ Some r → (b ≡ true) × (x ≡ r)
from_if true x r e = (refl, cc)
from_if false x r e = absurd cc

when : (b : Bool) (o : Option Retransmission) (r : Retransmission) → (if b then o else None) ≡ Some r → o ≡ Some r
when true o r e = e
when false o r e = absurd cc

either : (a b : Bool) → (a || b) ≡ true → (a ≡ true) ⊎ (b ≡ true)
either true b e = inl refl
either false b e = inr e

gone_bounds : (s : SendingValue) (l : LaneValue) (next : ℕ) → has_gone s l next ≡ true → (1 ≤ next) × (next ≤ s.queued + 1)
gone_bounds s l next e = (grind (arith, nat_tests), grind (arith, nat_tests))

beyond_bounds : (s : SendingValue) (l : LaneValue) (next : ℕ) → is_beyond s l next ≡ true → (1 ≤ next) × (next ≤ s.queued + 1)
beyond_bounds s l next e = (grind (arith, nat_tests), grind (arith, nat_tests))

bounds : (s : SendingValue) (l : LaneValue) (next : ℕ) → (has_gone s l next || is_beyond s l next) ≡ true → (1 ≤ next) × (next ≤ s.queued + 1)
bounds s l next e = elim (either (has_gone s l next) (is_beyond s l next) e) [ inl gone ↦ gone_bounds s l next gone | inr beyond ↦ beyond_bounds s l next beyond ]

were_put : (s : SendingValue) (granted next : ℕ) → (1 ≤ next) × (next ≤ s.queued + 1) → WerePut (of_grant s granted next) s
were_put s granted next h = record { first = h.0; within = omega (arith, h.1) }

of_session : (o : Option OpenSession) (l : LaneValue) (source granted next pgn : ℕ) (r : Retransmission) → again_of o l source granted next pgn ≡ Some r
    → (s : OpenSession) × (o ≡ Some s) × WerePut r s.sending
of_session None l source granted next pgn r e = absurd cc
of_session (Some s) l source granted next pgn r e =
    let both = from_if _ (of_grant s.sending granted next) r e in
    (s, refl, subst (λ (x : Retransmission). WerePut x s.sending) both.1 (were_put s.sending granted next (bounds s.sending l next (and_right _ _ both.0)))) where
      and_right : (a b : Bool) → (a && b) ≡ true → b ≡ true
      and_right true b e = e
      and_right false b e = absurd cc

-- the packets are of the open session, and what is heard puts nothing to the unit
pub asks_again : (node : NodeValue) (q : QueueValue) (g : Group) (r : Retransmission) → again_by node q g ≡ Some r
    → ((s : OpenSession) × (node.session ≡ Some s) × WerePut r s.sending) × (put_to node g ≡ None)
asks_again node q (AddressClaimed source name) r e = absurd cc
asks_again node q (CannotClaim name) r e = absurd cc
asks_again node q (Request pgn destination source) r e = absurd cc
asks_again node q (Acknowledgment control requester pgn destination source) r e = absurd cc
asks_again node q (Diagnostic kind source bytes) r e = absurd cc
asks_again node q (ConnectionManagement source destination (Rts size packets most pgn)) r e = absurd cc
asks_again node q (ConnectionManagement source destination (Cts granted next pgn)) r e =
    (of_session node.session q.session source granted next pgn r (when (is_held node.claimer.held destination) _ r e), refl)
asks_again node q (ConnectionManagement source destination (EndAck size packets pgn)) r e = absurd cc
asks_again node q (ConnectionManagement source destination (Bam size packets pgn)) r e = absurd cc
asks_again node q (ConnectionManagement source destination (Abort reason pgn)) r e = absurd cc
asks_again node q (DataTransfer source destination bytes) r e = absurd cc
asks_again node q Other r e = absurd cc

-- it was heard
pub heard_again : (o : Option Retransmission) (r : Retransmission) (f : FrameValue) (asked : Asked) (a : Answer) (u u' : Standing) → o ≡ Some r → HasHeardAgain r asked a u u' → HasHeardBy o f asked a u u'
heard_again o r f asked a u u' e h = subst (λ (x : Option Retransmission). HasHeardBy x f asked a u u') (sym e) h

pub ended : (r : Retransmission) (asked : Asked) (a : Answer) (u u' : Standing) (s : OpenSession) → u.node.session ≡ Some s → is_too_often asked r.first ≡ true → Aborts (ended_for ASKED_TOO_OFTEN s) a u u' → HasHeardAgain r asked a u u'
ended r asked a u u' s e often h = record { session = s; of = e; again = λ n. absurd cc; ends = λ _. h }

pub sent : (r : Retransmission) (asked : Asked) (a : Answer) (u u' : Standing) (s : OpenSession) → u.node.session ≡ Some s → is_too_often asked r.first ≡ false → SendsAgain r s a u u' → HasHeardAgain r asked a u u'
sent r asked a u u' s e rare h = record { session = s; of = e; again = λ _. h; ends = λ n. absurd cc }

-- ---- an abort is owed

none : (b : Bool) (a : OwedAbort) (A : Type 0) → (if b then None else None) ≡ Some a → A
none true a A e = absurd cc
none false a A e = absurd cc

-- what it is owed for may need room, and puts nothing to the unit
pub owed_for : (node : NodeValue) (q : QueueValue) (g : Group) (a : OwedAbort) → abort_by node q g ≡ Some a → (needs_room g ≡ true) × (put_to node g ≡ None)
owed_for node q (AddressClaimed source name) a e = absurd cc
owed_for node q (CannotClaim name) a e = absurd cc
owed_for node q (Request pgn destination source) a e = absurd cc
owed_for node q (Acknowledgment control requester pgn destination source) a e = absurd cc
owed_for node q (Diagnostic kind source bytes) a e = absurd cc
owed_for node q (ConnectionManagement source destination (Rts size packets most pgn)) a e = (refl, refl)
owed_for node q (ConnectionManagement source destination (Cts granted next pgn)) a e = (refl, refl)
owed_for node q (ConnectionManagement source destination (EndAck size packets pgn)) a e = none (is_held node.claimer.held destination) a _ e
owed_for node q (ConnectionManagement source destination (Bam size packets pgn)) a e = none (is_held node.claimer.held destination) a _ e
owed_for node q (ConnectionManagement source destination (Abort reason pgn)) a e = none (is_held node.claimer.held destination) a _ e
owed_for node q (DataTransfer source destination bytes) a e = absurd cc
owed_for node q Other a e = absurd cc

-- it was heard
pub heard_unless : (o : Option OwedAbort) (owed : OwedAbort) (f : FrameValue) (asked : Asked) (a : Answer) (u u' : Standing) → o ≡ Some owed → Aborts owed a u u' → HasHeardUnless o f asked a u u'
heard_unless o owed f asked a u u' e h = subst (λ (x : Option OwedAbort). HasHeardUnless x f asked a u u') (sym e) h

-- it is that of the open session, whose sending is lent
pub ended_same : (owed : OwedAbort) (s : OpenSession) (x : SendingValue) → owed ≡ record { reason = ASKED_TOO_OFTEN; pgn = x.pgn; dest = x.dest; ends = true }
    → x ≡ s.sending → owed ≡ ended_for ASKED_TOO_OFTEN s
ended_same owed s x e same = e ∙ rw same refl
