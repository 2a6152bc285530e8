-- What a station puts is from the address that it then holds, or from 254 where it holds none; and what it puts beside what waits answers a
-- request or a frame of a session.
use Rattle.std.proofs.Common.{◌≡◌, ℕ, ◌<◌, ◌≤◌, ◌⊎◌, inl, inr, Bool, true, false, ◌&&◌, ◌||◌, ◌==◌, nat_eq, nat_lt, List, [], ◌∷◌, Option, Some, None, IfSome, if◌then◌else◌, zero, suc, arith, refl, sym, ap, ◌∙◌, subst}
use Rattle.std.proofs.lemmas.Bool.{and_parts, eqb-true}
use Rattle.can_frame.specs.Fields.{source_of, pdu1_number, pdu2_number}
use Rattle.can_frame.specs.FrameValue.{FrameValue}
use Rattle.can_frame.specs.declared.address.TheConstants.{GLOBAL_ADDRESS, NULL_ADDRESS}
use Rattle.can_frame.specs.declared.group_numbers.TheConstants.{ADDRESS_CLAIMED}
use Rattle.address_claim.specs.Claiming.{CanHold, ClaimerValue, claim_step, held_after, is_held}
use Rattle.address_claim.specs.Frames.{claim_frame_value, claim_source}
use Rattle.address_claim.specs.declared.claimer.ClaimStep.{ClaimStep}
use Rattle.address_claim.specs.declared.claimer.ClaimStep.TheVariants.{Nothing, Defend, Move, CannotClaim}
use Rattle.bus_model.specs.Heard.{kind_of, started}
use Rattle.live_unit.proofs.Sources.{can_hold, claim_from_holder}
use Rattle.live_unit.specs.Queue.{HasFreeLanes, QueueValue}
use Rattle.parameter_group.specs.Group.{Group, AddressClaimed, CannotClaim as GaveUp, Request, Acknowledgment, Diagnostic, ConnectionManagement, DataTransfer, Other}
use Rattle.reassembly.specs.Tables.{at}
use Rattle.station_table.specs.Reactions.{answering, claim_reaction, granted_at_once, group_reaction, own_claim, reply_to, replying, request_reaction, silent, start_reaction}
use Rattle.station_table.specs.StationValue.{StationValue}
use Rattle.station_table.specs.Steps.{after_group, packets_at_once}
use Rattle.station_table.specs.declared.reaction.Reaction.{Reaction}
use Rattle.requests.specs.Layouts.{ack_frame_value, request_frame_value}
use Rattle.requests.specs.declared.acknowledgment.Ack.{Ack}
use Rattle.requests.specs.declared.acknowledgment.TheConstants.Ack.{NEGATIVE}
use Rattle.transport.specs.Messages.{control_frame, part_of_message}
use Rattle.transport.specs.declared.control.Control.{Control}
use Rattle.transport.specs.declared.control.Control.TheVariants.{Rts, Cts, EndAck, Bam, Abort}
use Rattle.live_station.specs.Working.{IsFirstFrom, IsOwedFrom, may_be_answered}
use Rattle.live_station.proofs.Claimers.{claims_as_before, holds_unless_withdrawn}

source_to_one : (priority pgn destination source : ℕ) → source < 256 → source_of (pdu1_number priority pgn destination source) ≡ source
source_to_one priority pgn destination source h = omega arith

-- a reaction, by the case that it comes from
by_case : (P : Reaction → Type 0) (b : Bool) (x y : Reaction) → (b ≡ true → P x) → (b ≡ false → P y) → P (if b then x else y)
by_case P true x y p q = p refl
by_case P false x y p q = q refl

held_source : (held : Option ℕ) (a : ℕ) → is_held held a ≡ true → claim_source held ≡ a
held_source None a e = absurd cc
held_source (Some own) a e = eqb-true own a e

held_fits : (held : Option ℕ) (a : ℕ) → CanHold held → is_held held a ≡ true → a < 256
held_fits None a h e = absurd cc
held_fits (Some own) a h e = (let same : own ≡ a = eqb-true own a e in omega arith)

pub owed_claim : (name : ℕ) (held : Option ℕ) → CanHold held → IsOwedFrom (claim_source held) (claim_frame_value name held)
owed_claim name held h = record { source_is = claim_from_holder name held h; owed = inl (name, held, refl) }

from_step : (step : ClaimStep) (c : ClaimerValue) → CanHold c.held → CanHold (held_after step c.held)
    → IsFirstFrom (claim_source (held_after step c.held)) (claim_reaction step c).put
from_step Nothing c h h' = tt
from_step Defend c h h' = owed_claim c.name c.held h
from_step (Move address) c h h' = owed_claim c.name (Some address) h'
from_step CannotClaim c h h' = owed_claim c.name None tt

from_request : (c : ClaimerValue) (pgn destination source : ℕ) → CanHold c.held
    → IsFirstFrom (claim_source c.held) (request_reaction c pgn destination source).put
from_request c pgn destination source h =
    let P : Reaction → Type 0 = λ x. IsFirstFrom (claim_source c.held) x.put in
    by_case P (pgn == ADDRESS_CLAIMED) _ _
    (λ _. by_case P (is_held c.held destination || destination == GLOBAL_ADDRESS) (answering (own_claim c)) silent (λ _. owed_claim c.name c.held h) (λ _. tt))
    (λ _.
    by_case P (is_held c.held destination && nat_lt source NULL_ADDRESS) _ silent
    (λ e.
    let held : is_held c.held destination ≡ true = (and_parts (is_held c.held destination) _ e).0 in
    record {
      source_is = source_to_one 6 59392 GLOBAL_ADDRESS destination (held_fits c.held destination h held) ∙ sym (held_source c.held destination held);
      owed = inr (inl (record { control = NEGATIVE; requester = source; pgn = pgn; dest = GLOBAL_ADDRESS; source = destination }, refl));
    })
    (λ _. tt))

from_control : (held : Option ℕ) (own source : ℕ) (control : Control) → CanHold held → is_held held own ≡ true
    → IsOwedFrom (claim_source held) (control_frame control own source)
from_control held own source control h e = record {
  source_is = source_to_one 7 60416 source own (held_fits held own h e) ∙ sym (held_source held own e);
  owed = inr (inr (control, own, source, refl));
}

from_replying : (held : Option ℕ) (own source : ℕ) (control : Option Control) → CanHold held → is_held held own ≡ true
    → IsFirstFrom (claim_source held) (replying control own source).put
from_replying held own source None h e = tt
from_replying held own source (Some control) h e = from_control held own source control h e

from_session : (s : StationValue) (source destination : ℕ) (control : Control) → CanHold s.claimer.held
    → IsFirstFrom (claim_source s.claimer.held) (group_reaction s (ConnectionManagement source destination control)).put
from_session s source destination (Rts size packets most pgn) h =
    let P : Reaction → Type 0 = λ x. IsFirstFrom (claim_source s.claimer.held) x.put in
    let answer : Control = start_reaction (started (kind_of pgn) size (at s.owners source)) (packets_at_once s.grant most) packets pgn in
    by_case P (is_held s.claimer.held destination && nat_lt source NULL_ADDRESS) (answering (control_frame answer destination source)) silent
    (λ e. from_control s.claimer.held destination source answer h (and_parts (is_held s.claimer.held destination) _ e).0)
    (λ _. tt)
from_session s source destination (Cts granted next pgn) h = tt
from_session s source destination (EndAck size packets pgn) h = tt
from_session s source destination (Bam size packets pgn) h = tt
from_session s source destination (Abort reason pgn) h = tt

from_packet : (s : StationValue) (source destination : ℕ) (bytes : List ℕ) → CanHold s.claimer.held
    → IsFirstFrom (claim_source s.claimer.held) (group_reaction s (DataTransfer source destination bytes)).put
from_packet s source destination bytes h =
    let P : Reaction → Type 0 = λ x. IsFirstFrom (claim_source s.claimer.held) x.put in
    let answer : Option Control = reply_to (granted_at_once s source) (at s.sessions source) bytes in
    by_case P (destination == GLOBAL_ADDRESS) silent _ (λ _. tt)
    (λ _.
    by_case P (is_held s.claimer.held destination) (replying answer destination source) silent
    (λ e. from_replying s.claimer.held destination source answer h e)
    (λ _. tt))

-- what is put is from the address that is held then
from_kept : (s : StationValue) (g : Group) (put : List FrameValue) → (after_group s g).claimer ≡ s.claimer → IsFirstFrom (claim_source s.claimer.held) put
    → IsFirstFrom (claim_source (after_group s g).claimer.held) put
from_kept s g put e f = (let P : ClaimerValue → Type 0 = λ c. IsFirstFrom (claim_source c.held) put in subst P (sym e) f)

pub put_from_holder : (s : StationValue) (g : Group) → CanHold s.claimer.held → CanHold (after_group s g).claimer.held
    → IsFirstFrom (claim_source (after_group s g).claimer.held) (group_reaction s g).put
put_from_holder s (AddressClaimed source name) h h' = from_step (claim_step source name s.claimer) s.claimer h h'
put_from_holder s (GaveUp name) h h' = tt
put_from_holder s (Request pgn destination source) h h' = from_request s.claimer pgn destination source h
put_from_holder s (Acknowledgment control requester pgn destination source) h h' = tt
put_from_holder s (Diagnostic kind source bytes) h h' = tt
put_from_holder s (ConnectionManagement source destination control) h h' =
    from_kept s (ConnectionManagement source destination control) _ (claims_as_before s (ConnectionManagement source destination control) tt)
    (from_session s source destination control h)
put_from_holder s (DataTransfer source destination bytes) h h' =
    from_kept s (DataTransfer source destination bytes) _ (claims_as_before s (DataTransfer source destination bytes) tt) (from_packet s source destination bytes h)
put_from_holder s Other h h' = tt

-- ---- what needs room

step_withdraws : (step : ClaimStep) (c : ClaimerValue) → ((claim_reaction step c).withdraw ≡ true) ⊎ ((claim_reaction step c).put ≡ [])
step_withdraws Nothing c = inr refl
step_withdraws Defend c = inl refl
step_withdraws (Move address) c = inl refl
step_withdraws CannotClaim c = inl refl

pub put_beside_answers : (s : StationValue) (g : Group) → may_be_answered g ≡ false → ((group_reaction s g).withdraw ≡ true) ⊎ ((group_reaction s g).put ≡ [])
put_beside_answers s (AddressClaimed source name) e = step_withdraws (claim_step source name s.claimer) s.claimer
put_beside_answers s (GaveUp name) e = inr refl
put_beside_answers s (Request pgn destination source) e = absurd cc
put_beside_answers s (Acknowledgment control requester pgn destination source) e = inr refl
put_beside_answers s (Diagnostic kind source bytes) e = inr refl
put_beside_answers s (ConnectionManagement source destination control) e = absurd cc
put_beside_answers s (DataTransfer source destination bytes) e = absurd cc
put_beside_answers s Other e = inr refl

-- ---- what it writes of its own accord

own_fits : (held : Option ℕ) → CanHold held → claim_source held < 256
own_fits None h = omega arith
own_fits (Some own) h = omega arith

pub request_from_own : (held : Option ℕ) (pgn dest source : ℕ) → CanHold held → source ≡ claim_source held
    → source_of (request_frame_value (record { pgn = pgn; dest = dest; source = source })).id ≡ claim_source held
request_from_own held pgn dest source h e = (let fits : source < 256 = rw e (own_fits held h) in source_to_one 6 59904 dest source fits ∙ e)

-- a part of a broadcast of more than eight bytes, or of one in a frame
by_size : (P : FrameValue → Type 0) (b : Bool) (x y : FrameValue) → P x → P y → P (if b then x else y)
by_size P true x y p q = p
by_size P false x y p q = q

source_to_all : (priority pgn source : ℕ) → source < 256 → source_of (pdu2_number priority pgn source) ≡ source
source_to_all priority pgn source h = omega arith

part_source : (payload : List ℕ) (pgn source destination j : ℕ) → source < 256 → source_of (part_of_message payload pgn source destination j).id ≡ source
part_source payload pgn source destination zero h =
    by_size (λ (f : FrameValue). source_of f.id ≡ source) _ _ _ (source_to_all 6 pgn source h) (source_to_one 7 60416 destination source h)
part_source payload pgn source destination (suc j) h = source_to_one 7 60160 destination source h

pub part_from_own : (held : Option ℕ) (payload : List ℕ) (pgn source destination j : ℕ) → CanHold held → source ≡ claim_source held
    → source_of (part_of_message payload pgn source destination j).id ≡ claim_source held
part_from_own held payload pgn source destination j h e = (let fits : source < 256 = rw e (own_fits held h) in part_source payload pgn source destination j fits ∙ e)

-- ---- the same of a reaction and addresses that are these

pub reacts_from_holder : (s : StationValue) (g : Group) (x : Reaction) (before after : Option ℕ) → x ≡ group_reaction s g → before ≡ s.claimer.held
    → after ≡ (after_group s g).claimer.held → IfSome before (λ a. a ≤ 253) → IfSome after (λ a. a ≤ 253)
    → IsFirstFrom (claim_source after) x.put
reacts_from_holder s g x before after e b a low high =
    let first : IsFirstFrom (claim_source (after_group s g).claimer.held) (group_reaction s g).put =
    put_from_holder s g (can_hold before s.claimer.held b low) (can_hold after (after_group s g).claimer.held a high) in
    let same : IsFirstFrom (claim_source after) (group_reaction s g).put =
    subst (λ (h : Option ℕ). IsFirstFrom (claim_source h) (group_reaction s g).put) (sym a) first in
    subst (λ (y : Reaction). IsFirstFrom (claim_source after) y.put) (sym e) same

pub reacts_with_room : (s : StationValue) (g : Group) (x : Reaction) (q : QueueValue) → x ≡ group_reaction s g
    → (may_be_answered g ≡ false) ⊎ HasFreeLanes q → (x.withdraw ≡ true) ⊎ (HasFreeLanes q ⊎ (x.put ≡ []))
reacts_with_room s g x q e (inl unanswered) =
    subst (λ (y : Reaction). (y.withdraw ≡ true) ⊎ (HasFreeLanes q ⊎ (y.put ≡ []))) (sym e)
    (elim (put_beside_answers s g unanswered) [ inl all ↦ inl all | inr none ↦ inr (inr none) ])
reacts_with_room s g x q e (inr free) = inr (inl free)

pub reacts_from_source : (s : StationValue) (g : Group) (x : Reaction) (source : ℕ) (after : Option ℕ) → x ≡ group_reaction s g
    → source ≡ claim_source s.claimer.held → after ≡ (after_group s g).claimer.held → (x.withdraw ≡ true) ⊎ (claim_source after ≡ source)
reacts_from_source s g x source after e f a =
    elim (holds_unless_withdrawn s g) [
      | inl all ↦ inl (ap (λ (y : Reaction). y.withdraw) e ∙ all)
      | inr same ↦ inr (ap claim_source (a ∙ same) ∙ sym f)
    ]
