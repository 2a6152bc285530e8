-- What a node puts is from the address that it then holds, or from 254 where it holds none.
use Rattle.std.proofs.Common.{◌≡◌, ℕ, ◌<◌, ◌≤◌, ◌⊎◌, ◌==◌, inl, inr, Bool, true, false, if◌then◌else◌, zero, suc, List, [], ◌∷◌, map, Option, Some, None, IfSome, arith, refl, sym, ap, ◌∙◌, subst}
use Rattle.std.specs.List.{All}
use Rattle.can_frame.specs.Fields.{source_of, pdu1_number, pdu2_number}
use Rattle.can_frame.specs.FrameValue.{FrameValue}
use Rattle.transport.specs.Messages.{part_of_message}
use Rattle.transport.specs.declared.control.Control.TheVariants.{Rts, Cts, EndAck, Bam, Abort}
use Rattle.address_claim.specs.Claiming.{CanHold, claim_step, held_after, is_held}
use Rattle.address_claim.specs.declared.claimer.ClaimStep.{ClaimStep}
use Rattle.address_claim.specs.declared.claimer.ClaimStep.TheVariants as step
use Rattle.requests.specs.declared.commanded.Commanded.{Commanded}
use Rattle.address_claim.specs.Frames.{claim_source, claim_frame_value}
use Rattle.parameter_group.specs.Group.{Group, AddressClaimed, CannotClaim, Request, Acknowledgment, Diagnostic, ConnectionManagement, DataTransfer, Other, group_of}
use Rattle.fault_memory.specs.Memory.{MemoryValue}
use Rattle.dm_messages.specs.View.{payload_of, pgn_of_kind}
use Rattle.dm_messages.specs.declared.kind.Kind.{Kind}
use Rattle.node_core.specs.NodeValue.{NodeValue, is_destination, is_open}
use Rattle.node_core.specs.Requested.{acknowledgment}
use Rattle.node_core.specs.Asking.{is_agreed}
use Rattle.node_core.specs.Commanding.{is_to_all}
use Rattle.node_core.specs.Reaction.{is_all_queued_with, is_open_with, noted_from, on_command, on_step, on_uncontested, Reacts, reaction_to}
use Rattle.node_core.specs.declared.heard.Answer.{Answer}
use Rattle.node_core.specs.declared.heard.Heard.{Heard}
use Rattle.node_core.specs.declared.heard.Withdraw.TheVariants as withdraw
use Rattle.node_core.specs.Deed.{Deed, Nothing, Replies, Begins, Sends, EndsSession, Claims, after_deed, marked_part, parts_begun, plain, put_of, withdraw_of}
use Rattle.node_core.specs.Laws.{IsLawfulDeed, IsReply, reaction_is_lawful}
use Rattle.node_core.specs.declared.out.Out.{Out}
use Rattle.node_core.specs.declared.out.Part.{Part}
use Rattle.node_core.specs.declared.session.OpenSession.{OpenSession}
use Rattle.node_core.specs.Beginning.{begins}
use Rattle.node_core.specs.declared.heard.Begun.{Begun as Message}
use Rattle.node_core.specs.declared.heard.Started.{Started}
use Rattle.node_core.specs.declared.heard.Started.TheVariants.{Held, Begun}
use Rattle.std.proofs.lemmas.List.Elements.{All-nil, All-cons}
use Rattle.live_unit.specs.Queue.{IsSentFrom}
use Rattle.live_unit.specs.Steps.{needs_room}

source_to_one : (priority pgn destination source : ℕ) → source < 256 → source_of (pdu1_number priority pgn destination source) ≡ source
source_to_one priority pgn destination source h = omega arith

source_to_all : (priority pgn source : ℕ) → source < 256 → source_of (pdu2_number priority pgn source) ≡ source
source_to_all priority pgn source h = omega arith

source_fits : (held : Option ℕ) → CanHold held → claim_source held < 256
source_fits None h = omega arith
source_fits (Some a) h = omega arith

-- a claim
pub claim_from_holder : (name : ℕ) (held : Option ℕ) → CanHold held → source_of (claim_frame_value name held).id ≡ claim_source held
claim_from_holder name held h = source_to_one 6 60928 255 (claim_source held) (source_fits held h)

-- an acknowledgment
pub ack_from : (queued control requester pgn source : ℕ) → queued ≡ source → source < 256 → All (IsSentFrom queued) (plain (acknowledgment control requester pgn source) ∷ [])
ack_from queued control requester pgn source q fits =
    let from : source_of (acknowledgment control requester pgn source).id ≡ source = source_to_one 6 59392 255 source fits in
    All-cons (IsSentFrom queued) (plain (acknowledgment control requester pgn source)) [] (from ∙ sym q) (All-nil (IsSentFrom queued))

-- a part of a message
by_size : (P : FrameValue → Type 0) (b : Bool) (x y : FrameValue) → P x → P y → P (if b then x else y)
by_size P true x y p q = p
by_size P false x y p q = q

part_source : (payload : List ℕ) (pgn source destination j : ℕ) → source < 256 → source_of (part_of_message payload pgn source destination j).id ≡ source
part_source payload pgn source destination zero h =
    by_size (λ (f : FrameValue). source_of f.id ≡ source) _ _ _ (source_to_all 6 pgn source h) (source_to_one 7 60416 destination source h)
part_source payload pgn source destination (suc j) h = source_to_one 7 60160 destination source h

pub parts_source : (mark : ℕ → Part) (payload : List ℕ) (pgn source destination : ℕ) (js : List ℕ) → source < 256 → All (IsSentFrom source) (map (marked_part mark payload pgn source destination) js)
parts_source mark payload pgn source destination [] h = All-nil (IsSentFrom source)
parts_source mark payload pgn source destination (j ∷ js) h =
    All-cons (IsSentFrom source) (marked_part mark payload pgn source destination j) (map (marked_part mark payload pgn source destination) js) (part_source payload pgn source destination j h)
    (parts_source mark payload pgn source destination js h)

-- the parts that are put when a message begins
pub begun_source : (payload : List ℕ) (pgn source destination : ℕ) → source < 256 → All (IsSentFrom source) (parts_begun payload pgn source destination)
begun_source payload pgn source destination h = parts_source _ payload pgn source destination _ h

-- ---- any lawful deed

address_fits : (held : Option ℕ) (address : ℕ) → CanHold held → held ≡ Some address → address < 256
address_fits held address h e = (let low : address ≤ 253 = subst CanHold e h in omega arith)

reply_source : (node : NodeValue) (g : Group) (f : FrameValue) → CanHold node.claimer.held → IsReply node g f → source_of f.id ≡ claim_source node.claimer.held
reply_source node g f h (inl claim) = ap (λ (x : FrameValue). source_of x.id) claim ∙ claim_from_holder node.claimer.name node.claimer.held h
reply_source node g f h (inr (inl a)) =
    ap (λ (x : FrameValue). source_of x.id) a.sent ∙ (source_to_one 6 59392 255 a.address (address_fits _ a.address h a.held) ∙ sym (ap claim_source a.held))
reply_source node g f h (inr (inr r)) =
    ap (λ (x : FrameValue). source_of x.id) r.sent ∙ (source_to_one 7 60416 r.source r.address (address_fits _ r.address h r.held) ∙ sym (ap claim_source r.held))

-- a message that begins leaves the address
begun_held : (b : Bool) (node : NodeValue) (s : Option OpenSession) → (if b then node else record node { session = s }).claimer.held ≡ node.claimer.held
begun_held true node s = refl
begun_held false node s = refl

pub deed_source : (node : NodeValue) (memory : MemoryValue) (g : Group) (deed : Deed) → CanHold node.claimer.held → IsLawfulDeed node memory g deed
    → All (IsSentFrom (claim_source (after_deed node deed).claimer.held)) (put_of deed)
deed_source node memory g Nothing h law = All-nil _
deed_source node memory g (Replies f) h law = All-cons (IsSentFrom (claim_source node.claimer.held)) (plain f) [] (reply_source node g f h law.1) (All-nil _)
deed_source node memory g (Begins kind m source destination) h law =
    let e : source ≡ claim_source (after_deed node (Begins kind m source destination)).claimer.held = sym (ap claim_source (begun_held (destination == 255) node _ ∙ law.1.held)) in
    subst (λ (a : ℕ). All (IsSentFrom a) (put_of (Begins kind m source destination))) e (begun_source (payload_of kind m) (pgn_of_kind kind) source destination (address_fits _ source h law.1.held))
deed_source node memory g (Sends s source count) h law =
    let e : source ≡ claim_source node.claimer.held = sym (ap claim_source law.1.held) in
    subst (λ (a : ℕ). All (IsSentFrom a) (put_of (Sends s source count))) e (parts_source _ s.sending.payload s.sending.pgn source s.sending.dest _ (address_fits _ source h law.1.held))
deed_source node memory g EndsSession h law = All-nil _
deed_source node memory g (Claims name held) h law = All-cons (IsSentFrom (claim_source held)) (plain (claim_frame_value name held)) [] (claim_from_holder name held law.1) (All-nil _)

-- ---- what was noted before a deed says nothing of the address, unless the deed is to claim one

noted_held : (b : Bool) (node node' : NodeValue) → node'.claimer.held ≡ node.claimer.held → (if b then node' else node).claimer.held ≡ node.claimer.held
noted_held true node node' e = e
noted_held false node node' e = refl

-- an address that is kept
abbrev KeepsOrClaims : NodeValue → Group → Deed → Type 0
KeepsOrClaims node g deed = ((after_deed (noted_from node g) deed).claimer.held ≡ (after_deed node deed).claimer.held)

keeps_by_deed : (node node' : NodeValue) (deed : Deed) → node'.claimer.held ≡ node.claimer.held → (after_deed node' deed).claimer.held ≡ (after_deed node deed).claimer.held
keeps_by_deed node node' Nothing e = e
keeps_by_deed node node' (Replies f) e = e
keeps_by_deed node node' (Begins kind m source destination) e = begun_held (destination == 255) node' _ ∙ (e ∙ sym (begun_held (destination == 255) node _))
keeps_by_deed node node' (Sends s source count) e = e
keeps_by_deed node node' EndsSession e = e
keeps_by_deed node node' (Claims name held) e = refl

step_held : (node : NodeValue) (source name : ℕ) (st : ClaimStep) (node' : NodeValue) → node'.claimer.held ≡ held_after st node.claimer.held
    → (after_deed node' (on_step node source st)).claimer.held ≡ (after_deed node (on_step node source st)).claimer.held
step_held node source name step.Nothing node' e = keeps_by_deed node node' (on_uncontested node.session source) e
step_held node source name step.Defend node' e = refl
step_held node source name (step.Move a) node' e = refl
step_held node source name step.CannotClaim node' e = refl

pub held_as_by_deed : (node : NodeValue) (memory : MemoryValue) (answer : Answer) (g : Group) → KeepsOrClaims node g (reaction_to node memory answer g)
held_as_by_deed node memory answer (AddressClaimed source name) = step_held node source name (claim_step source name node.claimer) (noted_from node (AddressClaimed source name)) refl
held_as_by_deed node memory answer (CannotClaim name) = refl
held_as_by_deed node memory answer (Request pgn destination source) = refl
held_as_by_deed node memory answer (Acknowledgment control requester pgn destination source) = refl
held_as_by_deed node memory answer (Diagnostic kind source bytes) = refl
held_as_by_deed node memory answer (ConnectionManagement source destination (Rts size packets most pgn)) = refl
held_as_by_deed node memory answer (ConnectionManagement source destination (Cts granted next pgn)) = refl
held_as_by_deed node memory answer (ConnectionManagement source destination (EndAck size packets pgn)) = refl
held_as_by_deed node memory answer (ConnectionManagement source destination (Bam size packets pgn)) =
    keeps_by_deed node (noted_from node (ConnectionManagement source destination (Bam size packets pgn))) Nothing (noted_held (is_to_all destination source) node _ refl)
held_as_by_deed node memory answer (ConnectionManagement source destination (Abort reason pgn)) = refl
held_as_by_deed node memory answer (DataTransfer source destination bytes) =
    keeps_by_deed node (noted_from node (DataTransfer source destination bytes)) (reaction_to node memory answer (DataTransfer source destination bytes)) (noted_held (is_to_all destination source) node _ refl)
held_as_by_deed node memory answer Other = refl

-- ---- all of it: what a unit puts for a frame is from the address that it then holds

pub heard_source : (f : FrameValue) (node node' : NodeValue) (memory memory' : MemoryValue) (h : Heard) → Reacts f node memory h node' memory' → CanHold node.claimer.held
    → All (IsSentFrom (claim_source node'.claimer.held)) h.put
heard_source f node node' memory memory' h r can =
    let g = group_of f in
    let deed = reaction_to node memory h.answer g in
    let all = deed_source node memory g deed can (reaction_is_lawful node memory h.answer g can) in
    let s : claim_source (after_deed node deed).claimer.held ≡ claim_source node'.claimer.held = ap claim_source (sym (ap (λ (n : NodeValue). n.claimer.held) r.node_is ∙ held_as_by_deed node memory h.answer g)) in
    let p : put_of deed ≡ h.put = sym (ap (λ (x : Heard). x.put) r.heard_is) in
    subst (λ (l : List Out). All (IsSentFrom (claim_source node'.claimer.held)) l) p (subst (λ (a : ℕ). All (IsSentFrom a) (put_of deed)) s all)

-- ---- where not all is withdrawn the address stays

kept_by : (node : NodeValue) (deed : Deed) → (withdraw_of deed ≡ withdraw.All) ⊎ ((after_deed node deed).claimer.held ≡ node.claimer.held)
kept_by node Nothing = inr refl
kept_by node (Replies f) = inr refl
kept_by node (Begins kind m source destination) = inr (begun_held (destination == 255) node _)
kept_by node (Sends s source count) = inr refl
kept_by node EndsSession = inr refl
kept_by node (Claims name held) = inl refl

pub heard_kept : (f : FrameValue) (node node' : NodeValue) (memory memory' : MemoryValue) (h : Heard) → Reacts f node memory h node' memory'
    → (h.withdraw ≡ withdraw.All) ⊎ (node'.claimer.held ≡ node.claimer.held)
heard_kept f node node' memory memory' h r =
    let g = group_of f in
    let held : node'.claimer.held ≡ (after_deed node (reaction_to node memory h.answer g)).claimer.held = ap (λ (n : NodeValue). n.claimer.held) r.node_is ∙ held_as_by_deed node memory h.answer g in
    elim (kept_by node (reaction_to node memory h.answer g)) [ inl all ↦ inl (ap (λ (x : Heard). x.withdraw) r.heard_is ∙ all) | inr same ↦ inr (held ∙ same) ]

-- ---- what puts nothing beside what waits

abbrev AddsNothing : Deed → Type 0
AddsNothing deed = (withdraw_of deed ≡ withdraw.All) ⊎ (put_of deed ≡ [])

if_adds : (b : Bool) (x y : Deed) → AddsNothing x → AddsNothing y → AddsNothing (if b then x else y)
if_adds true x y p q = p
if_adds false x y p q = q

step_adds : (node : NodeValue) (source : ℕ) (st : ClaimStep) → AddsNothing (on_step node source st)
step_adds node source step.Nothing = if_adds (is_destination node.session source) EndsSession Nothing (inr refl) (inr refl)
step_adds node source step.Defend = inl refl
step_adds node source (step.Move a) = inl refl
step_adds node source step.CannotClaim = inl refl

command_adds : (node : NodeValue) (answer : Answer) (o : Option Commanded) → AddsNothing (on_command node answer o)
command_adds node answer None = inr refl
command_adds node answer (Some c) = if_adds (is_agreed answer) (Claims node.claimer.name (Some c.address)) Nothing (inl refl) (inr refl)

pub adds_nothing : (node : NodeValue) (memory : MemoryValue) (answer : Answer) (g : Group) → needs_room g ≡ false → AddsNothing (reaction_to node memory answer g)
adds_nothing node memory answer (AddressClaimed source name) e = step_adds node source (claim_step source name node.claimer)
adds_nothing node memory answer (CannotClaim name) e = inr refl
adds_nothing node memory answer (Request pgn destination source) e = absurd cc
adds_nothing node memory answer (Acknowledgment control requester pgn destination source) e = inr refl
adds_nothing node memory answer (Diagnostic kind source bytes) e = inr refl
adds_nothing node memory answer (ConnectionManagement source destination (Rts size packets most pgn)) e = absurd cc
adds_nothing node memory answer (ConnectionManagement source destination (Cts granted next pgn)) e = absurd cc
adds_nothing node memory answer (ConnectionManagement source destination (EndAck size packets pgn)) e =
    if_adds (is_held node.claimer.held destination) _ Nothing (if_adds (is_all_queued_with node.session source pgn) EndsSession Nothing (inr refl) (inr refl)) (inr refl)
adds_nothing node memory answer (ConnectionManagement source destination (Bam size packets pgn)) e = inr refl
adds_nothing node memory answer (ConnectionManagement source destination (Abort reason pgn)) e =
    if_adds (is_held node.claimer.held destination) _ Nothing (if_adds (is_open_with node.session source pgn) EndsSession Nothing (inr refl) (inr refl)) (inr refl)
adds_nothing node memory answer (DataTransfer source destination bytes) e = command_adds node answer _
adds_nothing node memory answer Other e = inr refl

pub heard_room : (f : FrameValue) (node node' : NodeValue) (memory memory' : MemoryValue) (h : Heard) → Reacts f node memory h node' memory' → needs_room (group_of f) ≡ false
    → (h.withdraw ≡ withdraw.All) ⊎ (h.put ≡ [])
heard_room f node node' memory memory' h r e =
    elim (adds_nothing node memory h.answer (group_of f) e) [
      | inl all ↦ inl (ap (λ (x : Heard). x.withdraw) r.heard_is ∙ all)
      | inr none ↦ inr (ap (λ (x : Heard). x.put) r.heard_is ∙ none)
    ]

-- ---- a message that a unit begins

started_from : (b : Bool) (begun begun' : Message) (put put' : List Out) → Begun begun put ≡ (if b then Held else Begun begun' put') → put ≡ put'
started_from true begun begun' put put' e = absurd cc
started_from false begun begun' put put' e = cc

pub begun_from : (held : Option ℕ) (session : Option OpenSession) (kind : Kind) (memory : MemoryValue) (source : ℕ) (s : Started) (begun : Message) (put : List Out)
    → held ≡ Some source → source ≤ 253 → s ≡ Begun begun put → IfSome held (λ a. s ≡ begins session kind memory a) → All (IsSentFrom source) put
begun_from None session kind memory source s begun put e h i started = absurd cc
begun_from (Some a) session kind memory source s begun put e h i started =
    let same : a ≡ source = cc in
    let is : put ≡ parts_begun (payload_of kind memory) (pgn_of_kind kind) source 255 =
    started_from (is_open session kind) begun _ put _ (sym i ∙ subst (λ (x : ℕ). s ≡ begins session kind memory x) same started) in
    subst (λ (l : List Out). All (IsSentFrom source) l) (sym is) (begun_source (payload_of kind memory) (pgn_of_kind kind) source 255 (omega arith))

pub can_hold : (o held : Option ℕ) → o ≡ held → IfSome o (λ a. a ≤ 253) → CanHold held
can_hold None held e h = subst CanHold e tt
can_hold (Some a) held e h = subst CanHold e h
