-- Which deeds a frame may lead to, whatever the unit chooses: what the rest of the bus can rely on.
use Rattle.std.proofs.Common.{◌≡◌, ◌≢◌, ℕ, ◌+◌, ◌≤◌, ◌⊎◌, inl, inr, Bool, true, false, not, ◌&&◌, ◌||◌, ◌==◌, nat_le, nat_lt, eqb, min, List, length, Option, Some, None, IfSome, is_some, if◌then◌else◌, arith, refl, option_map}
use Rattle.std.specs.List.{position, slice_range}
use Rattle.std.proofs.lemmas.Bool.{and_parts, leb-true, eqb-true, eq-eqb}
use Rattle.std.proofs.lemmas.List.Quantifiers.{position-Some}
use Rattle.std.proofs.lemmas.List.{length-take}
use Rattle.can_frame.specs.FrameValue.{FrameValue}
use Rattle.can_frame.specs.declared.address.TheConstants.{GREATEST_ADDRESS, GLOBAL_ADDRESS}
use Rattle.transport.specs.declared.control.Control.{Control}
use Rattle.transport.specs.declared.control.Control.TheVariants.{Rts, Cts, EndAck, Bam, Abort}
use Rattle.transport.specs.Messages.{control_frame}
use Rattle.transport.specs.Sending.{packets_granted, packets_left}
use Rattle.name_field.specs.Fields.{arbitrary_capable_of}
use Rattle.address_claim.specs.Claiming.{is_held, is_free, free_address, next_address, noted_after, move_step, claim_step, CanHold}
use Rattle.address_claim.specs.Frames.{claim_frame_value}
use Rattle.address_claim.specs.declared.claimer.ClaimStep.{ClaimStep}
use Rattle.address_claim.specs.declared.claimer.ClaimStep.TheVariants as step
use Rattle.requests.specs.declared.commanded.Commanded.{Commanded}
use Rattle.parameter_group.specs.Group.{Group, AddressClaimed, CannotClaim, Request, Acknowledgment, Diagnostic, ConnectionManagement, DataTransfer, Other}
use Rattle.fault_memory.specs.Memory.{MemoryValue}
use Rattle.dm_messages.specs.declared.kind.Kind.{Kind}
use Rattle.node_core.specs.NodeValue.{NodeValue, is_open, is_destination, open_address}
use Rattle.dm_messages.specs.View.{payload_of}
use Rattle.node_core.specs.Deed.{Deed, Nothing, Replies, Begins, Sends, EndsSession, Claims}
use Rattle.node_core.specs.Asking.{is_agreed}
use Rattle.node_core.specs.declared.heard.Answer.{Answer}
use Rattle.node_core.specs.Commanding.{completed, partial_from, is_to_all, for_name}
use Rattle.node_core.specs.Requested.{wanted_by, is_addressed, may_answer, acknowledgment}
use Rattle.node_core.specs.Reaction.{on_step, asked_for_message, asked_at_address, asked_of_all, asked_for_more, on_request, is_with, on_cts, is_open_with, is_all_queued_with, on_end_ack, on_abort, on_control, on_command, reaction_to}
use Rattle.node_core.specs.declared.session.OpenSession.{OpenSession}
use Rattle.node_core.specs.declared.requested.Wanted.{Wanted}
use Rattle.node_core.specs.declared.requested.Wanted.TheVariants as wanted
use Rattle.parameter_group.specs.Calm.{IsCalm, is_contest}

-- a group is calm to a unit: it neither contests the unit's address nor cuts its session
abbrev pub IsCalmTo : NodeValue → Group → Type 0
IsCalmTo node g = IsCalm node.claimer.name node.claimer.held (open_address node.session) g

-- an acknowledgment of a request, from the address held
pub record Acknowledges (node : NodeValue) (g : Group) (f : FrameValue) : Type 0 where
  pub control : ℕ
  pub pgn : ℕ
  pub destination : ℕ
  pub requester : ℕ
  pub address : ℕ
  pub asked : g ≡ Request pgn destination requester
  pub held : node.claimer.held ≡ Some address
  pub small : control ≤ 3
  pub sent : f ≡ acknowledgment control requester pgn address

-- an abort in answer to a request to send, from the address held
pub record Refuses (node : NodeValue) (g : Group) (f : FrameValue) : Type 0 where
  pub source : ℕ
  pub address : ℕ
  pub size : ℕ
  pub packets : ℕ
  pub most : ℕ
  pub pgn : ℕ
  pub asked : g ≡ ConnectionManagement source address (Rts size packets most pgn)
  pub held : node.claimer.held ≡ Some address
  pub sent : f ≡ control_frame (Abort 2 pgn) address source

-- what may be replied: one's own claim or cannot claim, an acknowledgment, an abort
abbrev pub IsReply : NodeValue → Group → FrameValue → Type 0
IsReply node g f = (f ≡ claim_frame_value node.claimer.name node.claimer.held) ⊎ (Acknowledges node g f ⊎ Refuses node g f)

-- a session goes to who asked for it, at another address than one's own, where none is open
pub record Opens (node : NodeValue) (g : Group) (kind : Kind) (memory : MemoryValue) (source destination : ℕ) : Type 0 where
  pub pgn : ℕ
  pub to : ℕ
  pub asked : g ≡ Request pgn to destination
  pub apart : destination ≢ source
  pub holdable : destination ≤ GREATEST_ADDRESS
  pub long : (length (payload_of kind memory) == 8) ≡ false
  pub free : node.session ≡ None

-- a message is of the memory as it is, from the address held, while no session of its kind is open
pub record BeginsLawfully (node : NodeValue) (memory : MemoryValue) (g : Group) (kind : Kind) (memory' : MemoryValue) (source destination : ℕ) : Type 0 where
  pub held : node.claimer.held ≡ Some source
  pub same : memory' ≡ memory
  pub closed : is_open node.session kind ≡ false
  pub way : (destination ≡ GLOBAL_ADDRESS) ⊎ Opens node g kind memory' source destination

-- further packets are of the open session, from the address held, and no more than are left
pub record SendsLawfully (node : NodeValue) (s : OpenSession) (source count : ℕ) : Type 0 where
  pub session : node.session ≡ Some s
  pub held : node.claimer.held ≡ Some source
  pub within : count ≤ packets_left s.sending

-- what may be done on hearing g
abbrev pub IsLawfulDeed : NodeValue → MemoryValue → Group → Deed → Type 0
IsLawfulDeed node memory g Nothing = IsCalmTo node g
IsLawfulDeed node memory g (Replies f) = IsCalmTo node g × IsReply node g f
IsLawfulDeed node memory g (Begins kind memory' source destination) = IsCalmTo node g × BeginsLawfully node memory g kind memory' source destination
IsLawfulDeed node memory g (Sends s source count) = IsCalmTo node g × SendsLawfully node s source count
IsLawfulDeed node memory g EndsSession = is_contest node.claimer.name node.claimer.held g ≡ false
IsLawfulDeed node memory g (Claims name held) = (name ≡ node.claimer.name) × CanHold held

-- ---- a choice is lawful where both of its sides are

if_case : (P : Deed → Type 0) (b : Bool) (x y : Deed) → (b ≡ true → P x) → (b ≡ false → P y) → P (if b then x else y)
if_case P true x y t f = t refl
if_case P false x y t f = f refl

step_case : (P : ClaimStep → Type 0) (b : Bool) (x y : ClaimStep) → (b ≡ true → P x) → (b ≡ false → P y) → P (if b then x else y)
step_case P true x y t f = t refl
step_case P false x y t f = f refl

held_is : (held : Option ℕ) (address : ℕ) → is_held held address ≡ true → held ≡ Some address
held_is None address h = cc
held_is (Some a) address h = rw (eqb-true a address h) refl

none_is : (o : Option OpenSession) → is_some o ≡ false → o ≡ None
none_is None h = refl
none_is (Some s) h = cc

not_both : (a b : Bool) → (not a || b) ≡ true → (a && not b) ≡ false
not_both true true h = refl
not_both true false h = cc
not_both false b h = refl

is_not : (b : Bool) → not b ≡ true → b ≡ false
is_not true h = cc
is_not false h = refl

control_small : (agrees : Bool) → (if agrees then 0 else 1) ≤ 3
control_small true = omega arith
control_small false = omega arith

-- ---- claims

free_fits : (name : ℕ) (noted : List (Option ℕ)) (o : Option ℕ) → position (is_free name) (slice_range noted 128 248) ≡ o → CanHold (option_map (λ k. 128 + k) o)
free_fits name noted None h = tt
free_fits name noted (Some k) h =
    let w = position-Some (is_free name) (slice_range noted 128 248) k None h in
    let short = length-take 120 (Rattle.std.specs.Prelude.drop 128 noted) in
    omega (arith, w.0)

next_fits : (b : Bool) (name : ℕ) (noted : List (Option ℕ)) → CanHold (if b then free_address name noted else None)
next_fits true name noted = free_fits name noted _ refl
next_fits false name noted = tt

move_is_lawful : (node : NodeValue) (memory : MemoryValue) (g : Group) (source : ℕ) (o : Option ℕ) → CanHold o → IsLawfulDeed node memory g (on_step node source (move_step o))
move_is_lawful node memory g source None h = (refl, tt)
move_is_lawful node memory g source (Some a) h = (refl, h)

claim_is_lawful : (node : NodeValue) (memory : MemoryValue) (source name : ℕ) → CanHold node.claimer.held
    → IsLawfulDeed node memory (AddressClaimed source name) (on_step node source (claim_step source name node.claimer))
claim_is_lawful node memory source name held =
    let g : Group = AddressClaimed source name in
    let P : ClaimStep → Type 0 = λ st. IsLawfulDeed node memory g (on_step node source st) in
    let c = node.claimer in
    let moved : ClaimStep = move_step (next_address c.name (noted_after source name c.noted)) in
    step_case P (not (is_held c.held source) || eqb name c.name) step.Nothing (if nat_lt c.name name then step.Defend else moved)
    (λ t.
    let calm = not_both (is_held c.held source) (eqb name c.name) t in
    if_case (IsLawfulDeed node memory g) (is_destination node.session source) EndsSession Nothing
    (λ _. calm)
    (λ f. record { uncontested = calm; uncut = f }))
    (λ _.
    step_case P (nat_lt c.name name) step.Defend moved
    (λ _. (refl, held))
    (λ _. move_is_lawful node memory g source _ (next_fits (eqb (arbitrary_capable_of c.name) 1) c.name (noted_after source name c.noted))))

-- ---- requests

replies_control : (node : NodeValue) (memory : MemoryValue) (control pgn to address source : ℕ) → node.claimer.held ≡ Some address → control ≤ 3
    → IsLawfulDeed node memory (Request pgn to source) (Replies (acknowledgment control source pgn address))
replies_control node memory control pgn to address source held small = (
  record { uncontested = refl; uncut = refl },
  inr (inl (record {
    control = control;
    pgn = pgn;
    destination = to;
    requester = source;
    address = address;
    asked = refl;
    held = held;
    small = small;
    sent = refl;
  })),
)

begins_to_all : (node : NodeValue) (memory : MemoryValue) (pgn to source : ℕ) (kind : Kind) (address : ℕ) → node.claimer.held ≡ Some address → is_open node.session kind ≡ false
    → IsLawfulDeed node memory (Request pgn to source) (Begins kind memory address 255)
begins_to_all node memory pgn to source kind address held closed =
    (record { uncontested = refl; uncut = refl }, record { held = held; same = refl; closed = closed; way = inl refl })

message_is_lawful : (node : NodeValue) (memory : MemoryValue) (pgn to : ℕ) (kind : Kind) (address source : ℕ) → node.claimer.held ≡ Some address → source ≤ 253 → source ≢ address
    → IsLawfulDeed node memory (Request pgn to source) (asked_for_message node.session kind memory pgn address source)
message_is_lawful node memory pgn to kind address source held holdable apart =
    let L = IsLawfulDeed node memory (Request pgn to source) in
    let busy : Deed = Replies (acknowledgment 3 source pgn address) in
    let long : Bool = length (payload_of kind memory) == 8 in
    let session : Deed = if is_some node.session then busy else Begins kind memory address source in
    if_case L (is_open node.session kind) busy (if long then Begins kind memory address 255 else session)
    (λ _. replies_control node memory 3 pgn to address source held (omega arith))
    (λ closed.
    if_case L long (Begins kind memory address 255) session
    (λ _. begins_to_all node memory pgn to source kind address held closed)
    (λ l.
    if_case L (is_some node.session) busy (Begins kind memory address source)
    (λ _. replies_control node memory 3 pgn to address source held (omega arith))
    (λ free. (
      record { uncontested = refl; uncut = refl },
      record {
        held = held;
        same = refl;
        closed = closed;
        way = inr (record { pgn = pgn; to = to; asked = refl; apart = apart; holdable = holdable; long = l; free = none_is node.session free });
      },
    ))))

at_address_is_lawful : (node : NodeValue) (memory : MemoryValue) (answer : Answer) (pgn to address source : ℕ) (w : Wanted) → node.claimer.held ≡ Some address → source ≤ 253 → source ≢ address
    → IsLawfulDeed node memory (Request pgn to source) (asked_at_address node memory answer pgn address source w)
at_address_is_lawful node memory answer pgn to address source (wanted.Message kind) held holdable apart = message_is_lawful node memory pgn to kind address source held holdable apart
at_address_is_lawful node memory answer pgn to address source (wanted.Clear which) held holdable apart =
    replies_control node memory (if is_agreed answer then 0 else 1) pgn to address source held (control_small (is_agreed answer))
at_address_is_lawful node memory answer pgn to address source wanted.Unsupported held holdable apart =
    replies_control node memory 1 pgn to address source held (omega arith)

of_all_is_lawful : (node : NodeValue) (memory : MemoryValue) (pgn to address source : ℕ) (w : Wanted) → node.claimer.held ≡ Some address
    → IsLawfulDeed node memory (Request pgn to source) (asked_of_all node memory address w)
of_all_is_lawful node memory pgn to address source (wanted.Message kind) held =
    if_case (IsLawfulDeed node memory (Request pgn to source)) (is_open node.session kind) Nothing (Begins kind memory address 255)
    (λ _. record { uncontested = refl; uncut = refl })
    (λ closed. begins_to_all node memory pgn to source kind address held closed)
of_all_is_lawful node memory pgn to address source (wanted.Clear which) held = record { uncontested = refl; uncut = refl }
of_all_is_lawful node memory pgn to address source wanted.Unsupported held = record { uncontested = refl; uncut = refl }

more_is_lawful : (node : NodeValue) (memory : MemoryValue) (answer : Answer) (pgn to source : ℕ) (held : Option ℕ) → node.claimer.held ≡ held
    → IsLawfulDeed node memory (Request pgn to source) (asked_for_more node memory answer pgn to source held)
more_is_lawful node memory answer pgn to source None h = record { uncontested = refl; uncut = refl }
more_is_lawful node memory answer pgn to source (Some address) h =
    let L = IsLawfulDeed node memory (Request pgn to source) in
    let all : Deed = asked_of_all node memory address (wanted_by pgn) in
    let one : Deed = asked_at_address node memory answer pgn address source (wanted_by pgn) in
    if_case L (may_answer address source) (if to == 255 then all else one) Nothing
    (λ counts.
    let both = and_parts (nat_le source 253) (not (source == address)) counts in
    let apart : source ≢ address = λ e. let same = eq-eqb source address e in let other = is_not (source == address) both.1 in cc in
    if_case L (to == 255) all one
    (λ _. of_all_is_lawful node memory pgn to address source (wanted_by pgn) h)
    (λ _. at_address_is_lawful node memory answer pgn to address source (wanted_by pgn) h (leb-true source 253 both.0) apart))
    (λ _. record { uncontested = refl; uncut = refl })

request_is_lawful : (node : NodeValue) (memory : MemoryValue) (answer : Answer) (pgn to source : ℕ)
    → IsLawfulDeed node memory (Request pgn to source) (on_request node memory answer pgn to source)
request_is_lawful node memory answer pgn to source =
    let L = IsLawfulDeed node memory (Request pgn to source) in
    let claim : Deed = Replies (claim_frame_value node.claimer.name node.claimer.held) in
    let more : Deed = asked_for_more node memory answer pgn to source node.claimer.held in
    if_case L (not (is_addressed node.claimer.held to)) Nothing (if pgn == 60928 then claim else more)
    (λ _. record { uncontested = refl; uncut = refl })
    (λ _.
    if_case L (pgn == 60928) claim more
    (λ _. (record { uncontested = refl; uncut = refl }, inl refl))
    (λ _. more_is_lawful node memory answer pgn to source node.claimer.held refl))

-- ---- sessions

granted_within : (b : Bool) (granted left : ℕ) → (if b then min granted left else 0) ≤ left
granted_within true granted left = omega arith
granted_within false granted left = omega arith

cts_is_lawful : (node : NodeValue) (memory : MemoryValue) (source address granted next pgn : ℕ) (o : Option OpenSession) → node.session ≡ o → node.claimer.held ≡ Some address
    → IsLawfulDeed node memory (ConnectionManagement source address (Cts granted next pgn)) (on_cts o address source granted next pgn)
cts_is_lawful node memory source address granted next pgn None h held = record { uncontested = refl; uncut = refl }
cts_is_lawful node memory source address granted next pgn (Some s) h held =
    if_case (IsLawfulDeed node memory (ConnectionManagement source address (Cts granted next pgn))) (is_with s source pgn) (Sends s address (packets_granted s.sending granted next)) Nothing
    (λ _. (
      record { uncontested = refl; uncut = refl },
      record {
        session = h;
        held = held;
        within = granted_within (eqb next (s.sending.queued + 1)) granted (packets_left s.sending);
      },
    ))
    (λ _. record { uncontested = refl; uncut = refl })

control_is_lawful : (node : NodeValue) (memory : MemoryValue) (source destination : ℕ) (control : Control)
    → IsLawfulDeed node memory (ConnectionManagement source destination control) (on_control node source destination control)
control_is_lawful node memory source destination (Rts size packets most pgn) =
    if_case (IsLawfulDeed node memory (ConnectionManagement source destination (Rts size packets most pgn))) (is_held node.claimer.held destination && nat_le source 253) (Replies (control_frame (Abort 2 pgn) destination source)) Nothing
    (λ t.
    let both = and_parts (is_held node.claimer.held destination) (nat_le source 253) t in (
      record { uncontested = refl; uncut = refl },
      inr (inr (record {
        source = source;
        address = destination;
        size = size;
        packets = packets;
        most = most;
        pgn = pgn;
        asked = refl;
        held = held_is node.claimer.held destination both.0;
        sent = refl;
      })),
    ))
    (λ _. record { uncontested = refl; uncut = refl })
control_is_lawful node memory source destination (Cts granted next pgn) =
    if_case (IsLawfulDeed node memory (ConnectionManagement source destination (Cts granted next pgn))) (is_held node.claimer.held destination) (on_cts node.session destination source granted next pgn) Nothing
    (λ t. cts_is_lawful node memory source destination granted next pgn node.session refl (held_is node.claimer.held destination t))
    (λ _. record { uncontested = refl; uncut = refl })
control_is_lawful node memory source destination (EndAck size packets pgn) =
    let L = IsLawfulDeed node memory (ConnectionManagement source destination (EndAck size packets pgn)) in
    if_case L (is_held node.claimer.held destination) (on_end_ack node.session source pgn) Nothing
    (λ _. if_case L (is_all_queued_with node.session source pgn) EndsSession Nothing (λ _. refl) (λ _. record { uncontested = refl; uncut = refl }))
    (λ _. record { uncontested = refl; uncut = refl })
control_is_lawful node memory source destination (Abort reason pgn) =
    let L = IsLawfulDeed node memory (ConnectionManagement source destination (Abort reason pgn)) in
    if_case L (is_held node.claimer.held destination) (on_abort node.session source pgn) Nothing
    (λ _. if_case L (is_open_with node.session source pgn) EndsSession Nothing (λ _. refl) (λ _. record { uncontested = refl; uncut = refl }))
    (λ _. record { uncontested = refl; uncut = refl })
control_is_lawful node memory source destination (Bam size packets pgn) = record { uncontested = refl; uncut = refl }

-- ---- commanded address

for_name_fits : (name : ℕ) (o : Option Commanded) → IfSome (for_name name o) (λ c. c.address ≤ 253)
for_name_fits name None = tt
for_name_fits name (Some c) = command_fits c (c.name == name) (nat_le c.address 253) (λ t. leb-true c.address 253 t) where
  command_fits : (c : Commanded) (a b : Bool) → (b ≡ true → c.address ≤ 253) → IfSome (if a && b then Some c else None) (λ c. c.address ≤ 253)
  command_fits c true true h = h refl
  command_fits c true false h = tt
  command_fits c false b h = tt

command_heard_fits : (b : Bool) (name : ℕ) (o : Option Commanded) → IfSome (if b then for_name name o else None) (λ c. c.address ≤ 253)
command_heard_fits true name o = for_name_fits name o
command_heard_fits false name o = tt

command_is_lawful : (node : NodeValue) (memory : MemoryValue) (answer : Answer) (source destination : ℕ) (bytes : List ℕ) (o : Option Commanded) → IfSome o (λ c. c.address ≤ 253)
    → IsLawfulDeed node memory (DataTransfer source destination bytes) (on_command node answer o)
command_is_lawful node memory answer source destination bytes None h = record { uncontested = refl; uncut = refl }
command_is_lawful node memory answer source destination bytes (Some c) h =
    if_case (IsLawfulDeed node memory (DataTransfer source destination bytes)) (is_agreed answer) (Claims node.claimer.name (Some c.address)) Nothing
    (λ _. (refl, h))
    (λ _. record { uncontested = refl; uncut = refl })

-- ---- all of it

-- whatever a frame says and the unit chooses, its deed is a lawful one
pub reaction_is_lawful : (node : NodeValue) (memory : MemoryValue) (answer : Answer) (g : Group) → CanHold node.claimer.held → IsLawfulDeed node memory g (reaction_to node memory answer g)
reaction_is_lawful node memory answer (AddressClaimed source name) held = claim_is_lawful node memory source name held
reaction_is_lawful node memory answer (CannotClaim name) held = record { uncontested = refl; uncut = refl }
reaction_is_lawful node memory answer (Request pgn destination source) held = request_is_lawful node memory answer pgn destination source
reaction_is_lawful node memory answer (Acknowledgment control requester pgn destination source) held = record { uncontested = refl; uncut = refl }
reaction_is_lawful node memory answer (Diagnostic kind source bytes) held = record { uncontested = refl; uncut = refl }
reaction_is_lawful node memory answer (ConnectionManagement source destination control) held = control_is_lawful node memory source destination control
reaction_is_lawful node memory answer (DataTransfer source destination bytes) held =
    command_is_lawful node memory answer source destination bytes _ (command_heard_fits (is_to_all destination source) node.claimer.name (completed (partial_from node.partial_commands source) bytes))
reaction_is_lawful node memory answer Other held = record { uncontested = refl; uncut = refl }
