-- The acceptance of a frame.
use Rattle.std.proofs.Common.{◌≡◌, ◌≢◌, ℕ, ◌≤◌, ◌<◌, Bool, true, false, not, ◌&&◌, ◌||◌, ◌==◌, nat_le, List, length, slice_index, slice_set, Option, Some, None, if◌then◌else◌, arith, refl, sym, ap, ◌∙◌, subst, ne_eqb}
use Rattle.std.proofs.lemmas.List.{set-get_or}
use Rattle.can_frame.specs.Fields.{pgn_of, pdu_format_of, pdu_specific_of, source_of, destination_of}
use Rattle.can_frame.specs.FrameValue.{FrameValue}
use Rattle.transport.specs.ControlMessage.{control_of}
use Rattle.transport.specs.declared.control.Control.{Control}
use Rattle.transport.specs.declared.control.Control.TheVariants.{Rts, Cts, EndAck, Bam, Abort}
use Rattle.address_claim.specs.Claiming.{is_held}
use Rattle.dm_messages.specs.declared.kind.Kind.{Kind}
use Rattle.dm_messages.specs.declared.kind.Kind.TheVariants.{Dm1, Dm2, Dm6}
use Rattle.parameter_group.specs.Group.{Group, AddressClaimed, CannotClaim, Request, Acknowledgment, Diagnostic, ConnectionManagement, DataTransfer, Other, group_number, request_group, acknowledgment_group, control_group, group_by, group_of}
use Rattle.parameter_group.proofs.Cases.{of_control, of_packet, of_request, to_one}
use Rattle.node_core.specs.NodeValue.{NodeValue}
use Rattle.node_core.specs.Commanding.{command_started, completed, continued, partial_from, is_partial, is_to_all, for_name}
use Rattle.node_core.specs.Requested.{is_addressed}
use Rattle.node_core.specs.Reaction.{command_heard, noted_from, on_command, put_by_command, put_to, reaction_to}
use Rattle.node_core.specs.Deed.{Deed, Nothing, after_deed}
use Rattle.node_core.specs.declared.heard.Answer.{Answer}
use Rattle.fault_memory.specs.Memory.{MemoryValue}
use Rattle.node_core.specs.Passing.{IsHeardQuietly, IsAcceptance, Absorbs, begun_partial, with_partial}
use Rattle.node_core.specs.declared.acceptance.Acceptance.TheVariants.{Ignored, Addressed, Claim, Announcement, Packet}
use Rattle.node_core.specs.declared.commanding.PartialCommand.{PartialCommand}
use Rattle.node_core.specs.declared.commanding.PartialCommand.TheVariants as partial

-- it is passed over, by what was said
record IsPassed (node : NodeValue) (g : Group) : Type 0 where
  pub unasked : put_to node g ≡ None
  pub idle : (memory : MemoryValue) (answer : Answer) → reaction_to node memory answer g ≡ Nothing
  pub unnoted : noted_from node g ≡ node

passed_over : (node : NodeValue) (f : FrameValue) → IsPassed node (group_of f) → IsHeardQuietly node f node
passed_over node f p = record {
  unasked = p.unasked;
  idle = p.idle;
  keeps = λ memory answer. ap (λ (d : Deed). after_deed (noted_from node (group_of f)) d) (p.idle memory answer) ∙ p.unnoted;
}

pub is_false : (b : Bool) → not b ≡ true → b ≡ false
is_false true e = absurd cc
is_false false e = refl

-- either of two groups is passed over
either : (node : NodeValue) (b : Bool) (g h : Group) → IsPassed node g → IsPassed node h → IsPassed node (if b then g else h)
either node true g h p q = p
either node false g h p q = q

other : (node : NodeValue) → IsPassed node Other
other node = record { unasked = refl; idle = λ memory answer. refl; unnoted = refl }

diagnostic : (node : NodeValue) (kind : Kind) (source : ℕ) (bytes : List ℕ) → IsPassed node (Diagnostic kind source bytes)
diagnostic node kind source bytes = record { unasked = refl; idle = λ memory answer. refl; unnoted = refl }

-- ---- what goes to one address, and is none of those groups that ask something

rest_passed : (node : NodeValue) (pgn destination source : ℕ) (bytes : List ℕ) → pgn ≢ 60928 → pgn ≢ 59904 → pgn ≢ 60416 → pgn ≢ 60160 → IsPassed node (group_by pgn destination source bytes)
rest_passed node pgn destination source bytes a b c d =
    let three : Group = if pgn == 65231 then Diagnostic Dm6 source bytes else Other in
    let two : Group = if pgn == 65227 then Diagnostic Dm2 source bytes else three in
    let one : Group = if pgn == 65226 then Diagnostic Dm1 source bytes else two in
    let rest : Group = if pgn == 59392 then acknowledgment_group destination source bytes else one in
    let is : group_by pgn destination source bytes ≡ rest = rw (ne_eqb pgn 60928 a, ne_eqb pgn 59904 b, ne_eqb pgn 60416 c, ne_eqb pgn 60160 d) refl in
    let acknowledged : IsPassed node (acknowledgment_group destination source bytes) =
    either node (length bytes == 8) (Acknowledgment (slice_index bytes 0) (slice_index bytes 4) (group_number bytes 5) destination source) Other
    (record { unasked = refl; idle = λ memory answer. refl; unnoted = refl }) (other node) in
    let third : IsPassed node three = either node (pgn == 65231) (Diagnostic Dm6 source bytes) Other (diagnostic node Dm6 source bytes) (other node) in
    let second : IsPassed node two = either node (pgn == 65227) (Diagnostic Dm2 source bytes) three (diagnostic node Dm2 source bytes) third in
    let first : IsPassed node one = either node (pgn == 65226) (Diagnostic Dm1 source bytes) two (diagnostic node Dm1 source bytes) second in
    subst (IsPassed node) (sym is) (either node (pgn == 59392) (acknowledgment_group destination source bytes) one acknowledged first)

rest_of_groups : (node : NodeValue) (f : FrameValue) → pgn_of f.id ≢ 60928 → pgn_of f.id ≢ 59904 → pgn_of f.id ≢ 60416 → pgn_of f.id ≢ 60160 → IsPassed node (group_of f)
unfolding group_of
rest_of_groups node f a b c d = rest_passed node (pgn_of f.id) (pdu_specific_of f.id) (source_of f.id) f.bytes a b c d

pub passes_other : (node : NodeValue) (f : FrameValue) → pgn_of f.id ≢ 60928 → pgn_of f.id ≢ 59904 → pgn_of f.id ≢ 60416 → pgn_of f.id ≢ 60160 → IsHeardQuietly node f node
passes_other node f a b c d = passed_over node f (rest_of_groups node f a b c d)

-- a group that goes to all by its format
apart : (id n : ℕ) → 240 ≤ pdu_format_of id → n < 61440 → pgn_of id ≢ n
apart id n high low e = grind arith

pub passes_to_all : (node : NodeValue) (f : FrameValue) → 240 ≤ pdu_format_of f.id → IsHeardQuietly node f node
passes_to_all node f high =
    passes_other node f (apart f.id 60928 high (omega arith)) (apart f.id 59904 high (omega arith)) (apart f.id 60416 high (omega arith)) (apart f.id 60160 high (omega arith))

-- ---- requests and connection management to another unit

request_passed : (node : NodeValue) (destination source : ℕ) (bytes : List ℕ) → is_addressed node.claimer.held destination ≡ false → IsPassed node (request_group destination source bytes)
request_passed node destination source bytes e =
    either node (nat_le 3 (length bytes)) (Request (group_number bytes 0) destination source) Other
    (record { unasked = rw e refl; idle = λ memory answer. rw e refl; unnoted = refl }) (other node)

neither : (a b : Bool) → (a || b) ≡ false → (a ≡ false) × (b ≡ false)
neither true b e = absurd cc
neither false b e = (refl, e)

message_passed : (node : NodeValue) (destination source : ℕ) (c : Control) → (destination == 255) ≡ false → is_held node.claimer.held destination ≡ false
    → IsPassed node (ConnectionManagement source destination c)
message_passed node destination source (Rts size packets most pgn) all held = record { unasked = refl; idle = λ memory answer. rw held refl; unnoted = refl }
message_passed node destination source (Cts granted next pgn) all held = record { unasked = refl; idle = λ memory answer. rw held refl; unnoted = refl }
message_passed node destination source (EndAck size packets pgn) all held = record { unasked = refl; idle = λ memory answer. rw held refl; unnoted = refl }
message_passed node destination source (Abort reason pgn) all held = record { unasked = refl; idle = λ memory answer. rw held refl; unnoted = refl }
message_passed node destination source (Bam size packets pgn) all held = record { unasked = refl; idle = λ memory answer. refl; unnoted = rw all refl }

control_passed : (node : NodeValue) (destination source : ℕ) (o : Option Control) → is_addressed node.claimer.held destination ≡ false → IsPassed node (control_group destination source o)
control_passed node destination source None e = other node
control_passed node destination source (Some c) e =
    let none = neither (destination == 255) (is_held node.claimer.held destination) e in
    message_passed node destination source c none.0 none.1

-- the destination is the PDU specific byte
same_destination : (id destination : ℕ) → pgn_of id < 61440 → destination_of id ≡ Some destination → destination ≡ pdu_specific_of id
same_destination id destination low is = (let one = to_one id low in cc)

pub passes_request : (node : NodeValue) (f : FrameValue) (destination : ℕ) → pgn_of f.id ≡ 59904 → destination_of f.id ≡ Some destination
    → is_addressed node.claimer.held destination ≡ false → IsHeardQuietly node f node
passes_request node f destination group to e =
    let same = same_destination f.id destination (omega arith) to in
    passed_over node f (subst (IsPassed node) (sym (of_request f group))
    (request_passed node (pdu_specific_of f.id) (source_of f.id) f.bytes (subst (λ (d : ℕ). is_addressed node.claimer.held d ≡ false) same e)))

pub passes_message : (node : NodeValue) (f : FrameValue) (destination : ℕ) → pgn_of f.id ≡ 60416 → destination_of f.id ≡ Some destination
    → is_addressed node.claimer.held destination ≡ false → IsHeardQuietly node f node
passes_message node f destination group to e =
    let same = same_destination f.id destination (omega arith) to in
    passed_over node f (subst (IsPassed node) (sym (of_control f group))
    (control_passed node (pdu_specific_of f.id) (source_of f.id) (control_of f.bytes) (subst (λ (d : ℕ). is_addressed node.claimer.held d ≡ false) same e)))

-- ---- what each unit passes over, or each that it does not concern

all_pass : (f : FrameValue) → ((node : NodeValue) → IsHeardQuietly node f node) → IsAcceptance Ignored f
all_pass f passes = record { heard = λ node node' s. subst (λ (n : NodeValue). IsHeardQuietly node f n) (sym s) (passes node) }

pub accepts_to_all : (f : FrameValue) → 240 ≤ pdu_format_of f.id → IsAcceptance Ignored f
accepts_to_all f high = all_pass f (λ node. passes_to_all node f high)

pub accepts_other : (f : FrameValue) → pgn_of f.id ≢ 60928 → pgn_of f.id ≢ 59904 → pgn_of f.id ≢ 60416 → pgn_of f.id ≢ 60160 → IsAcceptance Ignored f
accepts_other f a b c d = all_pass f (λ node. passes_other node f a b c d)

elsewhere : (f : FrameValue) (destination : ℕ) → ((node : NodeValue) → is_addressed node.claimer.held destination ≡ false → IsHeardQuietly node f node) → IsAcceptance (Addressed destination) f
elsewhere f destination passes = record { heard = λ node node' s. subst (λ (n : NodeValue). IsHeardQuietly node f n) (sym s.1) (passes node s.0) }

pub accepts_request : (f : FrameValue) (destination : ℕ) → pgn_of f.id ≡ 59904 → destination_of f.id ≡ Some destination → IsAcceptance (Addressed destination) f
accepts_request f destination group to = elsewhere f destination (λ node e. passes_request node f destination group to e)

pub accepts_message : (f : FrameValue) (destination : ℕ) → pgn_of f.id ≡ 60416 → destination_of f.id ≡ Some destination → IsAcceptance (Addressed destination) f
accepts_message f destination group to = elsewhere f destination (λ node e. passes_message node f destination group to e)

-- a frame to all concerns each
pub accepts_unknown : (f : FrameValue) → IsAcceptance (Addressed 255) f
accepts_unknown f = elsewhere f 255 (λ node e. absurd (concerned node e))
  where
    concerned : (node : NodeValue) → is_addressed node.claimer.held 255 ≡ false → ⊥
    concerned node e = cc

-- ---- what tells a unit something to keep

-- by what was said: nothing is put to the unit, it does nothing, and keeps this
record IsTold (node : NodeValue) (g : Group) (node' : NodeValue) : Type 0 where
  pub unasked : put_to node g ≡ None
  pub idle : (memory : MemoryValue) (answer : Answer) → reaction_to node memory answer g ≡ Nothing
  pub noted : noted_from node g ≡ node'

told : (node node' : NodeValue) (f : FrameValue) (g : Group) → group_of f ≡ g → IsTold node g node' → IsHeardQuietly node f node'
told node node' f g is t =
    let t' : IsTold node (group_of f) node' = subst (λ (h : Group). IsTold node h node') (sym is) t in
    record {
      unasked = t'.unasked;
      idle = t'.idle;
      keeps = λ memory answer. ap (λ (d : Deed). after_deed (noted_from node (group_of f)) d) (t'.idle memory answer) ∙ t'.noted;
    }

pub accepts_claim : (f : FrameValue) (source name : ℕ) → group_of f ≡ AddressClaimed source name → IsAcceptance (Claim source name) f
accepts_claim f source name is = record { heard = λ node node' s. told node node' f (AddressClaimed source name) is (record { unasked = refl; idle = λ memory answer. s.0; noted = sym s.1 }) }

pub accepts_cannot_claim : (f : FrameValue) (name : ℕ) → group_of f ≡ CannotClaim name → IsAcceptance Ignored f
accepts_cannot_claim f name is = all_pass f (λ node. told node node f (CannotClaim name) is (record { unasked = refl; idle = λ memory answer. refl; noted = refl }))

pub accepts_nothing : (f : FrameValue) → group_of f ≡ Other → IsAcceptance Ignored f
accepts_nothing f is = all_pass f (λ node. told node node f Other is (record { unasked = refl; idle = λ memory answer. refl; noted = refl }))

-- an announcement
started_again : (b : Bool) → begun_partial (is_partial (if b then partial.Started else partial.Nothing)) ≡ (if b then partial.Started else partial.Nothing)
started_again true = refl
started_again false = refl

is_announced : (b : Bool) (node node' : NodeValue) (source size pgn : ℕ) → b ≡ true → node' ≡ with_partial node source (begun_partial (is_partial (command_started size pgn)))
    → (if b then with_partial node source (command_started size pgn) else node) ≡ node'
is_announced true node node' source size pgn e s = sym (s ∙ ap (λ (h : PartialCommand). with_partial node source h) (started_again ((size == 9) && (pgn == 65240))))
is_announced false node node' source size pgn e s = absurd cc

pub accepts_announcement : (f : FrameValue) (source destination size packets pgn : ℕ) → group_of f ≡ ConnectionManagement source destination (Bam size packets pgn) → is_to_all destination source ≡ true
    → IsAcceptance (Announcement source (is_partial (command_started size pgn))) f
accepts_announcement f source destination size packets pgn is all = record {
  heard = λ node node' s. told node node' f (ConnectionManagement source destination (Bam size packets pgn)) is
      (record { unasked = refl; idle = λ memory answer. refl; noted = is_announced (is_to_all destination source) node node' source size pgn all s });
}

-- ---- packets

-- a packet to one address, or from one that cannot be held
single_passed : (node : NodeValue) (destination source : ℕ) (bytes : List ℕ) → is_to_all destination source ≡ false → IsPassed node (DataTransfer source destination bytes)
single_passed node destination source bytes e = record { unasked = rw e refl; idle = λ memory answer. rw e refl; unnoted = rw e refl }

pub accepts_single : (f : FrameValue) (destination : ℕ) → pgn_of f.id ≡ 60160 → destination_of f.id ≡ Some destination → is_to_all destination (source_of f.id) ≡ false → IsAcceptance Ignored f
accepts_single f destination group to e = all_pass f (λ node. passes node)
  where
    passes : (node : NodeValue) → IsHeardQuietly node f node
    passes node =
        let same = same_destination f.id destination (omega arith) to in
        passed_over node f (subst (IsPassed node) (sym (of_packet f group))
        (single_passed node (pdu_specific_of f.id) (source_of f.id) f.bytes (subst (λ (d : ℕ). is_to_all d (source_of f.id) ≡ false) same e)))

-- a packet to all
packet_told : (node node' : NodeValue) (destination source : ℕ) (bytes : List ℕ) → is_to_all destination source ≡ true → for_name node.claimer.name (completed (partial_from node.partial_commands source) bytes) ≡ None
    → node' ≡ with_partial node source (continued (partial_from node.partial_commands source) bytes) → IsTold node (DataTransfer source destination bytes) node'
packet_told node node' destination source bytes all none kept =
    let lone : command_heard node source destination bytes ≡ None = rw all none in
    record { unasked = ap put_by_command lone; idle = λ memory answer. ap (on_command node answer) lone; noted = rw all (sym kept) }

-- a packet of a source from which nothing is half joined changes nothing
pub nothing_joined : (node : NodeValue) (source : ℕ) (frame : FrameValue) → partial_from node.partial_commands source ≡ partial.Nothing → Absorbs (Packet source frame) node node
nothing_joined node source frame none = (
  ap (λ (h : PartialCommand). for_name node.claimer.name (completed h frame.bytes)) none,
  ap (λ (hs : List PartialCommand). record node { partial_commands = hs })
      (sym (ap (λ (h : PartialCommand). slice_set node.partial_commands source (continued h frame.bytes)) none ∙ same)),
)
  where
    same : slice_set node.partial_commands source partial.Nothing ≡ node.partial_commands
    same = ap (λ (h : PartialCommand). slice_set node.partial_commands source h) (sym none) ∙ set-get_or node.partial_commands source partial.Nothing

pub accepts_packet : (f : FrameValue) (destination : ℕ) → pgn_of f.id ≡ 60160 → destination_of f.id ≡ Some destination → is_to_all destination (source_of f.id) ≡ true → IsAcceptance (Packet (source_of f.id) f) f
accepts_packet f destination group to e =
    let same = same_destination f.id destination (omega arith) to in
    let all : is_to_all (pdu_specific_of f.id) (source_of f.id) ≡ true = subst (λ (d : ℕ). is_to_all d (source_of f.id) ≡ true) same e in
    record { heard = λ node node' s. told node node' f (DataTransfer (source_of f.id) (pdu_specific_of f.id) f.bytes) (of_packet f group) (packet_told node node' (pdu_specific_of f.id) (source_of f.id) f.bytes all s.0 s.1) }
