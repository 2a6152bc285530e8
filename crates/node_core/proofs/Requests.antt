-- What is owed for a request for more than the claim, at an address that is held.
use Rattle.std.proofs.Common.{◌≡◌, ◌==◌, ℕ, Bool, true, false, not, Option, Some, None, Result, Ok, Err, IfOk, if◌then◌else◌, sym, ap, ◌∙◌}
use Rattle.std.proofs.lemmas.Bool.{eq-eqb, ne_eqb}
use Rattle.address_claim.specs.Frames.{claim_frame_value}
use Rattle.can_frame.specs.declared.address.TheConstants.{GLOBAL_ADDRESS}
use Rattle.can_frame.specs.declared.group_numbers.TheConstants.{ADDRESS_CLAIMED}
use Rattle.fault_memory.specs.Memory.{MemoryValue}
use Rattle.node_core.specs.Deed.{Deed, Nothing, Replies, after_deed, heard_of}
use Rattle.node_core.specs.NodeValue.{NodeValue}
use Rattle.node_core.specs.Reaction.{asked_at_address, asked_for_more, asked_of_all, on_request, put_by_request, put_with}
use Rattle.node_core.specs.Requested.{is_addressed, may_answer, put_by, wanted_by}
use Rattle.node_core.specs.declared.heard.Answer.{Answer}
use Rattle.node_core.specs.declared.heard.Heard.{Heard}
use Rattle.node_core.specs.declared.requested.Wanted.{Wanted}

-- it is addressed to the unit, and from one who may ask
pub record Asks (node : NodeValue) (pgn dest source address : ℕ) : Type 0 where
  pub here : is_addressed node.claimer.held dest ≡ true
  pub other : (pgn == ADDRESS_CLAIMED) ≡ false
  pub held : node.claimer.held ≡ Some address
  pub may : may_answer address source ≡ true

more : (node : NodeValue) (m : MemoryValue) (a : Answer) (pgn dest source address : ℕ) (w : Wanted) → Asks node pgn dest source address → w ≡ wanted_by pgn
    → on_request node m a pgn dest source ≡ (if dest == GLOBAL_ADDRESS then asked_of_all node m address w else asked_at_address node m a pgn address source w)
more node m a pgn dest source address w asks by =
    let claim : Deed = Replies (claim_frame_value node.claimer.name node.claimer.held) in
    ap (λ (b : Bool). if not b then Nothing else if pgn == ADDRESS_CLAIMED then claim else asked_for_more node m a pgn dest source node.claimer.held) asks.here
    ∙ (ap (λ (b : Bool). if b then claim else asked_for_more node m a pgn dest source node.claimer.held) asks.other
    ∙ (ap (λ (h : Option ℕ). asked_for_more node m a pgn dest source h) asks.held
    ∙ (ap (λ (b : Bool). if b then (if dest == GLOBAL_ADDRESS then asked_of_all node m address (wanted_by pgn) else asked_at_address node m a pgn address source (wanted_by pgn)) else Nothing) asks.may
    ∙ ap (λ (v : Wanted). if dest == GLOBAL_ADDRESS then asked_of_all node m address v else asked_at_address node m a pgn address source v) (sym by))))

-- asked of all
pub of_all : (node : NodeValue) (m : MemoryValue) (a : Answer) (pgn dest source address : ℕ) (w : Wanted) → Asks node pgn dest source address → w ≡ wanted_by pgn → dest ≡ GLOBAL_ADDRESS
    → on_request node m a pgn dest source ≡ asked_of_all node m address w
of_all node m a pgn dest source address w asks by all =
    more node m a pgn dest source address w asks by
    ∙ ap (λ (b : Bool). if b then asked_of_all node m address w else asked_at_address node m a pgn address source w) (eq-eqb dest GLOBAL_ADDRESS all)

-- asked at the unit's own address
pub at_address : (node : NodeValue) (m : MemoryValue) (a : Answer) (pgn dest source address : ℕ) (w : Wanted) → Asks node pgn dest source address → w ≡ wanted_by pgn → (dest ≡ GLOBAL_ADDRESS → ⊥)
    → on_request node m a pgn dest source ≡ asked_at_address node m a pgn address source w
at_address node m a pgn dest source address w asks by one =
    more node m a pgn dest source address w asks by
    ∙ ap (λ (b : Bool). if b then asked_of_all node m address w else asked_at_address node m a pgn address source w) (ne_eqb dest GLOBAL_ADDRESS one)

-- and what is put to the unit
pub put_more : (node : NodeValue) (pgn dest source address : ℕ) (w : Wanted) → Asks node pgn dest source address → w ≡ wanted_by pgn → put_by_request node pgn dest source ≡ put_by w
put_more node pgn dest source address w asks by =
    ap (λ (b : Bool). if not b then None else if pgn == ADDRESS_CLAIMED then None else put_with pgn source node.claimer.held) asks.here
    ∙ (ap (λ (b : Bool). if b then None else put_with pgn source node.claimer.held) asks.other
    ∙ (ap (put_with pgn source) asks.held
    ∙ (ap (λ (b : Bool). if b then put_by (wanted_by pgn) else None) asks.may ∙ ap put_by (sym by))))

-- ---- at a call's answer, where the same deed is owed

pub heard_owed : {E : Type 0} (r : Result Heard E) (d e : Answer → Deed) → ((a : Answer) → e a ≡ d a) → IfOk r (λ h. h ≡ heard_of h.answer (d h.answer)) → IfOk r (λ h. h ≡ heard_of h.answer (e h.answer))
heard_owed (Ok h) d e same is = is ∙ ap (heard_of h.answer) (sym (same h.answer))
heard_owed (Err x) d e same is = tt

pub node_owed : {E : Type 0} (r : Result Heard E) (node new : NodeValue) (d e : Answer → Deed) → ((a : Answer) → e a ≡ d a) → IfOk r (λ h. new ≡ after_deed node (d h.answer)) → IfOk r (λ h. new ≡ after_deed node (e h.answer))
node_owed (Ok h) node new d e same is = is ∙ ap (after_deed node) (sym (same h.answer))
node_owed (Err x) node new d e same is = tt

pub node_stays : {E : Type 0} (r : Result Heard E) (node : NodeValue) (d : Deed) (e : Answer → Deed) → ((a : Answer) → e a ≡ d) → node ≡ after_deed node d → IfOk r (λ h. node ≡ after_deed node (e h.answer))
node_stays (Ok h) node d e same is = is ∙ ap (after_deed node) (sym (same h.answer))
node_stays (Err x) node d e same is = tt
