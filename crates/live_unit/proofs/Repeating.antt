-- Packets that go again: what is put of them, and what the node hears of the rest.
use Rattle.std.proofs.Common.{◌≡◌, ℕ, ◌+◌, ◌-◌, ◌*◌, ◌/◌, ◌%◌, ◌<◌, ◌≤◌, Bool, false, List, [], ◌∷◌, length, map, min, Option, Some, None, refl, sym, ap, ◌∙◌, subst, arith}
use Rattle.std.specs.Prelude.{nat_lt}
use Rattle.std.specs.List.{All, range_with_len}
use Rattle.std.specs.Option.{option_map}
use Rattle.std.proofs.lemmas.Bool.Decides.{nat_tests}
use Rattle.can_frame.specs.FrameValue.{FrameValue}
use Rattle.transport.specs.ControlMessage.{control_bytes, control_of}
use Rattle.transport.specs.Runs.{run_of}
use Rattle.transport.specs.Sending.{SendingValue}
use Rattle.transport.specs.declared.control.Control.TheVariants.{Cts}
use Rattle.parameter_group.specs.Laws.{group_of-control}
use Rattle.dm_messages.specs.declared.kind.Kind.TheVariants.{Dm1}
use Rattle.node_core.specs.Deed.{marked_part, marked_parts}
use Rattle.node_core.specs.NodeValue.{NodeValue}
use Rattle.node_core.specs.Pieces.{run_out}
use Rattle.node_core.specs.Reaction.{question}
use Rattle.node_core.specs.declared.heard.Withdraw.TheVariants as withdraw
use Rattle.node_core.specs.declared.out.Out.{Out}
use Rattle.node_core.specs.declared.out.Part.TheVariants as part
use Rattle.node_core.specs.declared.session.OpenSession.{OpenSession}
use Rattle.node_core.proofs.PartLists.{run_of_session}
use Rattle.live_unit.proofs.Sources.{parts_source}
use Rattle.live_unit.specs.Again.{parts_again, rest_again}
use Rattle.live_unit.specs.Queue.{HasFreeLanes, IsSentFrom, QueueValue, after_withdrawing, putting}
use Rattle.live_unit.specs.declared.again.Retransmission.{Retransmission}

-- a number is within so many from one on
pub within : (first number count : ℕ) → first ≤ number → nat_lt (number - first) count ≡ nat_lt number (first + count)
within first number count h = grind (arith, nat_tests)

-- what a node lends is what its open session sends
pub lent_is : (o : Option OpenSession) (s : OpenSession) (x : SendingValue) → Some x ≡ option_map (λ z. z.sending) o → o ≡ Some s → x ≡ s.sending
lent_is None s x e f = absurd cc
lent_is (Some z) s x e f = (let same : z ≡ s = cc in let here : x ≡ z.sending = cc in here ∙ ap (λ (y : OpenSession). y.sending) same)

-- ---- the run of packets that go again

pub run_again : (s : SendingValue) (source first last count : ℕ) → 1 ≤ first → 1 ≤ count → last ≡ first + (count - 1)
    → map (run_out (part.Session first)) (run_of s.payload s.pgn source s.dest first last) ≡ marked_parts (λ j. part.Session j) s.payload s.pgn source s.dest first (first + count)
run_again s source first last count h k e =
    let put : SendingValue = record s { queued = first - 1 } in
    let session : OpenSession = record { kind = Dm1; sending = put } in
    let f : first ≡ first - 1 + 1 = omega arith in
    let l : last ≡ first - 1 + count = omega arith in
    run_of_session session source count first last f l
    ∙ ap (λ (n : ℕ). marked_parts (λ j. part.Session j) s.payload s.pgn source s.dest n (n + count)) (sym f)

pub none_again : (s : SendingValue) (source : ℕ) (r : Retransmission) → r.again ≡ 0 → [] ≡ parts_again s source r
none_again s source r e = (let none : r.first + r.again - r.first ≡ 0 = omega arith in sym (ap (λ (n : ℕ). map (marked_part (λ j. part.Session j) s.payload s.pgn source s.dest) (range_with_len r.first n)) none))

-- ---- room for them

session_emptied : (q : QueueValue) (source : ℕ) → HasFreeLanes q → HasFreeLanes (after_withdrawing withdraw.Session source q)
session_emptied q source free = record { claims = free.claims; singles = free.singles; session = omega arith; messages = free.messages }

-- the lane of the session has its packets in one piece
put_in_one : (mark_of : ℕ → Out) (js : List ℕ) (q : QueueValue) → ((j : ℕ) → (mark_of j).part ≡ Some (part.Session j)) → q.session.pieces ≡ 0 → HasFreeLanes q
    → HasFreeLanes (putting false (map mark_of js) q)
put_in_one mark_of [] q marked none free = free
put_in_one mark_of (j ∷ js) q marked none free = rw (marked j) (record { claims = free.claims; singles = free.singles; session = omega (arith, none); messages = free.messages })

pub room_again : (s : SendingValue) (source : ℕ) (r : Retransmission) (q q' : QueueValue) (outs : List Out) → HasFreeLanes q → q' ≡ after_withdrawing withdraw.Session source q → outs ≡ parts_again s source r
    → HasFreeLanes q' × HasFreeLanes (putting false outs q')
room_again s source r q q' outs free e f =
    let emptied : HasFreeLanes q' = rw e (session_emptied q source free) in
    let none : q'.session.pieces ≡ 0 = ap (λ (x : QueueValue). x.session.pieces) e in
    (emptied, rw f (put_in_one _ _ q' (λ j. refl) none emptied))

-- ---- how many are put

pub put_count : (to_all : Bool) (outs : List Out) (q : QueueValue) → (putting to_all outs q).put ≡ q.put + length outs
put_count to_all [] q = omega arith
put_count to_all (o ∷ outs) q = refl

-- ---- from which address

pub parts_from : (s : SendingValue) (source : ℕ) (r : Retransmission) (q q' : QueueValue) (outs : List Out) → q' ≡ after_withdrawing withdraw.Session source q → outs ≡ parts_again s source r → source ≡ q.source → source < 256
    → All (IsSentFrom q'.source) outs
parts_from s source r q q' outs e f same fits =
    let here : source ≡ q'.source = same ∙ sym (ap (λ (x : QueueValue). x.source) e) in
    subst (λ (a : ℕ). All (IsSentFrom a) outs) here
    (subst (λ (l : List Out). All (IsSentFrom source) l) (sym f) (parts_source (λ j. part.Session j) s.payload s.pgn source s.dest _ fits))

-- ---- the rest

cts_back : (granted next pgn : ℕ) → control_of (control_bytes (Cts granted next pgn)) ≡ Some (Cts granted next pgn)
cts_back granted next pgn = let e : pgn % 256 + 256 * (pgn / 256 % 256) + 65536 * (pgn / 65536) ≡ pgn = omega arith in rw e refl

-- it puts nothing to the unit
pub rest_asks_nothing : (node : NodeValue) (s : SendingValue) (source : ℕ) (r : Retransmission) (f : FrameValue) → f ≡ rest_again s source r → s.dest < 256 → source < 256 → question node f ≡ None
rest_asks_nothing node s source r f e d a =
    rw (e, group_of-control (Cts r.rest (min (s.queued + 1) 255) s.pgn) s.dest source d a (cts_back _ _ s.pgn)) refl
