use Rattle.std.proofs.Common.{rules, refl, sym, ap, ◌∙◌}
use Rattle.node_core.specs.NodeValue.{NodeValue}
use Rattle.node_core.specs.Reaction.{asked_at_address, asked_of_all, on_request}
use Rattle.node_core.proofs.Requests.{Asks, at_address, heard_owed, node_owed, node_stays, of_all, put_more}
use Rattle.node_core.proofs.node.Node.hear_request.Given.{Over}
use Rattle.node_core.proofs.node.Node.hear_request.Goals as goal

pub returns-then-not-is_addressed-clause-asked : goal.returns-then-not-is_addressed-clause-asked
returns-then-not-is_addressed-clause-asked g c = (c.args.unit.now.1, refl, search rules)

pub returns-then-eq-clause-asked : goal.returns-then-eq-clause-asked
returns-then-eq-clause-asked g c = (c.args.unit.now.1, refl, search rules)

pub returns-in_default-clause-asked : goal.returns-in_default-clause-asked
returns-in_default-clause-asked g c = (c.args.unit.now.1, refl, search rules)

pub returns-then-not-may_answer-clause-asked : goal.returns-then-not-may_answer-clause-asked
returns-then-not-may_answer-clause-asked g c = (c.args.unit.now.1, refl, search rules)

-- ---- asked of all

of_all_asks : (g : Over) (c : goal.After-asked_of_all g) → Asks c.args.self.now c.args.request.pgn c.args.request.dest c.args.request.source c.in-Some.address
of_all_asks g c = record {
  here = sym c.is_addressed.ensures ∙ c.if-not-is_addressed.false;
  other = sym c.eq.ensures ∙ c.if-eq.false;
  held = ap (λ (v : NodeValue). v.claimer.held) (sym c.self.view_is) ∙ (sym c.held.ensures.value ∙ c.in-Some.is);
  may = sym c.may_answer.ensures ∙ c.if-not-may_answer.false;
}

pub returns-then-request-clause-heard : goal.returns-then-request-clause-heard
returns-then-request-clause-heard g c =
    heard_owed c.asked_of_all.result (λ a. asked_of_all c.args.self.now ((goal.Unit-dyn g c.args.unit.now).memory_of c.args.unit.now.1) c.in-Some.address c.by-wanted.result) (λ a. on_request c.args.self.now ((goal.Unit-dyn g c.args.unit.now).memory_of c.args.unit.now.1) a c.args.request.pgn c.args.request.dest c.args.request.source) (λ a. of_all _ _ a _ _ _ _ _ (of_all_asks g c) c.by-wanted.ensures c.if-request.true) c.asked_of_all.ensures.heard

pub returns-then-request-clause-node : goal.returns-then-request-clause-node
returns-then-request-clause-node g c =
    node_stays c.asked_of_all.result c.args.self.now (asked_of_all c.args.self.now ((goal.Unit-dyn g c.args.unit.now).memory_of c.args.unit.now.1) c.in-Some.address c.by-wanted.result) (λ a. on_request c.args.self.now ((goal.Unit-dyn g c.args.unit.now).memory_of c.args.unit.now.1) a c.args.request.pgn c.args.request.dest c.args.request.source) (λ a. of_all _ _ a _ _ _ _ _ (of_all_asks g c) c.by-wanted.ensures c.if-request.true) c.asked_of_all.ensures.same

pub returns-then-request-clause-memory : goal.returns-then-request-clause-memory
returns-then-request-clause-memory g c = rw (put_more _ _ _ _ _ _ (of_all_asks g c) c.by-wanted.ensures) c.asked_of_all.ensures.memory

pub returns-then-request-clause-answer : goal.returns-then-request-clause-answer
returns-then-request-clause-answer g c = rw (put_more _ _ _ _ _ _ (of_all_asks g c) c.by-wanted.ensures) c.asked_of_all.ensures.answer

pub returns-then-request-clause-asked : goal.returns-then-request-clause-asked
returns-then-request-clause-asked g c = rw (put_more _ _ _ _ _ _ (of_all_asks g c) c.by-wanted.ensures) c.asked_of_all.ensures.asked

-- ---- asked at its own address

one_asks : (g : Over) (c : goal.After-asked_at_address g) → Asks c.args.self.now c.args.request.pgn c.args.request.dest c.args.request.source c.in-Some.address
one_asks g c = record {
  here = sym c.is_addressed.ensures ∙ c.if-not-is_addressed.false;
  other = sym c.eq.ensures ∙ c.if-eq.false;
  held = ap (λ (v : NodeValue). v.claimer.held) (sym c.self.view_is) ∙ (sym c.held.ensures.value ∙ c.in-Some.is);
  may = sym c.may_answer.ensures ∙ c.if-not-may_answer.false;
}

pub returns-else-request-clause-heard : goal.returns-else-request-clause-heard
returns-else-request-clause-heard g c =
    heard_owed c.asked_at_address.result (λ a. asked_at_address c.args.self.now ((goal.Unit-dyn g c.args.unit.now).memory_of c.args.unit.now.1) a c.args.request.pgn c.in-Some.address c.args.request.source c.by-wanted.result) (λ a. on_request c.args.self.now ((goal.Unit-dyn g c.args.unit.now).memory_of c.args.unit.now.1) a c.args.request.pgn c.args.request.dest c.args.request.source) (λ a. at_address _ _ a _ _ _ _ _ (one_asks g c) c.by-wanted.ensures c.if-request.false) c.asked_at_address.ensures.heard

pub returns-else-request-clause-node : goal.returns-else-request-clause-node
returns-else-request-clause-node g c =
    node_owed c.asked_at_address.result c.args.self.now c.asked_at_address.new.self (λ a. asked_at_address c.args.self.now ((goal.Unit-dyn g c.args.unit.now).memory_of c.args.unit.now.1) a c.args.request.pgn c.in-Some.address c.args.request.source c.by-wanted.result) (λ a. on_request c.args.self.now ((goal.Unit-dyn g c.args.unit.now).memory_of c.args.unit.now.1) a c.args.request.pgn c.args.request.dest c.args.request.source) (λ a. at_address _ _ a _ _ _ _ _ (one_asks g c) c.by-wanted.ensures c.if-request.false) c.asked_at_address.ensures.node

pub returns-else-request-clause-memory : goal.returns-else-request-clause-memory
returns-else-request-clause-memory g c = rw (put_more _ _ _ _ _ _ (one_asks g c) c.by-wanted.ensures) c.asked_at_address.ensures.memory

pub returns-else-request-clause-answer : goal.returns-else-request-clause-answer
returns-else-request-clause-answer g c = rw (put_more _ _ _ _ _ _ (one_asks g c) c.by-wanted.ensures) c.asked_at_address.ensures.answer

pub returns-else-request-clause-asked : goal.returns-else-request-clause-asked
returns-else-request-clause-asked g c = rw (put_more _ _ _ _ _ _ (one_asks g c) c.by-wanted.ensures) c.asked_at_address.ensures.asked
