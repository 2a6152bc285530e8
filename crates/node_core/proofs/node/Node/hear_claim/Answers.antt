use Rattle.std.proofs.Common.{◌≢◌, rules, ap, ◌∙◌}
use Rattle.address_claim.specs.Claiming.{claim_step}
use Rattle.address_claim.specs.declared.claimer.ClaimStep.TheVariants.{Nothing}
use Rattle.node_core.specs.Deed.{heard_of}
use Rattle.node_core.specs.declared.heard.Answer.TheVariants.{NotAsked}
use Rattle.node_core.specs.NodeValue.{NodeValue}
use Rattle.node_core.proofs.Contested.{claims_again, after_claiming}
use Rattle.node_core.proofs.node.Node.hear_claim.Goals as goal

pub returns-clause-heard : goal.returns-clause-heard
returns-clause-heard c =
    let test = c.if-eq.ensures in
    let n : c.answer.result ≢ Nothing = (λ e. search (rules, e, test)) in
    c.claim_again.ensures.heard
    ∙ ap (heard_of NotAsked) (claims_again c.args.self.now c.note_claim-2.new.self c.args.source c.args.name c.in_ok-note_claim-2.ensures.ok
    (λ e. n (c.answer.ensures.step ∙ (ap (λ (v : NodeValue). claim_step c.args.source c.args.name v.claimer) c.self.view_is ∙ e))))

pub returns-clause-node : goal.returns-clause-node
returns-clause-node c =
    let test = c.if-eq.ensures in
    let n : c.answer.result ≢ Nothing = (λ e. search (rules, e, test)) in
    after_claiming c.args.self.now c.note_claim-2.new.self c.claim_again.new.self c.args.source c.args.name c.in_ok-note_claim-2.ensures.ok
    (λ e. n (c.answer.ensures.step ∙ (ap (λ (v : NodeValue). claim_step c.args.source c.args.name v.claimer) c.self.view_is ∙ e))) c.claim_again.ensures.node
