use Rattle.std.proofs.Common.{ℕ, ◌≡◌, ◌∙◌, ap, sym, subst, Some, rules}
use Rattle.std.specs.List.{All}
use Rattle.address_claim.specs.Frames.{claim_source}
use Rattle.live_unit.specs.Queue.{IsSentFrom}
use Rattle.live_unit.proofs.Sources.{begun_from}
use Rattle.live_unit.proofs.node.begin_to_all.Goals as goal

pub put-requires-clause-from : goal.put-requires-clause-from
put-requires-clause-from g c =
    let held : c.args.node.now.claimer.held ≡ Some c.in-Some._source = search rules in
    let e : c.in-Some._source ≡ c.args.queue.now.source = sym (c.requires.sourced ∙ ap claim_source held) in
    subst (λ (a : ℕ). All (IsSentFrom a) c.in-Begun.put) e
    (begun_from c.args.node.now.claimer.held c.args.node.now.session c.args.kind _ c.in-Some._source c.in_ok-begin.field-0 c.in-Begun.begun c.in-Begun.put held (search rules) c.in-Begun.is c.in_ok-begin.ensures.started)
