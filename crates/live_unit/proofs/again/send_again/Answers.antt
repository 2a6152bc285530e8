use Rattle.std.proofs.Common.{◌≡◌, inl, inr, ap, sym, subst, ◌∙◌, refl}
use Rattle.std.specs.List.{All}
use Rattle.address_claim.specs.Frames.{claim_source}
use Rattle.node_core.specs.Asking.{IsAnswerTo}
use Rattle.live_unit.specs.Queue.{IsSentFrom}
use Rattle.live_unit.proofs.Sources.{can_hold, heard_kept, heard_source}
use Rattle.live_unit.proofs.Queues.{source_again, source_queued}
use Rattle.live_unit.proofs.Repeating.{parts_from, rest_asks_nothing, room_again}
use Rattle.live_unit.proofs.again.send_again.Goals as goal

pub put-requires-clause-from : goal.put-requires-clause-from
put-requires-clause-from g c =
    parts_from c.in-Some.sending.now c.source_of-source.result c.args.again c.args.queue.now c.withdraw.new.self c.in_ok-put.put c.withdraw.ensures c.in_ok-put.ensures.parts
    (c.source_of-source.ensures ∙ sym c.requires.sourced) c.source_of-source.type_inv

pub take_in-requires-clause-source : goal.take_in-requires-clause-source
take_in-requires-clause-source g c =
    elim (heard_kept _ _ _ _ _ _ c.in_ok-heard.ensures.heard) [
      | inl all ↦ inl all
      | inr same ↦ inr (c.source_of.ensures ∙ (ap claim_source same ∙ (sym c.requires.sourced ∙ sym (source_again c.source_of-source.result c.args.queue.now c.withdraw.new.self c.put-2.new.self c.in_ok-put.put c.withdraw.ensures c.put-2.ensures))))
    ]

pub take_in-requires-clause-room : goal.take_in-requires-clause-room
take_in-requires-clause-room g c = inr (inl (rw c.put-2.ensures (room_again c.in-Some.sending.now c.source_of-source.result c.args.again c.args.queue.now c.withdraw.new.self c.in_ok-put.put c.requires.room c.withdraw.ensures c.in_ok-put.ensures.parts).1))

pub take_in-requires-clause-from : goal.take_in-requires-clause-from
take_in-requires-clause-from g c =
    subst (λ a. All (IsSentFrom a) c.in_ok-heard.heard.put) (sym c.source_of.ensures)
    (heard_source _ _ _ _ _ _ c.in_ok-heard.ensures.heard (can_hold c.held-before.result _ c.held-before.ensures.value c.held-before.ensures.bound))

pub returns-clause-unasked : goal.returns-clause-unasked
returns-clause-unasked g c =
    subst (λ q. IsAnswerTo q c.in_ok-heard.heard.answer) (rest_asks_nothing c.args.node.now c.in-Some.sending.now c.source_of-source.result c.args.again c.rest_again-rest.result c.rest_again-rest.ensures.rest c.rest_again-rest.ensures.to c.source_of-source.type_inv)
    c.in_ok-heard.ensures.heard.answer_is

pub returns-clause-unit : goal.returns-clause-unit
returns-clause-unit g c =
    let h = c.in_ok-heard.ensures.asked in
    let nothing = rest_asks_nothing c.args.node.now c.in-Some.sending.now c.source_of-source.result c.args.again c.rest_again-rest.result c.rest_again-rest.ensures.rest c.rest_again-rest.ensures.to c.source_of-source.type_inv in
    let same : h.0 ≡ c.args.unit.now.1 = rw nothing at h.2 in
    rw (h.1, same) refl

pub returns-clause-sourced : goal.returns-clause-sourced
returns-clause-sourced g c =
    ap (λ q. q.source) c.take_in.ensures
    ∙ (source_queued c.in_ok-heard.heard c.source_of.result c.put-2.new.self (elim (heard_kept _ _ _ _ _ _ c.in_ok-heard.ensures.heard) [
      | inl all ↦ inl all
      | inr same ↦ inr (c.source_of.ensures ∙ (ap claim_source same ∙ (sym c.requires.sourced ∙ sym (source_again c.source_of-source.result c.args.queue.now c.withdraw.new.self c.put-2.new.self c.in_ok-put.put c.withdraw.ensures c.put-2.ensures))))
    ]) ∙ c.source_of.ensures)
