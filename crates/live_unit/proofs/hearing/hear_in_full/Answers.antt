use Rattle.std.proofs.Common.{ℕ, inl, inr, ◌∙◌, ap, sym, subst}
use Rattle.std.specs.List.{All}
use Rattle.address_claim.specs.Frames.{claim_source}
use Rattle.live_unit.specs.Queue.{IsSentFrom, QueueValue}
use Rattle.live_unit.proofs.Sources.{can_hold, heard_kept, heard_room, heard_source}
use Rattle.live_unit.proofs.Lent.{on_err}
use Rattle.live_unit.proofs.Queues.{source_queued}
use Rattle.live_unit.proofs.hearing.hear_in_full.Goals as goal

pub take_in-requires-clause-source : goal.take_in-requires-clause-source
take_in-requires-clause-source g c =
    elim (heard_kept _ _ _ _ _ _ c.in_ok-heard.ensures.heard) [
      | inl all ↦ inl all
      | inr same ↦ inr (c.source_of.ensures ∙ (ap claim_source same ∙ sym c.requires.sourced))
    ]

pub take_in-requires-clause-room : goal.take_in-requires-clause-room
take_in-requires-clause-room g c =
    elim c.requires.room [
      | inl none ↦ (elim (heard_room _ _ _ _ _ _ c.in_ok-heard.ensures.heard none) [ inl all ↦ inl all | inr nothing ↦ inr (inr nothing) ])
      | inr room ↦ inr (inl room)
    ]

pub take_in-requires-clause-from : goal.take_in-requires-clause-from
take_in-requires-clause-from g c =
    subst (λ (a : ℕ). All (IsSentFrom a) c.in_ok-heard.heard.put) (sym c.source_of.ensures)
    (heard_source _ _ _ _ _ _ c.in_ok-heard.ensures.heard (can_hold c.held-before.result _ c.held-before.ensures.value c.held-before.ensures.bound))

pub returns-clause-sourced : goal.returns-clause-sourced
returns-clause-sourced g c =
    ap (λ (q : QueueValue). q.source) c.take_in.ensures
    ∙ (source_queued c.in_ok-heard.heard c.source_of.result c.args.queue.now (elim (heard_kept _ _ _ _ _ _ c.in_ok-heard.ensures.heard) [
      | inl all ↦ inl all
      | inr same ↦ inr (c.source_of.ensures ∙ (ap claim_source same ∙ sym c.requires.sourced))
    ]) ∙ c.source_of.ensures)

pub returns-in_err-heard-clause-unasked : goal.returns-in_err-heard-clause-unasked
returns-in_err-heard-clause-unasked g c = on_err c.from_residual.result c.in_err-heard.ensures.unasked
