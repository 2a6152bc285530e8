use Rattle.std.proofs.Common.{◌≡◌, List, not, rules, sym, ap, ◌∙◌, subst}
use Rattle.std.specs.List.{All, filter}
use Rattle.std.proofs.lemmas.Fn.{filter_same}
use Rattle.std.proofs.lemmas.List.Elements.{All-filter}
use Rattle.bus_ledger.specs.Places.{IsFilled, frames_in, is_session_place}
use Rattle.bus_ledger.specs.declared.queued.Queued.{Queued}
use Rattle.bus_ledger.proofs.Queues.{frames_kept}
use Rattle.bus_ledger.proofs.queued.keep_single.Goals as goal

pub returns-clause-frames : goal.returns-clause-frames
returns-clause-frames c =
    let e : c.retain.new.self.items ≡ filter (λ p. not (is_session_place p)) c.args.queue.now.items = filter_same _ _ _ (λ x b f' k. search rules) _ _ c.retain.ensures.filtered in
    ap frames_in e ∙ frames_kept c.args.queue.now.items

pub returns-clause-filled : goal.returns-clause-filled
returns-clause-filled c =
    let e : c.retain.new.self.items ≡ filter (λ p. not (is_session_place p)) c.args.queue.now.items = filter_same _ _ _ (λ x b f' k. search rules) _ _ c.retain.ensures.filtered in
    subst (λ (l : List Queued). All IsFilled l) (sym e) (All-filter (λ p. not (is_session_place p)) IsFilled c.args.queue.now.items c.requires)
