use Rattle.std.proofs.Common.{List, length, ◌<◌, rules, sym, ap, ◌∙◌, subst}
use Rattle.std.specs.List.{All}
use Rattle.bus_ledger.specs.Places.{IsFilled, frames_in}
use Rattle.bus_ledger.specs.declared.queued.Queued.{Queued}
use Rattle.bus_ledger.proofs.Queues.{first_in, without_place, others_filled}
use Rattle.bus_ledger.proofs.queued.take_first.Goals as goal

pub returns-then-is_last-clause-first : goal.returns-then-is_last-clause-first
returns-then-is_last-clause-first c =
    let q = c.args.queue.now in
    let some : 0 < length q.items = search rules in
    c.take-taken.ensures.first ∙ first_in q.items c.index_mut-first.result.now c.requires some c.index_mut-first.ensures.value

pub returns-then-is_last-clause-frames : goal.returns-then-is_last-clause-frames
returns-then-is_last-clause-frames c =
    let q = c.args.queue.now in
    let some : 0 < length q.items = search rules in
    ap frames_in c.give_up_first.ensures.rest
    ∙ without_place q.items c.index_mut-first.result.now c.take-taken.new.self c.requires some c.index_mut-first.ensures.value (sym c.left-is_last.ensures ∙ c.if-is_last.true)

pub returns-then-is_last-clause-filled : goal.returns-then-is_last-clause-filled
returns-then-is_last-clause-filled c =
    subst (λ (l : List Queued). All IsFilled l) (sym c.give_up_first.ensures.rest) (others_filled c.args.queue.now.items c.take-taken.new.self c.requires)
