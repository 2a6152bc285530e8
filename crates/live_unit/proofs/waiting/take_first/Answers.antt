use Rattle.std.proofs.Common.{List, length, ◌<◌, rules, sym, ap, ◌∙◌, subst}
use Rattle.std.specs.List.{All}
use Rattle.node_core.specs.declared.out.Piece.{Piece}
use Rattle.live_unit.specs.Queue.{HoldsSome, outs_waiting}
use Rattle.live_unit.proofs.Lanes.{first_waiting, without_piece, others_hold_some}
use Rattle.live_unit.proofs.waiting.take_first.Goals as goal

pub returns-then-is_last-clause-first : goal.returns-then-is_last-clause-first
returns-then-is_last-clause-first c =
    let q = c.args.pieces.now in
    let some : 0 < length q.items = search rules in
    c.take_from-taken.ensures.first ∙ first_waiting q.items c.index_mut-first.result.now c.requires some c.index_mut-first.ensures.value

pub returns-then-is_last-clause-outs : goal.returns-then-is_last-clause-outs
returns-then-is_last-clause-outs c =
    let q = c.args.pieces.now in
    let some : 0 < length q.items = search rules in
    ap outs_waiting c.give_up_first.ensures.rest
    ∙ without_piece q.items c.index_mut-first.result.now c.take_from-taken.new.piece c.requires some c.index_mut-first.ensures.value (sym c.count-is_last.ensures ∙ c.if-is_last.true)

pub returns-then-is_last-clause-some : goal.returns-then-is_last-clause-some
returns-then-is_last-clause-some c =
    subst (λ (l : List Piece). All HoldsSome l) (sym c.give_up_first.ensures.rest) (others_hold_some c.args.pieces.now.items c.take_from-taken.new.piece c.requires)
