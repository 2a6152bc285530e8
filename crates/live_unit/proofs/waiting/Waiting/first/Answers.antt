use Rattle.std.proofs.Common.{slice_get, refl, ap, ◌∙◌, arith}
use Rattle.live_unit.specs.Queue.{LaneValue}
use Rattle.live_unit.proofs.Lanes.{first_waiting}
use Rattle.live_unit.proofs.waiting.Waiting.first.Goals as goal

pub returns : goal.returns
returns c =
    let q = c.self.inside.pieces in
    c.first_of.ensures
    ∙ (first_waiting q.items c.in_ok-front.field-0.now c.self.invariant.0 (omega (arith, c.in_ok-front.ensures.variant.0 refl, q.ok.0)) c.in_ok-front.ensures.lookup
    ∙ ap (λ (l : LaneValue). slice_get l.outs 0) c.self.view_is)
