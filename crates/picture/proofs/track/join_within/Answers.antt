use Rattle.std.proofs.Common.{◌≡◌, ◌<◌, ◌+◌, length, set, ap, ◌∙◌, arith}
use Rattle.std.proofs.lemmas.List.{length-set}
use Rattle.picture.proofs.Places.{joined_there, passed_there}
use Rattle.picture.proofs.track.join_within.Goals.{then-length-reach, else-length-reach}
use Rattle.picture.proofs.track.join_within.Goals as goal

pub loop-place-preserved : goal.loop-place-preserved
loop-place-preserved c =
    let known = c.loop-place.invariant in
    let within : c.loop-place.place < length c.loop-place.spans.items = omega (arith, c.loop-place-test.true, c.len-place-end.ensures, c.args.spans.now.ok.0, known.1) in
    elim c.if-length-reach.branch [
      | then-length-reach w ↦
          let items : c.if-length-reach.spans.items ≡ set c.loop-place.spans.items c.loop-place.last c.joined-both.result = ap (λ v. v.items) w.spans-is in
          let same : length c.if-length-reach.spans.items ≡ length c.loop-place.spans.items = ap length items ∙ length-set _ _ _ in (
            omega (arith, w.last-is, known.0),
            same ∙ known.1,
            omega (arith, same, within),
            rw (items, w.last-is) (joined_there _ _ _ _ _ _ _ known.0 within c.index-in-loop-place.ensures c.index.ensures c.joined-both.ensures known.3),
          )
      | else-length-reach w ↦
          let items : c.if-length-reach.spans.items ≡ set c.loop-place.spans.items (c.loop-place.last + 1) c.index.result.now = ap (λ v. v.items) w.spans-is in
          let same : length c.if-length-reach.spans.items ≡ length c.loop-place.spans.items = ap length items ∙ length-set _ _ _ in
          (omega (arith, w.last-is, known.0), same ∙ known.1, omega (arith, same, within), rw (items, w.last-is) (passed_there _ _ _ _ _ known.0 within c.index.ensures known.3))
    ]
