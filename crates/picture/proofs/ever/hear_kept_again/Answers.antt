use Rattle.std.proofs.Common.{◌<◌, length, ◌∙◌, arith}
use Rattle.std.proofs.lemmas.List.{length-set}
use Rattle.picture.specs.Ever.{GoesOnAgain}
use Rattle.picture.proofs.Going.{one_goes_on, rest_stays}
use Rattle.picture.proofs.ever.hear_kept_again.Goals as goal

pub loop-place-preserved : goal.loop-place-preserved
loop-place-preserved c =
    let known = c.loop-place.invariant in
    let within : c.loop-place.place < length c.loop-place.kept.items = omega (arith, c.loop-place-test.true, c.len-place-end.ensures, known.0) in (
      length-set _ _ _ ∙ known.0,
      one_goes_on (GoesOnAgain c.args.time.now) c.args.kept.now.items c.loop-place.kept.items c.loop-place.place c.index.result.now c.heard_again.result within c.index.ensures c.heard_again.ensures
          known.1 known.2,
      rest_stays c.args.kept.now.items c.loop-place.kept.items c.loop-place.place c.heard_again.result known.2,
    )
