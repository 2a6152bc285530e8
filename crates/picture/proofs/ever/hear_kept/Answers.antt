use Rattle.std.proofs.Common.{◌<◌, length, ◌∙◌, arith}
use Rattle.std.proofs.lemmas.List.{length-set}
use Rattle.picture.specs.Ever.{GoesOn}
use Rattle.picture.proofs.Going.{one_goes_on, rest_stays}
use Rattle.picture.proofs.ever.hear_kept.Goals as goal

pub loop-place-preserved : goal.loop-place-preserved
loop-place-preserved c =
    let known = c.loop-place.invariant in
    let within : c.loop-place.place < length c.loop-place.kept.items = omega (arith, c.loop-place-test.true, c.len-place-end.ensures, known.0) in (
      length-set _ _ _ ∙ known.0,
      one_goes_on (GoesOn c.args.codes.now c.args.time.now) c.args.kept.now.items c.loop-place.kept.items c.loop-place.place c.index.result.now c.heard.result within c.index.ensures c.heard.ensures
          known.1 known.2,
      rest_stays c.args.kept.now.items c.loop-place.kept.items c.loop-place.place c.heard.result known.2,
    )
