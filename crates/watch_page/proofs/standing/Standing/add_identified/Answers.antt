use Rattle.std.proofs.Common.{◌≡◌, ap, ◌∙◌, length, arith}
use Rattle.bus_model.specs.Heard.{names_heard}
use Rattle.bus_watch.specs.Runs.{units_shown}
use Rattle.bus_watch.specs.Told.{all_said, readings_said}
use Rattle.watch_page.specs.Standing.{unclaimed, unless_told}
use Rattle.watch_page.proofs.Placing.{place_more}
use Rattle.watch_page.proofs.standing.Standing.add_identified.Goals as goal

pub loop-place-preserved : goal.loop-place-preserved
loop-place-preserved c h so units st pr u =
    place_more _ c.args.bus c.loop-place.place _ so units _ (c.unclaimed.ensures ∙ ap unclaimed (c.unless_told-who.ensures h st ∙ ap (unless_told h) c.identified_unit_at.ensures)) (c.in_ok-add.ensures h so _ st pr (c.loop-place.invariant h so units st pr u))

pub returns : goal.returns
returns c h so units st pr u =
    let all = c.identifications-place-end.ensures in
    let ends : c.loop-place.place ≡ length (c.args.watch.now.identified.kept) = omega (arith, all, c.loop-place-test.false, c.loop-place.auto.place-end) in
    rw (← ends) (c.loop-place.invariant h so units st pr u)
