use Rattle.std.proofs.Common.{◌≡◌, ◌<◌, get_or, length, min, ◌^◌, refl, arith}
use Rattle.std.proofs.lemmas.Option.{slice_get-get_or}
use Rattle.watch_page.specs.Standing.{WatchHeard}
use Rattle.watch_page.proofs.Placing.{bus_more}
use Rattle.watch_page.proofs.standing.Standing.of.Goals as goal

pub loop-number-init : goal.loop-number-init
loop-number-init c heard hs = c.none-standing.ensures _

pub loop-number-preserved : goal.loop-number-preserved
loop-number-preserved c heard hs =
    let buses = c.args.view.now.buses.now in
    let within : c.loop-number.number < length buses = let all = c.min-number-end.ensures in omega (arith, all, c.loop-number-test.true) in
    let there = slice_get-get_or buses c.loop-number.number c.index-view-number.result within in
    let known = hs c.loop-number.number in
    let st : WatchHeard (heard c.loop-number.number) (get_or buses c.loop-number.number c.index-view-number.result) = rw there at known in
    bus_more heard _ c.loop-number.number _ _ _ there (c.in_ok-add_bus.ensures (heard c.loop-number.number) _ _ st (λ s. refl) (c.loop-number.invariant heard hs))

pub returns : goal.returns
returns c heard hs =
    let all = c.min-number-end.ensures in
    let ends : c.loop-number.number ≡ min (length c.args.view.now.buses.now) (2 ^ 16) = omega (arith, all, c.loop-number-test.false, c.loop-number.auto.number-end) in
    rw (← ends) (c.loop-number.invariant heard hs)
