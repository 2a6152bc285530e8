use Rattle.std.proofs.Common.{◌<◌, length, arith}
use Rattle.live_lines.specs.Hearing.{IsFromIts}
use Rattle.live_lines.proofs.OneMore.{sent_by_one}
use Rattle.live_lines.proofs.fleet.step_from.Goals as goal

pub returns-then-is_some-clause-source : goal.returns-then-is_some-clause-source
returns-then-is_some-clause-source g c none =
    let bound = c.place_after-place.ensures (omega (arith, c.loop-offset-test.true)) in
    let within : c.place_after-place.result < length c.loop-offset.members = omega (arith, bound, c.loop-offset.auto.members) in
    sent_by_one (λ f m. IsFromIts f m) c.step-short.result.1 c.loop-offset.members c.place_after-place.result c.step-short.new.self within
    (c.step-short.ensures.source (c.loop-offset.invariant.2 none c.place_after-place.result c.index-members-place.result within))
