use Rattle.std.proofs.Common.{◌<◌, length, arith}
use Rattle.live_lines.specs.Own.{woken}
use Rattle.live_lines.proofs.Waking.{one_more_changed, others_as_they_were}
use Rattle.live_lines.proofs.answering.wake.Goals as goal

pub loop-one-preserved : goal.loop-one-preserved
loop-one-preserved c =
    let before : c.loop-one.one-index < length c.args.all.now = omega arith in
    let here : c.loop-one.one-index < length c.loop-one.all = omega arith in (
      one_more_changed (woken c.args.now) c.args.all.now c.loop-one.all c.loop-one.one-index c.one-item.result c.wake.new.self before here
          c.loop-one.invariant.0 c.loop-one.invariant.1 c.wake.ensures,
      others_as_they_were c.args.all.now c.loop-one.all c.loop-one.one-index c.wake.new.self c.loop-one.invariant.1,
    )
