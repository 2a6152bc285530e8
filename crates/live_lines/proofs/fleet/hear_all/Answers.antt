use Rattle.std.proofs.Common.{rules, arith}
use Rattle.live_lines.specs.Hearing.{HasBeenTold}
use Rattle.live_lines.proofs.OneMore.{one_more_so, rest_so}
use Rattle.live_lines.proofs.fleet.hear_all.Goals as goal

pub loop-place-preserved : goal.loop-place-preserved
loop-place-preserved g c = (
  search rules,
  search rules,
  search rules,
  one_more_so (λ m m'. HasBeenTold c.args.frame.now m m' (λ x. (goal.Unit-dyn g (x.unit.unit.vtable, x.unit.unit.value)).memory_of x.unit.unit.value))
      c.args.members.now c.loop-place.members c.loop-place.place c.take-taken.new.self (omega (arith, c.loop-place-test.true, c.loop-place.auto.members))
      c.loop-place.invariant.3 c.loop-place.invariant.4 c.index-members-place.result c.take-taken.ensures,
  rest_so c.args.members.now c.loop-place.members c.loop-place.place c.take-taken.new.self c.loop-place.invariant.4,
)
