use Rattle.std.proofs.Common.{◌≡◌, arith}
use Rattle.bus_watch.proofs.Queries.{half_all, half_more}
use Rattle.bus_watch.proofs.watch.Watch.half_joined.Goals as goal

pub loop-source-preserved : goal.loop-source-preserved
loop-source-preserved c = (
  half_more c.args.self.now c.loop-source.source c.loop-source.count c.half_joined_from-count.result c.loop-source.invariant.0 c.half_joined_from-count.ensures.count,
  (let most = c.half_joined_from-count.ensures.most in let before = c.loop-source.invariant.1 in omega (arith, most, before)),
)

pub returns : goal.returns
returns c =
    let all : c.loop-source.source ≡ 256 = omega arith in half_all c.args.self.now c.loop-source.source c.loop-source.count c.loop-source.invariant.0 all
