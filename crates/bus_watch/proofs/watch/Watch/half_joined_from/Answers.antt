use Rattle.std.proofs.Common.{◌≡◌, arith}
use Rattle.bus_watch.proofs.Queries.{half_of_source}
use Rattle.bus_watch.proofs.watch.Watch.half_joined_from.Goals as goal

pub returns-clause-count : goal.returns-clause-count
returns-clause-count c =
    let all : c.loop-dest.dest ≡ 256 = omega arith in half_of_source c.args.self.now c.args.source c.loop-dest.dest c.loop-dest.count c.loop-dest.invariant.0 all
