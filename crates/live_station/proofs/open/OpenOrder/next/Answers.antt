use Rattle.std.proofs.Common.{ℕ, arith}
use Rattle.live_station.proofs.Turning.{order_alike}
use Rattle.live_station.proofs.open.OpenOrder.next.Goals as goal

-- before the least of these times each of them has come at both times or at neither
pub returns-clause-same : goal.returns-clause-same
returns-clause-same c = λ t from before.
    order_alike c.args.self c.args.outlook t c.args.now
    (c.next_of_stage.ensures.same t from (omega arith))
    (c.behind.ensures.same t from (omega arith))
    (c.next_known.ensures.same t from (omega arith))
