use Rattle.std.proofs.Common.{rules, ◌≡◌, ◌≢◌, ◌<◌, length}
use Rattle.std.specs.VecDeque.{deque_len}
use Rattle.live_unit.proofs.Echoes.{stands_at, stands_nowhere}
use Rattle.live_unit.proofs.echo.find.Goals as goal

pub returns-then-is_same-clause-found : goal.returns-then-is_same-clause-found
returns-then-is_same-clause-found c =
    let below : c.loop-place.place < deque_len c.args.written.now = search rules in
    let same : c.index.result.now ≡ c.args.frame.now = search rules in
    (below, stands_at _ (deque_len c.args.written.now) _ _ _ (search rules) below c.index.ensures same)

pub loop-place-preserved : goal.loop-place-preserved
loop-place-preserved c =
    let below : c.loop-place.place < deque_len c.args.written.now = search rules in
    let other : c.index.result.now ≢ c.args.frame.now = search rules in
    stands_nowhere _ (deque_len c.args.written.now) _ _ _ (search rules) below c.index.ensures other c.loop-place.invariant
