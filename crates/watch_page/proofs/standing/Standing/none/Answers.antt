use Rattle.std.proofs.Common.{arith}
use Rattle.watch_page.proofs.standing.Standing.none.Goals as goal

pub returns : goal.returns
returns c so = record { lists = c.new.ensures so; all = omega arith }
