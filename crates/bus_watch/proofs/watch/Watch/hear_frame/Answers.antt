use Rattle.std.proofs.Common.{rules}
use Rattle.bus_watch.proofs.Naming.{tells_as_ok}
use Rattle.bus_watch.proofs.watch.Watch.hear_frame.Goals as goal

pub returns-clause-tells : goal.returns-clause-tells
returns-clause-tells c = tells_as_ok c.read_frame.result _ c.args.self.now c.read_frame.new.self _ _ (search rules) (search rules) c.read_frame.ensures.tells
