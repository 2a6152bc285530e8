use Rattle.listener.proofs.ReadInPart.{reads_after_ok}
use Rattle.listener.proofs.listener.Listener.hear_single.Goals as goal

pub returns-clause-ok : goal.returns-clause-ok
returns-clause-ok g c = reads_after_ok c.keep.result c.keep.new.self c.args.self.now c.args.bytes.now c.in_ok-read.read c.in_ok-read.ensures.read c.keep.ensures.ok
