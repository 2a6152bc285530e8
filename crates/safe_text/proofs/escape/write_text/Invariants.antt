use Rattle.std.proofs.Common.{length}
use Rattle.std.specs.Io.KnownBytes.{Keeps, append_known}
use Rattle.safe_text.specs.Escape.{escaped, escaped_behind}
use Rattle.safe_text.proofs.escape.write_text.Given as goal

abbrev pub invariant-loop-byte : goal.invariant-loop-byte
invariant-loop-byte g l = Keeps (append_known (g.W.Write.contents l.initial.writer) (escaped l.initial.rest)) (append_known (g.W.Write.contents l.writer) (escaped_behind l.before l.last l.rest))

abbrev pub decreases-loop-byte : goal.decreases-loop-byte
decreases-loop-byte g l = length l.rest
