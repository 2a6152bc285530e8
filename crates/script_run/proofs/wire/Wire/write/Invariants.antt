use Rattle.std.proofs.Common.{map, take}
use Rattle.std.specs.Io.KnownBytes.{Appends}
use Rattle.journal.specs.Journal.{state_of}
use Rattle.script_run.specs.Telling.{log_from}
use Rattle.script_run.proofs.wire.Wire.write.Given as goal

-- the frames so far were written
abbrev pub invariant-loop-index : goal.invariant-loop-index
invariant-loop-index g l = Appends (g.W.Write.contents l.fn.writer) (g.W.Write.contents l.writer)
    (log_from l.self.bus.now l.self.period 0 (take l.index (map (λ c. c.frame) (state_of l.bench.garage).traffic.wire)))
