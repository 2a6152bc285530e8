use Rattle.std.proofs.Common.{IsOk, map, None, option_map}
use Rattle.script_run.specs.Sinks.{TakesAll}
use Rattle.script_run.proofs.lines.answer_lines.Given as goal

-- the lines so far were answered
abbrev pub invariant-loop-line : goal.invariant-loop-line
invariant-loop-line g l = IsOk l.heard × TakesAll (record { begins = g.L.AnswerSink.begins; takes = g.L.AnswerSink.takes; ends = g.L.AnswerSink.ends })
    (map (λ x. x.now) l.yielded) None (option_map (λ b. b.garage) l.bench) l.fn.sink l.sink
