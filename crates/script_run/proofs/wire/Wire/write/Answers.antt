use Rattle.std.proofs.Common.{◌≡◌, ◌∙◌, sym, subst, rules, map, take, ◌≤◌, ◌-◌, ◌^◌}
use Rattle.std.proofs.KnownBytes.{Appends-nil}
use Rattle.std.specs.Io.KnownBytes.{Appends}
use Rattle.journal.specs.Journal.{state_of}
use Rattle.script_run.specs.Telling.{log_from}
use Rattle.script_run.proofs.Answering.{of_ok}
use Rattle.script_run.proofs.WireLog.{logged_all, logged_more}
use Rattle.script_run.proofs.wire.Wire.write.Goals as goal

pub loop-index-init : goal.loop-index-init
unfolding log_from
loop-index-init g c = Appends-nil _

pub loop-index-preserved : goal.loop-index-preserved
loop-index-preserved g c =
    let wrote = of_ok c.write_line.result (search rules) c.write_line.ensures in
    logged_more (λ f. f.frame) _ _ _ c.loop-index.index c.in-Some-from_micros.time c.in-Some.frame _ _ _ (sym c.frame.ensures ∙ c.in-Some.is)
    (c.in-Some-from_micros.ensures.1 ∙ search rules) (search rules) c.loop-index.invariant wrote

pub returns-after-loop-index-clause-written : goal.returns-after-loop-index-clause-written
returns-after-loop-index-clause-written g c =
    let all : c.loop-index.index ≡ 2 ^ 32 - 1 = search rules in
    subst (λ k. Appends (g.W.Write.contents c.args.writer.now) (g.W.Write.contents c.loop-index.writer) (log_from c.args.self.bus.now c.args.self.period 0
    (take k (map (λ f. f.frame) (state_of c.args.bench.now.garage).traffic.wire)))) all c.loop-index.invariant

pub returns-in_default-clause-written : goal.returns-in_default-clause-written
returns-in_default-clause-written g c =
    let within : c.loop-index.index ≤ 2 ^ 32 - 1 = search rules in
    subst (λ fs. Appends (g.W.Write.contents c.args.writer.now) (g.W.Write.contents c.loop-index.writer) (log_from c.args.self.bus.now c.args.self.period 0 fs))
    (logged_all (λ f. f.frame) _ _ _ (sym c.frame.ensures ∙ c.in_default.is) within) c.loop-index.invariant
