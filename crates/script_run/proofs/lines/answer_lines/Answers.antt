use Rattle.std.proofs.Common.{◌∙◌, ℕ, ◌∷◌, [], None, IsOk, OnOk, option_map, refl, sym, ap, subst, true≢false, inr, rules}
use denote.Param.Object.{read_made}
use Rattle.std.proofs.lemmas.Iterator.Consumers.{YieldsList-end}
use Rattle.std.proofs.lemmas.Iterator.Splits.{YieldsList-from_lines}
use Rattle.std.proofs.lemmas.List.{map-append}
use Rattle.script_run.specs.Lines.{StandDoes}
use Rattle.script_run.specs.Sinks.{IsToldSo}
use Rattle.script_run.specs.Moves.{MovesByJoining}
use Rattle.script_run.proofs.Answering.{came_to, has_one, line_more, of_ok, on_both, on_err, silent_line, taken_all, takes_none, wrote_bench, wrote_line}
use Rattle.script_run.proofs.lines.answer_lines.OwnLists.{at-1-1, own-1}
use Rattle.script_run.proofs.lines.answer_lines.Goals.{in-Some-bench+in-Some-joining, in-Ok, in-Err, in-Some-bench+in-None-joining, in-None-bench, in-None, in-Some+else-begin_line+then-is_err}
use Rattle.script_run.proofs.lines.answer_lines.Goals as goal

pub loop-line-init : goal.loop-line-init
loop-line-init g c = (refl, takes_none _ None _)

pub loop-line-preserved-then-begin_line : goal.loop-line-preserved-then-begin_line
loop-line-preserved-then-begin_line g c = (
  c.loop-line.invariant.0,
  rw (map-append (λ x. x.now) c.loop-line.yielded (c.in-Some.line ∷ []))
      (silent_line _ _ c.in-Some.line.now _ _ _ _ (c.begin_line.ensures.silent.0 c.if-begin_line.true) c.begin_line.ensures.begins c.loop-line.invariant.1),
)

pub loop-line-preserved : goal.loop-line-preserved
loop-line-preserved g c =
    let ended : IsOk c.end_line-heard.result = search rules in
    let is = c.read_line-read.ensures in
    let did : OnOk c.match-bench.answered (IsToldSo g.L.AnswerSink.takes (λ told. StandDoes c.read_line-read.result (option_map (λ b. b.garage) c.loop-line.bench) told (option_map (λ b. b.garage) c.match-bench.bench))
    c.begin_line.new.self c.match-bench.sink) = elim c.match-bench.branch [
      | in-Some-bench+in-Some-joining w ↦ elim w.match-new.branch [
        | in-Ok v ↦ came_to g.L.AnswerSink.takes (λ b. b.garage) c.read_line-read.result _ _ _ _ _ _ _ _ _ w.sink-is (w.bench-is ∙ v.bench-is) w.answered-is w.in-Some-bench.is
            (wrote_line g.L.AnswerSink.takes _ c.begin_line.new.self _ c.read_line-read.result w.in-Some-joining.newcomer.name w.in-Some-joining.newcomer.address w.match-new.joined _ _ (sym w.joining.ensures ∙ ap (option_map (λ j. (j.name, j.address))) w.in-Some-joining.is) (rw v.joined-is (subst (λ n. MovesByJoining n w.in-Some-joining.newcomer.address v.join-joined.result w.in-Some-bench.at.garage v.join-joined.new.self.garage) (ap (λ s. s.name) v.in-Ok.ensures.ok ∙ w.new-unit.ensures.name)
            (subst (λ n. MovesByJoining n w.in-Some-joining.newcomer.address v.join-joined.result w.in-Some-bench.at.garage v.join-joined.new.self.garage) (read_made own-1 (own-1.entry at-1-1) at-1-1 refl ℕ (λ j u. j.1.name_of u) _ _ v.in-Ok.unit.value v.into_dyn_box.ensures.1) v.join-joined.ensures.moves))) w.answer.ensures.takes)
        | in-Err v ↦ came_to g.L.AnswerSink.takes (λ b. b.garage) c.read_line-read.result _ _ _ _ _ _ _ _ _ w.sink-is (w.bench-is ∙ v.bench-is) w.answered-is w.in-Some-bench.is
            (wrote_line g.L.AnswerSink.takes _ c.begin_line.new.self _ c.read_line-read.result w.in-Some-joining.newcomer.name w.in-Some-joining.newcomer.address w.match-new.joined _ _ (sym w.joining.ensures ∙ ap (option_map (λ j. (j.name, j.address))) w.in-Some-joining.is) (rw v.joined-is (inr (inr (inr (inr refl))), refl)) w.answer.ensures.takes)
      ]
      | in-Some-bench+in-None-joining w ↦ came_to g.L.AnswerSink.takes (λ b. b.garage) c.read_line-read.result _ _ _ _ _ _ _ _ _ w.sink-is w.bench-is w.answered-is w.in-Some-bench.is
          (wrote_bench g.L.AnswerSink.takes _ c.begin_line.new.self w.answer-in-None-joining.new.sink _ _ _ (sym w.joining.ensures ∙ ap (option_map (λ j. (j.name, j.address))) w.in-None-joining.is) w.answer-in-None-joining.ensures.does)
      | in-None-bench w ↦ came_to g.L.AnswerSink.takes (λ b. b.garage) c.read_line-read.result _ _ _ _ _ _ _ _ _ w.sink-is w.bench-is w.answered-is w.in-None-bench.is
          (w.begin-answered.ensures.does w.in-None-bench.is)
    ] in (
      ended,
      rw (map-append (λ x. x.now) c.loop-line.yielded (c.in-Some.line ∷ [])) (on_both _ _ c.end_line-heard.ensures.unanswered ended did
          (λ w. line_more _ _ c.in-Some.line.now c.read_line-read.result _ _ _ _ _ _ _ _ (λ s. absurd (true≢false (sym (c.begin_line.ensures.silent.1 s) ∙ c.if-begin_line.false))) is (c.is_some-has_garage.ensures ∙ has_one (λ b. b.garage) _) c.begin_line.ensures.begins (of_ok _ ended c.end_line-heard.ensures.ended) c.loop-line.invariant.1 w)),
    )

pub returns-clause-answered : goal.returns-clause-answered
returns-clause-answered g c = elim c.match-next.branch [
  | in-None w ↦
      let all = YieldsList-end (YieldsList-from_lines c.args.text.now (search rules)) c.loop-line.yielded _ c.loop-line.yielded_by _ _ w.in-None.is c.next.ensures.steps in
      taken_all _ g.L.AnswerSink.closes c.close.result _ _ (option_map (λ b. b.garage) c.loop-line.bench) (option_map (λ b. b.garage) c.match-next.bench) _ c.loop-line.sink c.match-next.sink c.close.new.sink all.0
      (ap (option_map (λ b. b.garage)) w.bench-is) w.sink-is c.loop-line.invariant.1 c.close.ensures.closed
  | in-Some+else-begin_line+then-is_err w ↦ on_err _ _ (c.close.ensures.unanswered (search rules))
]
