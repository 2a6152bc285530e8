use Rattle.script_run.proofs.Relaying.{carried}
use Rattle.script_run.proofs.line_reporter.LineReporter.carry_lines.Goals as goal

pub returns : goal.returns
returns g c =
    let did = carried _ _ (record { how = λ a. a.form; number = λ a. a.number; refused = λ a. a.has_refused; seats = λ a. a.seats; refusal = λ a. a.refusal; wire = λ a. a.wire.now; errors = λ a. a.errors; writer = λ a. a.writer })
    (λ w. w.ghost_name) (λ w. g.E.Write.contents w.now) (λ w. w.ghost_name) (λ w. g.W.Write.contents w.now) c.answer_lines.result _ c.args.self.now c.answer_lines.new.sink c.requires
    (λ a b h. h) (λ a b told h. h) (λ line had a b h. h) (λ k a b h. h) c.answer_lines.ensures.answered in
    record { ends = c.answer_lines.ensures.ends; lent = did.0; told = did.1 }
