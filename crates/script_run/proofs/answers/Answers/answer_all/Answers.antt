use Rattle.std.specs.Io.KnownBytes.{append_known}
use Rattle.script_run.proofs.Relaying.{wrote_script}
use Rattle.script_run.proofs.answers.Answers.answer_all.Goals as goal

pub returns : goal.returns
returns g c =
    let wrote = wrote_script _ _ (λ a. a.writer.ghost_name) (λ a. append_known (g.W.Write.contents a.writer.now) a.held) c.answer_lines.result _ c.args.self.now c.answer_lines.new.sink
    (λ a b h. h) (λ a b told h. h) (λ line had a b h. h) (λ k a b h. h) c.answer_lines.ensures.answered in
    record { fault = c.answer_lines.ensures.ends; lent = wrote.0; answered = wrote.1 }
