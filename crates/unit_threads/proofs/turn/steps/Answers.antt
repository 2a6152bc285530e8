use Rattle.std.proofs.Common.{◌∙◌}
use Rattle.unit_threads.proofs.Boxes.{turn_in_box}
use Rattle.unit_threads.proofs.turn.steps.Goals as goal

pub returns-clause-unit : goal.returns-clause-unit
returns-clause-unit g c =
    let p = c.args.plug.now in
    let q = c.hear_all.new.plug in
    let r = c.begin_wanted.new.plug in
    let heard = c.in_ok-hear_all.ensures in
    let begun = c.in_ok-begin_wanted.ensures in
    let turn = c.in_ok-turn.ensures in
    turn_in_box (λ i. (g.dyn-1.0.entry i).1.name_of) (λ i. (g.dyn-1.0.entry i).1.wants) (λ i. (g.dyn-1.0.entry i).1.memory_of) (λ i. (g.dyn-1.0.entry i).1.Answers) p.seat q.seat r.seat p.garage.now q.garage.now r.garage.now c.turn.new.self.garage.now p.unit q.unit r.unit c.turn.new.self.unit p.events q.events
    heard.unit heard.all heard.kept.0 (begun.kept.0 ∙ heard.kept.0) begun.ok turn.ok begun.kept.2 turn.kept.2
