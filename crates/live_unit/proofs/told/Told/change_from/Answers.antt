use Rattle.std.proofs.Common.{rules, arith, ◌≡◌, false, inl, inr}
use Rattle.live_unit.specs.Telling as telling
use Rattle.live_unit.proofs.Telling.{due_as_before}
use Rattle.live_unit.proofs.told.Told.change_from.Goals as goal

pub returns-then-self-now : goal.returns-then-self-now
returns-then-self-now c = λ t h l.
    let none : telling.is_change_due c.args.now c.args.self.now c.args.memory.now ≡ false = search rules in
    let from : c.args.self.now.lamps_from ≡ c.self.inside.lamps_from = search rules in
    due_as_before c.args.now t c.first_over-first.result c.args.self.now c.args.memory.now none h (omega arith) (search rules) (inr (omega (arith, from)))

pub returns-else-self-now : goal.returns-else-self-now
returns-else-self-now c = λ t h l.
    let none : telling.is_change_due c.args.now c.args.self.now c.args.memory.now ≡ false = search rules in
    let from : c.args.self.now.lamps_from ≡ c.self.inside.lamps_from = search rules in
    due_as_before c.args.now t c.first_over-first.result c.args.self.now c.args.memory.now none h l (search rules) (inl (omega (arith, from)))
