use Rattle.std.proofs.Common.{◌∙◌, ap, sym, refl}
use Rattle.node_core.specs.declared.heard.Answer.TheVariants.{NotAsked}
use Rattle.parameter_group.specs.Group.{group_of}
use Rattle.live_unit.specs.Steps.{standing}
use Rattle.live_unit.proofs.Asking.{asks_again, ended, heard_again}
use Rattle.live_unit.proofs.Lent.{on_err}
use Rattle.live_unit.proofs.node.LiveNode.hear_any.Goals as goal

pub returns-then-is_too_often-clause-heard : goal.returns-then-is_too_often-clause-heard
returns-then-is_too_often-clause-heard g c =
    let u = c.args.self.now in let m = (goal.Unit-dyn g c.args.unit.now).memory_of c.args.unit.now.1 in let r = c.in-Some.again in
    let e = sym c.requires.again ∙ c.in-Some.is in
    let open_one = (asks_again u.node u.queue (group_of c.args.frame.now) r e).0 in
    let before = standing u.node m u.queue in let after = standing c.end_asked.new.node m c.end_asked.new.queue in
    heard_again c.args.again r c.args.frame.now u.clock.asked NotAsked before after c.in-Some.is
    (ended r u.clock.asked NotAsked before after open_one.0 open_one.1 (sym c.is_too_often.ensures ∙ c.if-is_too_often.true) (c.end_asked.ensures.ends open_one.0 m open_one.1))

pub returns-then-is_too_often-clause-asked : goal.returns-then-is_too_often-clause-asked
returns-then-is_too_often-clause-asked g c =
    let nothing = (asks_again c.args.self.now.node c.args.self.now.queue (group_of c.args.frame.now) c.in-Some.again (sym c.requires.again ∙ c.in-Some.is)).1 in
    (c.args.unit.now.1, refl, rw nothing refl)

pub send_again-requires-clause-gone : goal.send_again-requires-clause-gone
send_again-requires-clause-gone g c = (asks_again c.args.self.now.node c.args.self.now.queue (group_of c.args.frame.now) c.in-Some.again (sym c.requires.again ∙ c.in-Some.is)).0

pub returns-clause-name : goal.returns-clause-name
returns-clause-name g c = ap (λ s. (goal.Unit-dyn g s).name_of s.1) c.send_again.ensures.unit

pub returns-clause-unasked : goal.returns-clause-unasked
returns-clause-unasked g c = on_err c.send_again.result c.send_again.ensures.unit
