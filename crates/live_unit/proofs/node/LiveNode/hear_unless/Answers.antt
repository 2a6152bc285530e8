use Rattle.std.proofs.Common.{◌∙◌, sym, refl}
use Rattle.node_core.specs.declared.heard.Answer.TheVariants.{NotAsked}
use Rattle.parameter_group.specs.Group.{group_of}
use Rattle.live_unit.specs.Aborts.{abort_by}
use Rattle.live_unit.specs.Steps.{standing}
use Rattle.live_unit.proofs.Asking.{heard_unless, owed_for}
use Rattle.live_unit.proofs.node.LiveNode.hear_unless.Goals as goal

pub returns-clause-heard : goal.returns-clause-heard
returns-clause-heard g c =
    let u = c.args.self.now in let m = (goal.Unit-dyn g c.args.unit.now).memory_of c.args.unit.now.1 in
    heard_unless (abort_by u.node u.queue (group_of c.args.frame.now)) c.in-Some.owed c.args.frame.now u.clock.asked NotAsked (standing u.node m u.queue)
    (standing c.abort.new.node m c.abort.new.queue) (sym c.abort_by.ensures ∙ c.in-Some.is) (c.abort.ensures.aborts m)

pub returns-clause-asked : goal.returns-clause-asked
returns-clause-asked g c =
    let u = c.args.self.now in
    let nothing = (owed_for u.node u.queue (group_of c.args.frame.now) c.in-Some.owed (sym c.abort_by.ensures ∙ c.in-Some.is)).1 in
    (c.args.unit.now.1, refl, rw nothing refl)
