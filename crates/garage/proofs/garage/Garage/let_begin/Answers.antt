use Rattle.std.proofs.Common.{◌∙◌, subst}
use Rattle.garage.specs.Answers.{Begins}
use Rattle.garage.proofs.SeatKept.{beginning_counted, is_unit, still_seated, unit_begins}
use Rattle.garage.proofs.garage.Garage.let_begin.Goals as goal

pub events_of-parked-requires : goal.events_of-parked-requires
events_of-parked-requires g c =
    is_unit c.args.self.now c.begin.new.self c.args.parked.now.seat
    (unit_begins c.args.self.now c.args.parked.now.seat _ c.in_ok-begin.begin c.begin.new.self c.in_ok-begin.ensures.ok (c.knows.ensures.0 c.if-not-knows.false).unit.1)
    (c.knows.ensures.0 c.if-not-knows.false).unit

pub returns-clause-seated : goal.returns-clause-seated
returns-clause-seated g c = λ s.
    still_seated c.args.self.now c.begin.new.self c.args.parked.now.seat _ c.args.parked.now.events c.events_of-parked.result
    (unit_begins c.args.self.now c.args.parked.now.seat _ c.in_ok-begin.begin c.begin.new.self c.in_ok-begin.ensures.ok (c.knows.ensures.0 c.if-not-knows.false).unit.1) (c.knows.ensures.0 c.if-not-knows.false) c.events_of-parked.ensures.count

pub returns-clause-counted : goal.returns-clause-counted
returns-clause-counted g c =
    c.events_of-parked.ensures.count
    ∙ beginning_counted c.args.self.now c.args.parked.now.seat _ c.in_ok-begin.begin c.begin.new.self c.args.parked.now.events c.in_ok-begin.ensures.ok (c.knows.ensures.0 c.if-not-knows.false).counted

pub returns-clause-ok : goal.returns-clause-ok
returns-clause-ok g c =
    subst (λ s. Begins c.args.self.now c.args.parked.now.seat ((goal.Unit-dyn g s).memory_of s.1) c.in_ok-begin.begin c.begin.new.self) c.deref_box-1.ensures.1 c.in_ok-begin.ensures.ok
