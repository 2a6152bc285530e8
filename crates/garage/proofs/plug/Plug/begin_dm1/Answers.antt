use Rattle.std.proofs.Common.{◌∙◌, subst}
use Rattle.garage.specs.Answers.{Begins}
use Rattle.garage.proofs.SeatKept.{beginning_counted, is_unit, still_seated, unit_begins}
use Rattle.garage.proofs.plug.Plug.begin_dm1.Goals as goal

pub events_of-self-requires : goal.events_of-self-requires
events_of-self-requires g c =
    is_unit c.args.self.now.garage.now c.begin.new.self c.args.self.now.seat
    (unit_begins c.args.self.now.garage.now c.args.self.now.seat _ c.in_ok-begin.begin c.begin.new.self c.in_ok-begin.ensures.ok c.args.self.now.seated.unit.1)
    c.args.self.now.seated.unit

pub invariant_of-self-2 : goal.invariant_of-self-2
invariant_of-self-2 g c = record {
  seated = still_seated c.args.self.now.garage.now c.begin.new.self c.args.self.now.seat c.args.self.now.name c.args.self.now.events c.events_of-self.result
      (unit_begins c.args.self.now.garage.now c.args.self.now.seat _ c.in_ok-begin.begin c.begin.new.self c.in_ok-begin.ensures.ok c.args.self.now.seated.unit.1)
      c.args.self.now.seated c.events_of-self.ensures.count;
}

pub returns-clause-counted : goal.returns-clause-counted
returns-clause-counted g c =
    c.events_of-self.ensures.count
    ∙ beginning_counted c.args.self.now.garage.now c.args.self.now.seat _ c.in_ok-begin.begin c.begin.new.self c.args.self.now.events c.in_ok-begin.ensures.ok c.args.self.now.seated.counted

pub returns-clause-ok : goal.returns-clause-ok
returns-clause-ok g c =
    subst (λ s. Begins c.args.self.now.garage.now c.args.self.now.seat ((goal.Unit-dyn g s).memory_of s.1) c.in_ok-begin.begin c.begin.new.self) c.deref_box-1.ensures.1 c.in_ok-begin.ensures.ok
