use Rattle.std.proofs.Common.{◌∙◌}
use Rattle.garage.proofs.SeatKept.{turn_counted, is_unit, still_seated, unit_turned}
use Rattle.garage.proofs.Lists.{lists_of_event}
use Rattle.journal.specs.declared.event.Event.TheVariants.{Turned}
use Rattle.garage.proofs.garage.Garage.let_turn.Goals as goal

pub events_of-parked-requires : goal.events_of-parked-requires
events_of-parked-requires g c =
    is_unit c.args.self.now c.turned.new.self c.args.parked.now.seat (unit_turned c.args.self.now c.args.parked.now.seat c.turned.new.self c.in_ok-turned.ensures.ok)
    (c.knows.ensures.0 c.if-not-knows.false).unit

pub returns-clause-seated : goal.returns-clause-seated
returns-clause-seated g c = λ s.
    still_seated c.args.self.now c.turned.new.self c.args.parked.now.seat _ c.args.parked.now.events c.events_of-parked.result
    (unit_turned c.args.self.now c.args.parked.now.seat c.turned.new.self c.in_ok-turned.ensures.ok) (c.knows.ensures.0 c.if-not-knows.false) c.events_of-parked.ensures.count

pub returns-clause-counted : goal.returns-clause-counted
returns-clause-counted g c =
    c.events_of-parked.ensures.count
    ∙ turn_counted c.args.self.now c.args.parked.now.seat c.turned.new.self c.args.parked.now.events c.in_ok-turned.ensures.ok (c.knows.ensures.0 c.if-not-knows.false).counted

pub returns-clause-lists : goal.returns-clause-lists
returns-clause-lists g c = lists_of_event c.args.self.now c.turned.new.self (Turned c.args.parked.now.seat) c.in_ok-turned.ensures.ok
