use Rattle.std.proofs.Common.{◌∙◌}
use Rattle.garage.proofs.SeatKept.{turn_counted, is_unit, still_seated, unit_turned}
use Rattle.garage.proofs.Lists.{lists_of_event}
use Rattle.journal.specs.declared.event.Event.TheVariants.{Turned}
use Rattle.garage.proofs.plug.Plug.turn.Goals as goal

pub events_of-self-requires : goal.events_of-self-requires
events_of-self-requires g c =
    is_unit c.args.self.now.garage.now c.turned.new.self c.args.self.now.seat (unit_turned c.args.self.now.garage.now c.args.self.now.seat c.turned.new.self c.in_ok-turned.ensures.ok)
    c.args.self.now.seated.unit

pub invariant_of-self-2 : goal.invariant_of-self-2
invariant_of-self-2 g c = record {
  seated = still_seated c.args.self.now.garage.now c.turned.new.self c.args.self.now.seat c.args.self.now.name c.args.self.now.events c.events_of-self.result
      (unit_turned c.args.self.now.garage.now c.args.self.now.seat c.turned.new.self c.in_ok-turned.ensures.ok) c.args.self.now.seated c.events_of-self.ensures.count;
}

pub returns-clause-counted : goal.returns-clause-counted
returns-clause-counted g c =
    c.events_of-self.ensures.count
    ∙ turn_counted c.args.self.now.garage.now c.args.self.now.seat c.turned.new.self c.args.self.now.events c.in_ok-turned.ensures.ok c.args.self.now.seated.counted

pub returns-clause-lists : goal.returns-clause-lists
returns-clause-lists g c = lists_of_event c.args.self.now.garage.now c.turned.new.self (Turned c.args.self.now.seat) c.in_ok-turned.ensures.ok
