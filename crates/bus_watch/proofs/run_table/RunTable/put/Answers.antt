use Rattle.std.proofs.Common.{◌++◌, ◌∷◌, [], List, ap, ◌∙◌}
use Rattle.std.specs.Map.{lookup}
use Rattle.bus_watch.specs.Runs.{UnitsValue, same_key, units_of, who_of, with_unit}
use Rattle.bus_watch.specs.declared.key.Key.{Key}
use Rattle.bus_watch.proofs.Units.{order_more, units_more}
use Rattle.bus_watch.proofs.run_table.RunTable.put.Goals as goal

pub invariant_of-self-2 : goal.invariant_of-self-2
invariant_of-self-2 c =
    order_more c.self.inside.order.items c.push_reserved.new.self.items c.self.inside.units.entries c.insert.new.self.entries c.args.key c.args.unit c.self.invariant
    c.in_ok-insert.ensures.updates.0 (c.push_reserved.ensures.items ∙ ap (λ (l : List Key). l ++ c.args.key ∷ []) c.in_ok-reserve.ensures.items)

pub returns-clause-units : goal.returns-clause-units
returns-clause-units c =
    let before : UnitsValue = record { order = c.self.inside.order.items; runs = c.self.inside.units.entries } in
    let after : UnitsValue = record { order = c.push_reserved.new.self.items; runs = c.insert.new.self.entries } in
    units_more before after c.args.key c.self.invariant (ap (λ (t : UnitsValue). lookup (same_key c.args.key) t.runs) c.self.view_is ∙ c.requires)
    (c.push_reserved.ensures.items ∙ ap (λ (l : List Key). l ++ c.args.key ∷ []) c.in_ok-reserve.ensures.items)
    ∙ ap (λ (t : UnitsValue). with_unit (who_of c.args.key) (units_of t)) c.self.view_is
