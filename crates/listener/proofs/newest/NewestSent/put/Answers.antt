use Rattle.std.proofs.Common.{◌++◌, ◌∷◌, [], List, ap, ◌∙◌}
use Rattle.std.specs.Map.{lookup}
use Rattle.listener.specs.NewestSent.{NewestSentValue, same_unit_key, units_listed, unit_of_key, with_unit}
use Rattle.listener.specs.declared.unit_key.UnitKey.{UnitKey}
use Rattle.listener.proofs.NewestUnits.{order_more, units_more}
use Rattle.listener.proofs.newest.NewestSent.put.Goals as goal

pub invariant_of-self-2 : goal.invariant_of-self-2
invariant_of-self-2 c =
    order_more c.self.inside.order.items c.push_reserved.new.self.items c.self.inside.units.entries c.insert.new.self.entries c.args.key c.args.kinds c.self.invariant
    c.in_ok-insert.ensures.updates.0 (c.push_reserved.ensures.items ∙ ap (λ (l : List UnitKey). l ++ c.args.key ∷ []) c.in_ok-reserve.ensures.items)

pub returns-clause-units : goal.returns-clause-units
returns-clause-units c =
    units_more c.self.inside.order.items c.push_reserved.new.self.items c.self.inside.units.entries c.args.key c.self.invariant
    (ap (λ (t : NewestSentValue). lookup (same_unit_key c.args.key) t.units) c.self.view_is ∙ c.requires)
    (c.push_reserved.ensures.items ∙ ap (λ (l : List UnitKey). l ++ c.args.key ∷ []) c.in_ok-reserve.ensures.items)
    ∙ ap (λ (t : NewestSentValue). with_unit (unit_of_key c.args.key) (units_listed t)) c.self.view_is
