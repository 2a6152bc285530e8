use Rattle.std.proofs.Common.{◌≡◌, List, sym, subst}
use Rattle.entry_lists.specs.Newest.{NewestKinds, with_newer}
use Rattle.listener.specs.ReadEntries.{EntryRead}
use Rattle.listener.specs.NewestSent.{HasNewestOf, HasUnitOrder, NewestSentValue}
use Rattle.listener.specs.declared.unit_key.UnitKey.{UnitKey}
use Rattle.listener.proofs.NewestUnits.{lengthened, on_ok, order_kept}
use Rattle.listener.proofs.newest.NewestSent.add.Goals as goal

pub invariant_of-self : goal.invariant_of-self
invariant_of-self c =
    subst (λ (l : List (UnitKey × NewestKinds EntryRead)). HasUnitOrder c.self.inside.order.items l) (sym (c.get_mut.follows.holds c.push.new.self).0)
    (order_kept c.self.inside.order.items c.self.inside.units.entries c.of-key.result c.in-Some.kinds.now c.push.new.self c.self.invariant (sym c.in-Some.ensures.value))

pub returns-in-Some-clause-ok : goal.returns-in-Some-clause-ok
returns-in-Some-clause-ok c =
    let order = c.self.inside.order.items in
    let units = c.self.inside.units.entries in
    let after = (c.get_mut.follows.lender c.push.new.self).entries in
    on_ok c.push.result
    (λ (e : c.push.new.self ≡ with_newer c.self.inside.keep c.args.kind c.args.entry c.in-Some.kinds.now).
    subst (λ (t : NewestSentValue). HasNewestOf c.args.who c.args.kind c.args.entry t (record { keep = c.self.inside.keep; order = order; units = after })) c.self.view_is
    (lengthened c.self.inside.keep order units after c.of-key.result c.args.who c.args.kind c.args.entry c.in-Some.kinds.now c.push.new.self
    c.self.invariant c.of-key.ensures (sym c.in-Some.ensures.value) e (c.get_mut.follows.holds c.push.new.self).0))
    c.push.ensures.ok
