use Rattle.std.proofs.Common.{◌≡◌, ◌&&◌, List, Some, ◌∷◌, [], ◌++◌, if◌then◌else◌, ap, refl, ◌∙◌, sym, subst}
use Rattle.std.specs.Map.{lookup, set_value}
use Rattle.bus_model.specs.Overheard.{same_who}
use Rattle.bus_model.specs.declared.who.Who.{Who}
use Rattle.dm_messages.specs.View.{same_kind}
use Rattle.dm_messages.specs.declared.kind.Kind.{Kind}
use Rattle.bus_watch.specs.Runs.{Came, HasOrder, UnitsValue, UnitValue, key_of, runs_in, runs_of, same_key, units_of, unrolled, with_came, with_unit}
use Rattle.bus_watch.specs.declared.key.Key.{Key}
use Rattle.bus_watch.specs.declared.run.EntryRun.{EntryRun}
use Rattle.bus_watch.specs.declared.shown_entry.ShownEntry.{ShownEntry}
use Rattle.bus_watch.proofs.Steps.{on_ok}
use Rattle.bus_watch.proofs.Units.{begun_in, lengthened, order_kept, runs_found, set_found, units_kept}
use Rattle.bus_watch.proofs.run_table.RunTable.add.Goals as goal

pub returns-in-Some-clause-entries : goal.returns-in-Some-clause-entries
returns-in-Some-clause-entries c =
    let before : UnitsValue = record { order = c.self.inside.order.items; runs = c.self.inside.units.entries } in
    let after : UnitsValue = record { order = c.self.inside.order.items; runs = (c.get_mut.follows.lender c.add.new.self).entries } in
    on_ok c.add.result
    (λ (e : (k : Kind) → unrolled (runs_of c.add.new.self k)
    ≡ (if same_kind c.args.entry.kind k then unrolled (runs_of c.in-Some.unit.now k) ++ c.args.entry.what ∷ [] else unrolled (runs_of c.in-Some.unit.now k))).
    subst (λ (t : UnitsValue). (w : Who) (k : Kind) → unrolled (runs_in after w k)
    ≡ (if same_who c.args.entry.who w && same_kind c.args.entry.kind k then unrolled (runs_in t w k) ++ c.args.entry.what ∷ [] else unrolled (runs_in t w k))) c.self.view_is
    (lengthened unrolled (λ (l : List ShownEntry). l ++ c.args.entry.what ∷ []) before after c.args.entry.who c.args.entry.kind c.in-Some.unit.now c.add.new.self
    (ap (λ (q : Key). lookup (same_key q) before.runs) (sym c.of.ensures) ∙ sym c.in-Some.ensures.value)
    ((c.get_mut.follows.holds c.add.new.self).0 ∙ ap (λ (q : Key). set_value (same_key q) before.runs c.add.new.self) c.of.ensures) e))
    c.add.ensures.entries

pub returns-in-Some-clause-came : goal.returns-in-Some-clause-came
returns-in-Some-clause-came c =
    let before : UnitsValue = record { order = c.self.inside.order.items; runs = c.self.inside.units.entries } in
    let after : UnitsValue = record { order = c.self.inside.order.items; runs = (c.get_mut.follows.lender c.add.new.self).entries } in
    let came : Came = record { what = c.args.entry.what; time = c.args.time; contested = c.args.contested } in
    on_ok c.add.result
    (λ (e : (k : Kind) → runs_of c.add.new.self k ≡ (if same_kind c.args.entry.kind k then with_came (runs_of c.in-Some.unit.now k) came else runs_of c.in-Some.unit.now k)).
    subst (λ (t : UnitsValue). (w : Who) (k : Kind) → runs_in after w k
    ≡ (if same_who c.args.entry.who w && same_kind c.args.entry.kind k then with_came (runs_in t w k) came else runs_in t w k)) c.self.view_is
    (lengthened (λ (l : List EntryRun). l) (λ (l : List EntryRun). with_came l came) before after c.args.entry.who c.args.entry.kind c.in-Some.unit.now c.add.new.self
    (ap (λ (q : Key). lookup (same_key q) before.runs) (sym c.of.ensures) ∙ sym c.in-Some.ensures.value)
    ((c.get_mut.follows.holds c.add.new.self).0 ∙ ap (λ (q : Key). set_value (same_key q) before.runs c.add.new.self) c.of.ensures) e))
    c.add.ensures.came

pub invariant_of-self : goal.invariant_of-self
invariant_of-self c =
    let order = c.self.inside.order.items in
    let runs = c.self.inside.units.entries in
    subst (λ (l : List (Key × UnitValue)). HasOrder (record { order = order; runs = l })) (sym (c.get_mut.follows.holds c.add.new.self).0)
    (order_kept order runs c.of.result c.in-Some.unit.now c.add.new.self c.self.invariant (sym c.in-Some.ensures.value))

pub returns-in-Some-clause-units : goal.returns-in-Some-clause-units
returns-in-Some-clause-units c =
    let before : UnitsValue = record { order = c.self.inside.order.items; runs = c.self.inside.units.entries } in
    let after : UnitsValue = record { order = c.self.inside.order.items; runs = (c.get_mut.follows.lender c.add.new.self).entries } in
    on_ok c.add.result
    (λ e. subst (λ (t : UnitsValue). units_of after ≡ with_unit c.args.entry.who (units_of t)) c.self.view_is
    (units_kept before after c.args.entry.who c.in-Some.unit.now c.self.invariant
    (ap (λ (q : Key). lookup (same_key q) before.runs) (sym c.of.ensures) ∙ sym c.in-Some.ensures.value) refl))
    c.add.ensures.entries

pub returns-in-Some-clause-begins : goal.returns-in-Some-clause-begins
returns-in-Some-clause-begins c =
    let before : UnitsValue = record { order = c.self.inside.order.items; runs = c.self.inside.units.entries } in
    let after : UnitsValue = record { order = c.self.inside.order.items; runs = (c.get_mut.follows.lender c.add.new.self).entries } in
    let there : lookup (same_key (key_of c.args.entry.who)) before.runs ≡ Some c.in-Some.unit.now =
    ap (λ (q : Key). lookup (same_key q) before.runs) (sym c.of.ensures) ∙ sym c.in-Some.ensures.value in
    let now : lookup (same_key (key_of c.args.entry.who)) after.runs ≡ Some c.add.new.self =
    ap (lookup (same_key (key_of c.args.entry.who))) ((c.get_mut.follows.holds c.add.new.self).0 ∙ ap (λ (q : Key). set_value (same_key q) before.runs c.add.new.self) c.of.ensures)
    ∙ set_found before.runs (key_of c.args.entry.who) c.in-Some.unit.now c.add.new.self there in
    begun_in c.add.result _ _ _ _
    (sym (runs_found before c.args.entry.who c.in-Some.unit.now c.args.entry.kind there) ∙ ap (λ (t : UnitsValue). runs_in t c.args.entry.who c.args.entry.kind) c.self.view_is)
    (sym (runs_found after c.args.entry.who c.add.new.self c.args.entry.kind now))
    c.add.ensures.begins
