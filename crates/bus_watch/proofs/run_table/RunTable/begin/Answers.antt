use Rattle.std.proofs.Common.{◌≡◌, ◌++◌, ◌∷◌, [], List, Some, cond, if◌then◌else◌, ap, ◌∙◌, subst}
use Rattle.std.specs.Map.{lookup}
use Rattle.bus_model.specs.declared.who.Who.{Who}
use Rattle.dm_messages.specs.View.{same_kind}
use Rattle.dm_messages.specs.declared.kind.Kind.{Kind}
use Rattle.bus_watch.specs.Runs.{Came, UnitValue, runs_of, same_key, units_of, unrolled, who_of, with_came, with_unit}
use Rattle.bus_watch.specs.declared.run.EntryRun.{EntryRun}
use Rattle.bus_watch.specs.declared.shown_entry.ShownEntry.{ShownEntry}
use Rattle.bus_watch.specs.declared.key.Key.{Key}
use Rattle.bus_watch.proofs.Units.{begun, who_of_key}
use Rattle.bus_watch.proofs.run_table.RunTable.begin.Goals as goal

pub returns-clause-entries : goal.returns-clause-entries
returns-clause-entries c =
    begun unrolled (λ (l : List ShownEntry). l ++ c.args.entry.what ∷ []) c.args.self.now c.put.new.self c.args.entry.who c.args.entry.kind c.add.new.self c.requires
    (λ q. c.in_ok-put.ensures.runs q ∙ ap (λ (p : Key). cond (same_key p q) (Some c.add.new.self) (lookup (same_key q) c.args.self.now.runs)) c.of-key.ensures)
    (subst (λ (x : UnitValue). (k : Kind) → unrolled (runs_of c.add.new.self k)
    ≡ (if same_kind c.args.entry.kind k then unrolled (runs_of x k) ++ c.args.entry.what ∷ [] else unrolled (runs_of x k)))
    c.new-unit.ensures c.in_ok-begins.ensures.entries)

pub returns-clause-came : goal.returns-clause-came
returns-clause-came c =
    let came : Came = record { what = c.args.entry.what; time = c.args.time; contested = c.args.contested } in
    begun (λ (l : List EntryRun). l) (λ (l : List EntryRun). with_came l came) c.args.self.now c.put.new.self c.args.entry.who c.args.entry.kind c.add.new.self c.requires
    (λ q. c.in_ok-put.ensures.runs q ∙ ap (λ (p : Key). cond (same_key p q) (Some c.add.new.self) (lookup (same_key q) c.args.self.now.runs)) c.of-key.ensures)
    (subst (λ (x : UnitValue). (k : Kind) → runs_of c.add.new.self k ≡ (if same_kind c.args.entry.kind k then with_came (runs_of x k) came else runs_of x k))
    c.new-unit.ensures c.in_ok-begins.ensures.came)

pub returns-clause-units : goal.returns-clause-units
returns-clause-units c =
    c.in_ok-put.ensures.units
    ∙ (ap (λ (q : Key). with_unit (who_of q) (units_of c.args.self.now)) c.of-key.ensures ∙ ap (λ (u : Who). with_unit u (units_of c.args.self.now)) (who_of_key c.args.entry.who))
