-- An entry that is kept, or passed over, in the lists of what is shown.
use Rattle.std.proofs.Common.{◌≡◌, ℕ, Bool, true, false, ◌&&◌, List, ◌∷◌, [], ◌++◌, Some, None, if◌then◌else◌, length, refl, sym, ap, ◌∙◌, arith}
use Rattle.std.proofs.lemmas.Bool.{eq-eqb}
use Rattle.bus_model.proofs.Lookback.{same_kind_self}
use Rattle.bus_model.specs.Overheard.{same_who}
use Rattle.bus_model.specs.declared.who.Who.{Who}
use Rattle.bus_model.specs.declared.who.Who.TheVariants.{Named, Unclaimed}
use Rattle.dm_messages.specs.View.{same_kind}
use Rattle.dm_messages.specs.declared.kind.Kind.{Kind}
use Rattle.bus_watch.specs.Methods.{entry_by_method, with_entry_shown}
use Rattle.listener.specs.declared.entry.SentEntry.{SentEntry}
use Rattle.bus_watch.specs.Runs.{HasRuns, ListsValue, entries_in, has_begun, is_shown, runs_under, units_in, came_at, kept_after, kept_with, with_came, with_run_at, with_unit, with_unit_of}
use Rattle.bus_watch.specs.declared.run.EntryRun.{EntryRun}

-- no run has begun where they are as they were
none_begun : (runs : List EntryRun) → has_begun runs runs ≡ false
unfolding has_begun
none_begun runs = grind arith

-- the list of the entry itself
own_who : (w : Who) → same_who w w ≡ true
own_who (Named n) = eq-eqb n n refl
own_who (Unclaimed a gaps) = rw (eq-eqb a a refl, eq-eqb gaps gaps refl) refl

own_runs : (before mid : ListsValue) (e : SentEntry)
    → ((w : Who) (k : Kind) → runs_under mid w k ≡ (if same_who e.who w && same_kind e.kind k then with_came (runs_under before w k) (came_at before.selection before.contests before.time e) else runs_under before w k))
    → runs_under mid e.who e.kind ≡ with_came (runs_under before e.who e.kind) (came_at before.selection before.contests before.time e)
own_runs before mid e runs = runs e.who e.kind ∙ (rw (own_who e.who, same_kind_self e.kind) refl)

-- an entry that is kept
pub kept_in_runs : (before mid : ListsValue) (began : Bool) (codes kept : ℕ) (e : SentEntry) → is_shown before.selection before.time e ≡ true
    → ((w : Who) (k : Kind) → entries_in mid w k ≡ (if same_who e.who w && same_kind e.kind k then entries_in before w k ++ entry_by_method before.selection.methods e ∷ [] else entries_in before w k))
    → ((w : Who) (k : Kind) → runs_under mid w k ≡ (if same_who e.who w && same_kind e.kind k then with_came (runs_under before w k) (came_at before.selection before.contests before.time e) else runs_under before w k))
    → units_in mid ≡ with_unit e.who (units_in before)
    → began ≡ has_begun (runs_under before e.who e.kind) (runs_under mid e.who e.kind) → mid.selection ≡ before.selection → mid.time ≡ before.time → mid.contests ≡ before.contests
    → codes ≡ length (entry_by_method before.selection.methods e).shown.codes → kept ≡ kept_after began codes before.kept
    → HasRuns before e (record mid { began = began; kept = kept })
kept_in_runs before mid began codes kept e shown entries runs units begun same at contests coded more = record {
  entries = λ w k. entries w k ∙ sym (ap (λ (b : Bool). with_entry_shown before.selection.methods (if b then Some e else None) (entries_in before) w k) shown);
  units = units ∙ sym (ap (λ (b : Bool). with_unit_of (if b then Some e else None) (units_in before)) shown);
  runs = λ w k. runs w k ∙ sym (ap (λ (b : Bool). with_run_at before.selection before.contests before.time (if b then Some e else None) w k (runs_under before w k)) shown);
  selection = same;
  time = at;
  contests = contests;
  kept = more ∙ (ap (λ (b : Bool). kept_after b codes before.kept) (begun ∙ ap (has_begun (runs_under before e.who e.kind)) (own_runs before mid e runs))
      ∙ (ap (λ (n : ℕ). kept_after (has_begun (runs_under before e.who e.kind) (with_came (runs_under before e.who e.kind) (came_at before.selection before.contests before.time e))) n before.kept) coded
      ∙ sym (ap (λ (b : Bool). kept_with before.selection before.contests before.time (if b then Some e else None) (runs_under before) before.kept) shown)));
  began = begun;
}

-- one that is passed over
pub unshown : (before : ListsValue) (e : SentEntry) → is_shown before.selection before.time e ≡ false → HasRuns before e (record before { began = false })
unshown before e none = record {
  entries = λ w k. sym (ap (λ (b : Bool). with_entry_shown before.selection.methods (if b then Some e else None) (entries_in before) w k) none);
  units = sym (ap (λ (b : Bool). with_unit_of (if b then Some e else None) (units_in before)) none);
  runs = λ w k. sym (ap (λ (b : Bool). with_run_at before.selection before.contests before.time (if b then Some e else None) w k (runs_under before w k)) none);
  selection = refl;
  time = refl;
  contests = refl;
  kept = sym (ap (λ (b : Bool). kept_with before.selection before.contests before.time (if b then Some e else None) (runs_under before) before.kept) none);
  began = sym (none_begun (runs_under before e.who e.kind));
}

pub unshown_so : (before after : ListsValue) (e : SentEntry) → after ≡ record before { began = false } → is_shown before.selection before.time e ≡ false → HasRuns before e after
unshown_so before after e same none = rw (same) (unshown before e none)
