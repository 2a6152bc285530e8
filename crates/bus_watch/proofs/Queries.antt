-- What is read from a watch is what was heard of the lines.
use Rattle.std.proofs.Common.{◌≡◌, ◌≤◌, ◌+◌, ℕ, suc, List, Option, length, map, refl, sym, subst, ap, ◌∙◌, arith}
use Rattle.std.specs.Prelude.{slice_get}
use Rattle.std.specs.Option.{option_map}
use Rattle.std.proofs.lemmas.List.{length-map}
use Rattle.dm_messages.specs.declared.kind.Kind.{Kind}
use Rattle.bus_model.specs.Overheard.{row_overheard, unread_overheard}
use Rattle.bus_model.specs.Heard.{counted, missed_count, names_heard}
use Rattle.bus_model.specs.declared.who.Who.{Who}
use Rattle.entry_lists.specs.declared.row.Row.{Row}
use Rattle.entry_lists.specs.KeptValue.{kept_under}
use Rattle.entry_lists.specs.KnownRows.{row_heard_as, row_of}
use Rattle.entry_lists.proofs.RowClaims.{row_words}
use Rattle.entry_lists.proofs.RowLemmas.{named}
use Rattle.bus_watch.specs.Runs.{entries_came, entries_in, kept_heard, runs_by, lists_shown, newest_time, runs_under, units_in, units_shown, unrolled, who_of}
use Rattle.bus_watch.specs.Told.{Beginning, StandsForAll, Told, all_said, readings_said}
use Rattle.bus_watch.specs.WatchValue.{CountsBefore, WatchValue, announcements_in, half_below, half_from, half_from_source, half_in_all, missed_by, partly_heard, unread_by}
use Rattle.bus_watch.specs.declared.run.EntryRun.{EntryRun}
use Rattle.bus_watch.specs.declared.shown_entry.ShownEntry.{ShownEntry}

pub names_as_heard : (w : WatchValue) (b : Beginning) (ts : List Told) (n : ℕ) → n ≡ length w.listener.rows → StandsForAll b ts w → n ≡ length (names_heard (readings_said b ts))
names_as_heard w b ts n e s = e ∙ (sym (length-map w.listener.rows named) ∙ ap (λ (l : List ℕ). length l) s.heard.listener.names)

pub name_as_heard : (w : WatchValue) (b : Beginning) (ts : List Told) (place : ℕ) (o : Option ℕ)
    → o ≡ slice_get (map named w.listener.rows) place → StandsForAll b ts w → o ≡ slice_get (names_heard (readings_said b ts)) place
name_as_heard w b ts place o e s = e ∙ ap (λ (l : List ℕ). slice_get l place) s.heard.listener.names

pub row_as_heard : (w : WatchValue) (b : Beginning) (ts : List Told) (name : ℕ) (o : Option Row)
    → o ≡ row_of w.listener.owners name (kept_under w.listener.rows name) → StandsForAll b ts w → option_map row_heard_as o ≡ row_overheard name (readings_said b ts)
row_as_heard w b ts name o e s =
    ap (option_map row_heard_as) e ∙ (row_words w.listener.owners name (kept_under w.listener.rows name) ∙ s.heard.listener.rows name)

pub units_as_heard : (w : WatchValue) (b : Beginning) (ts : List Told) (n : ℕ) → n ≡ length w.lists.units.order → StandsForAll b ts w → n ≡ length (units_shown b.selection (all_said b ts).moments)
units_as_heard w b ts n e s = e ∙ (sym (length-map w.lists.units.order who_of) ∙ ap (λ (l : List Who). length l) s.heard.units)

pub unit_as_heard : (w : WatchValue) (b : Beginning) (ts : List Told) (place : ℕ) (o : Option Who)
    → o ≡ slice_get (units_in w.lists) place → StandsForAll b ts w → o ≡ slice_get (units_shown b.selection (all_said b ts).moments) place
unit_as_heard w b ts place o e s = e ∙ ap (λ (l : List Who). slice_get l place) s.heard.units

pub runs_as_heard : (w : WatchValue) (b : Beginning) (ts : List Told) (who : Who) (kind : Kind) (l : List EntryRun) → l ≡ runs_under w.lists who kind → StandsForAll b ts w
    → unrolled l ≡ lists_shown b.selection (all_said b ts).moments who kind
runs_as_heard w b ts who kind l e s = ap unrolled e ∙ s.heard.lists who kind

pub runs_as_came : (w : WatchValue) (b : Beginning) (ts : List Told) (who : Who) (kind : Kind) (l : List EntryRun) → l ≡ runs_under w.lists who kind → StandsForAll b ts w
    → l ≡ runs_by (entries_came b.selection b.contests (all_said b ts).moments who kind)
runs_as_came w b ts who kind l e s = e ∙ s.heard.runs who kind

pub entries_as_heard : (w : WatchValue) (b : Beginning) (ts : List Told) (who : Who) (kind : Kind) (n : ℕ) → n ≡ counted (length (entries_in w.lists who kind)) → StandsForAll b ts w
    → n ≡ counted (length (lists_shown b.selection (all_said b ts).moments who kind))
entries_as_heard w b ts who kind n e s = e ∙ ap (λ (l : List ShownEntry). counted (length l)) (s.heard.lists who kind)

pub missed_as_heard : (w : WatchValue) (b : Beginning) (ts : List Told) (n : ℕ) → n ≡ w.listener.missed → StandsForAll b ts w → n ≡ missed_count (readings_said b ts)
missed_as_heard w b ts n e s = e ∙ s.heard.listener.missed

pub unread_as_heard : (w : WatchValue) (b : Beginning) (ts : List Told) (n : ℕ) → n ≡ w.listener.unread → StandsForAll b ts w → n ≡ unread_overheard (readings_said b ts)
unread_as_heard w b ts n e s = e ∙ s.heard.listener.unread

pub time_as_heard : (w : WatchValue) (b : Beginning) (ts : List Told) (o : Option ℕ) → o ≡ w.lists.time → StandsForAll b ts w → o ≡ newest_time (all_said b ts).moments
time_as_heard w b ts o e s = e ∙ s.heard.time

pub kept_as_heard : (w : WatchValue) (b : Beginning) (ts : List Told) (n : ℕ) → n ≡ w.lists.kept → StandsForAll b ts w → n ≡ kept_heard b.selection b.contests (all_said b ts).moments
kept_as_heard w b ts n e s = e ∙ s.heard.kept

pub pairs_as_heard : (w : WatchValue) (b : Beginning) (ts : List Told) (n : ℕ) → n ≡ w.pairs → StandsForAll b ts w → n ≤ announcements_in (readings_said b ts)
pairs_as_heard w b ts n e s = subst (λ (k : ℕ). k ≤ announcements_in (readings_said b ts)) (sym e) s.heard.pairs

pub partly_as_heard : (w : WatchValue) (b : Beginning) (ts : List Told) (n : ℕ) → n ≡ w.partly → StandsForAll b ts w → n ≡ partly_heard b.partly (all_said b ts).moments
partly_as_heard w b ts n e s = e ∙ s.heard.partly

pub all_missed_as_heard : (w : WatchValue) (b : Beginning) (ts : List Told) (n : ℕ) → n ≡ missed_by w → StandsForAll b ts w → n ≡ counted (b.before.missed + missed_count (readings_said b ts))
all_missed_as_heard w b ts n e s =
    e ∙ (ap (λ (c : CountsBefore). counted (c.missed + w.listener.missed)) s.heard.before ∙ ap (λ (k : ℕ). counted (b.before.missed + k)) s.heard.listener.missed)

pub all_unread_as_heard : (w : WatchValue) (b : Beginning) (ts : List Told) (n : ℕ) → n ≡ unread_by w → StandsForAll b ts w → n ≡ counted (b.before.unread + unread_overheard (readings_said b ts))
all_unread_as_heard w b ts n e s =
    e ∙ (ap (λ (c : CountsBefore). counted (c.unread + w.listener.unread)) s.heard.before ∙ ap (λ (k : ℕ). counted (b.before.unread + k)) s.heard.listener.unread)

-- those half joined from one more source, and all
pub half_more : (w : WatchValue) (s count more : ℕ) → count ≡ half_from w s → more ≡ half_from_source w s → count + more ≡ half_from w (s + 1)
half_more w s count more e f = (let next : suc s ≡ s + 1 = omega arith in subst (λ (k : ℕ). count + more ≡ half_from w k) next (rw (e, f) refl))

pub half_all : (w : WatchValue) (s count : ℕ) → count ≡ half_from w s → s ≡ 256 → count ≡ half_in_all w
unfolding half_in_all
half_all w s count e same = e ∙ ap (half_from w) same

pub half_of_source : (w : WatchValue) (s d count : ℕ) → count ≡ half_below w s d → d ≡ 256 → count ≡ half_from_source w s
unfolding half_from_source
half_of_source w s d count e same = e ∙ ap (half_below w s) same
