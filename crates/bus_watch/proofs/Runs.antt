-- One more entry of a run, or one more run.
use Rattle.std.proofs.Common.{◌≡◌, ℕ, zero, suc, ◌+◌, ◌-◌, List, [], ◌∷◌, ◌++◌, length, Bool, true, false, if◌then◌else◌, Option, replicate, refl, sym, ap, subst, ◌∙◌, arith, append-nil}
use Rattle.std.specs.Prelude.{slice_index_or, slice_set, min, ◌^◌}
use Rattle.std.proofs.lemmas.List.{append_assoc, length-append, replicate-append-replicate}
use Rattle.bus_watch.specs.Runs.{Came, run_begun, run_goes_on, run_lengthened, unrolled, with_came}
use Rattle.bus_model.specs.Heard.{counted}
use Rattle.bus_watch.specs.declared.run.EntryRun.{EntryRun}
use Rattle.bus_watch.specs.declared.shown_entry.ShownEntry.{ShownEntry}
use Rattle.dm_messages.specs.declared.shown.Shown.{Shown}
use Rattle.dm_messages.specs.declared.trouble.Trouble.{Trouble}

-- what a run has entries of
abbrev entry_of_run : EntryRun → ShownEntry
entry_of_run r = record { to = r.to; shown = r.shown; trouble = r.trouble }

-- one more of equal entries stands behind them
one_behind : (n : ℕ) (v : ShownEntry) → replicate (n + 1) v ≡ replicate n v ++ v ∷ []
one_behind n v = sym (replicate-append-replicate n 1 v)

entry_is : (r : EntryRun) (e : ShownEntry) → r.to ≡ e.to → r.shown ≡ e.shown → r.trouble ≡ e.trouble → entry_of_run r ≡ e
entry_is r e to shown trouble =
    ap (λ (x : ℕ). record { to = x; shown = r.shown; trouble = r.trouble }) to
    ∙ (ap (λ (x : Shown). record { to = e.to; shown = x; trouble = r.trouble }) shown
    ∙ ap (λ (x : Option Trouble). record { to = e.to; shown = e.shown; trouble = x }) trouble)

last_more : (a r : EntryRun) (e : ShownEntry) → entry_of_run r ≡ e → r.times ≡ a.times + 1 → entry_of_run a ≡ e → unrolled (r ∷ []) ≡ unrolled (a ∷ []) ++ e ∷ []
last_more a r e same times there =
    append-nil (replicate r.times (entry_of_run r))
    ∙ (ap (λ (n : ℕ). replicate n (entry_of_run r)) times
    ∙ (ap (λ (v : ShownEntry). replicate (a.times + 1) v) same
    ∙ (one_behind a.times e
    ∙ (ap (λ (v : ShownEntry). replicate a.times v ++ e ∷ []) (sym there)
    ∙ ap (λ (l : List ShownEntry). l ++ e ∷ []) (sym (append-nil (replicate a.times (entry_of_run a))))))))

newest_more : (runs : List EntryRun) (i : ℕ) (r : EntryRun) (e : ShownEntry) → i + 1 ≡ length runs
    → entry_of_run r ≡ e → r.times ≡ (slice_index_or runs i r).times + 1 → entry_of_run (slice_index_or runs i r) ≡ e
    → unrolled (slice_set runs i r) ≡ unrolled runs ++ e ∷ []
newest_more [] i r e last same times there = absurd (omega (arith, last))
newest_more (a ∷ []) zero r e last same times there = last_more a r e same times there
newest_more (a ∷ []) (suc j) r e last same times there = absurd (omega (arith, last))
newest_more (a ∷ b ∷ runs) zero r e last same times there = absurd (omega (arith, last))
newest_more (a ∷ b ∷ runs) (suc j) r e last same times there =
    ap (λ (l : List ShownEntry). replicate a.times (entry_of_run a) ++ l) (newest_more (b ∷ runs) j r e (omega (arith, last)) same times there)
    ∙ sym (append_assoc (replicate a.times (entry_of_run a)) (unrolled (b ∷ runs)) (e ∷ []))

-- the newest run with one more entry
pub one_more : (runs : List EntryRun) (i : ℕ) (r : EntryRun) (e : ShownEntry) → i + 1 ≡ length runs
    → r.to ≡ e.to → r.shown ≡ e.shown → r.trouble ≡ e.trouble → r.times ≡ (slice_index_or runs i r).times + 1
    → (slice_index_or runs i r).to ≡ e.to → (slice_index_or runs i r).shown ≡ e.shown → (slice_index_or runs i r).trouble ≡ e.trouble
    → unrolled (slice_set runs i r) ≡ unrolled runs ++ e ∷ []
one_more runs i r e last to shown trouble times there same alike =
    newest_more runs i r e last (entry_is r e to shown trouble) times (entry_is (slice_index_or runs i r) e there same alike)

-- one run more, of one entry
pub one_run_more : (runs : List EntryRun) (r : EntryRun) (e : ShownEntry) → r.to ≡ e.to → r.shown ≡ e.shown → r.trouble ≡ e.trouble → r.times ≡ 1 → unrolled (runs ++ r ∷ []) ≡ unrolled runs ++ e ∷ []
one_run_more [] r e to shown trouble times = rw times (ap (λ (v : ShownEntry). v ∷ []) (entry_is r e to shown trouble))
one_run_more (a ∷ runs) r e to shown trouble times =
    ap (λ (l : List ShownEntry). replicate a.times (entry_of_run a) ++ l) (one_run_more runs r e to shown trouble times)
    ∙ sym (append_assoc (replicate a.times (entry_of_run a)) (unrolled runs) (e ∷ []))

-- how many entries there are with one more
pub counted_more : (before after : List ShownEntry) (v : ShownEntry) (n m : ℕ) → n ≡ counted (length before) → m ≡ min (n + 1) (2 ^ 64 - 1) → after ≡ before ++ v ∷ []
    → m ≡ counted (length after)
counted_more before after v n m was now e = rw (e, length-append before (v ∷ [])) (omega (arith, was, now))

-- ---- the newest run, and whether an entry goes on with it

pub newest_goes_on : (runs : List EntryRun) (i : ℕ) (a r : EntryRun) (e : Came) → i + 1 ≡ length runs → a ≡ slice_index_or runs i a
    → run_goes_on a e.what e.contested ≡ true → r ≡ run_lengthened a e → slice_set runs i r ≡ with_came runs e
newest_goes_on [] i a r e last is goes same = absurd (omega (arith, last))
newest_goes_on (x ∷ []) zero a r e last is goes same =
    ap (λ (y : EntryRun). y ∷ []) (same ∙ ap (λ (y : EntryRun). run_lengthened y e) is)
    ∙ sym (ap (λ (b : Bool). if b then run_lengthened x e ∷ [] else x ∷ run_begun e ∷ []) (subst (λ (y : EntryRun). run_goes_on y e.what e.contested ≡ true) is goes))
newest_goes_on (x ∷ []) (suc j) a r e last is goes same = absurd (omega (arith, last))
newest_goes_on (x ∷ y ∷ runs) zero a r e last is goes same = absurd (omega (arith, last))
newest_goes_on (x ∷ y ∷ runs) (suc j) a r e last is goes same = ap (λ (l : List EntryRun). x ∷ l) (newest_goes_on (y ∷ runs) j a r e (omega (arith, last)) is goes same)

pub newest_does_not : (runs : List EntryRun) (i : ℕ) (a : EntryRun) (e : Came) → i + 1 ≡ length runs → a ≡ slice_index_or runs i a
    → run_goes_on a e.what e.contested ≡ false → with_came runs e ≡ runs ++ run_begun e ∷ []
newest_does_not [] i a e last is not = absurd (omega (arith, last))
newest_does_not (x ∷ []) zero a e last is not =
    ap (λ (b : Bool). if b then run_lengthened x e ∷ [] else x ∷ run_begun e ∷ []) (subst (λ (y : EntryRun). run_goes_on y e.what e.contested ≡ false) is not)
newest_does_not (x ∷ []) (suc j) a e last is not = absurd (omega (arith, last))
newest_does_not (x ∷ y ∷ runs) zero a e last is not = absurd (omega (arith, last))
newest_does_not (x ∷ y ∷ runs) (suc j) a e last is not = ap (λ (l : List EntryRun). x ∷ l) (newest_does_not (y ∷ runs) j a e (omega (arith, last)) is not)

pub none_yet : (runs : List EntryRun) (e : Came) → length runs ≡ 0 → with_came runs e ≡ runs ++ run_begun e ∷ []
none_yet [] e none = refl
none_yet (a ∷ runs) e none = absurd (omega (arith, none))
