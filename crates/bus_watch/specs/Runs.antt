-- Runs of equal entries, and the lists that they stand for.
use Rattle.std.specs.Prelude.{◌≡◌, ℕ, Bool, true, false, ◌&&◌, ◌||◌, ◌==◌, ◌+◌, ◌-◌, ◌^◌, not, List, [], ◌∷◌, ◌++◌, Option, Some, None, if◌then◌else◌, is_some, length, map, nat_le, nat_lt, replicate, slice_index_or}
use Rattle.std.specs.Cmp.Lexicographic.{pointwise}
use Rattle.std.specs.List.{list_any}
use Rattle.std.specs.Map.{lookup}
use Rattle.std.specs.Option.{option_map_or}
use Rattle.std.specs.Ordering.{eq_by_cmp}
use Rattle.bus_model.specs.Heard.{counted}
use Rattle.bus_model.specs.Overheard.{same_who}
use Rattle.bus_model.specs.OverheardChanged.{change_overheard}
use Rattle.bus_model.specs.declared.who.Who.{Who}
use Rattle.bus_model.specs.declared.who.Who.TheVariants as who
use Rattle.can_frame.specs.declared.address.TheConstants.{GLOBAL_ADDRESS}
use Rattle.can_frame.specs.declared.reading.Reading.{Reading}
use Rattle.dm_messages.specs.View.{same_kind}
use Rattle.dm_messages.specs.declared.kind.Kind.{Kind}
use Rattle.dm_messages.specs.declared.kind.Kind.TheVariants.{Dm1, Dm2, Dm6}
use Rattle.dm_messages.specs.declared.shown.Shown.{Shown}
use Rattle.dm_messages.specs.declared.trouble.Trouble.{Trouble}
pub use Rattle.listener.specs.NewestSent.{with_unit}
use Rattle.listener.specs.SentEntries.{entry_sent}
use Rattle.listener.specs.declared.entry.SentEntry.{SentEntry}
use Rattle.bus_watch.specs.contracts.key.KeyOrd.TheImpl as key_order
use Rattle.bus_watch.specs.declared.key.Key.{Key}
use Rattle.bus_watch.specs.declared.key.Key.TheVariants as key
use Rattle.bus_watch.specs.declared.run.EntryRun.{EntryRun}
use Rattle.bus_watch.specs.declared.shown_entry.ShownEntry.{ShownEntry}
use Rattle.trouble_code.specs.Code.{same_code}
use Rattle.bus_watch.specs.Contested.{contests_after, is_contested, no_contests}
use Rattle.bus_watch.specs.Methods.{entry_by_method, with_entry_shown}
use Rattle.bus_watch.specs.declared.selection.Selection.{Selection}
use Rattle.bus_watch.specs.declared.selection.UnitShown.{UnitShown}
use Rattle.bus_watch.specs.declared.selection.UnitShown.TheVariants.{Name, Address}

-- the entries of some runs, one run after another
abbrev pub unrolled : List EntryRun → List ShownEntry
unrolled [] = []
unrolled (r ∷ later) = replicate r.times (record { to = r.to; shown = r.shown; trouble = r.trouble }) ++ unrolled later

-- an entry that is shown, when it came, and whether it is contested
pub record Came : Type 0 where
  pub what : ShownEntry
  pub time : Option ℕ
  pub contested : Bool

abbrev pub same_answer : Bool → Bool → Bool
same_answer true b = b
same_answer false b = not b

abbrev pub same_shown : Shown → Shown → Bool
same_shown v w = ((v.lamps.lamps == w.lamps.lamps) && (v.lamps.flashes == w.lamps.flashes)) && pointwise same_code v.codes w.codes

-- what is not read of both is the same
abbrev pub same_trouble : Option Trouble → Option Trouble → Bool
same_trouble None None = true
same_trouble (Some t) (Some u) =
    ((((t.padding == u.padding && t.no_code == u.no_code) && t.older == u.older) && t.converted == u.converted) && t.behind == u.behind) && t.missing == u.missing
same_trouble _ _ = false

-- an entry goes on with a run where it shows the same, went to the same address, and is contested or not as that is, while it can be counted
abbrev pub run_goes_on : EntryRun → ShownEntry → Bool → Bool
run_goes_on r e contested =
    (((nat_lt r.times (2 ^ 64 - 1) && same_answer r.contested contested) && r.to == e.to) && same_trouble r.trouble e.trouble) && same_shown r.shown e.shown

abbrev pub run_lengthened : EntryRun → Came → EntryRun
run_lengthened r e = record r { times = r.times + 1; last = e.time }

abbrev pub run_begun : Came → EntryRun
run_begun e = record { shown = e.what.shown; to = e.what.to; times = 1; first = e.time; last = e.time; trouble = e.what.trouble; contested = e.contested }

-- runs with one more entry: it goes on with the newest of them, or begins one
abbrev pub with_came : List EntryRun → Came → List EntryRun
with_came [] e = run_begun e ∷ []
with_came (r ∷ []) e = if run_goes_on r e.what e.contested then run_lengthened r e ∷ [] else r ∷ run_begun e ∷ []
with_came (r ∷ s ∷ later) e = r ∷ with_came (s ∷ later) e

-- the runs of entries, newest first
abbrev pub runs_by : List Came → List EntryRun
runs_by [] = []
runs_by (e ∷ older) = with_came (runs_by older) e

-- whether there are more runs than before: one has begun
unfoldable pub has_begun : List EntryRun → List EntryRun → Bool
has_begun before after = nat_lt (length before) (length after)

-- for how many an entry of so many codes counts that begins one: for one of each, and for one at least
abbrev pub runs_of_codes : ℕ → ℕ
runs_of_codes codes = if codes == 0 then 1 else codes

-- how many there are in all lists together, once an entry of so many codes has begun one or not
abbrev pub kept_after : Bool → ℕ → ℕ → ℕ
kept_after begun codes kept = if begun then counted (kept + runs_of_codes codes) else kept

-- the runs of a unit, of each kind
pub record UnitValue : Type 0 where
  pub dm1 : List EntryRun
  pub dm2 : List EntryRun
  pub dm6 : List EntryRun

abbrev pub no_runs : UnitValue
no_runs = record { dm1 = []; dm2 = []; dm6 = [] }

abbrev pub runs_of : UnitValue → Kind → List EntryRun
runs_of u Dm1 = u.dm1
runs_of u Dm2 = u.dm2
runs_of u Dm6 = u.dm6

-- a unit as a key, and back
abbrev pub key_of : Who → Key
key_of (who.Named n) = key.Named n
key_of (who.Unclaimed a gaps) = key.Unclaimed a gaps

abbrev pub who_of : Key → Who
who_of (key.Named n) = who.Named n
who_of (key.Unclaimed a gaps) = who.Unclaimed a gaps

abbrev pub same_key : Key → Key → Bool
same_key = eq_by_cmp (key_order.ghosts).cmp

-- the units that have runs, in the order of their first entries, and the runs of each, in the order of the keys
pub record UnitsValue : Type 0 where
  pub order : List Key
  pub runs : List (Key × UnitValue)

abbrev pub no_units : UnitsValue
no_units = record { order = []; runs = [] }

-- those that have runs are those in the order
abbrev pub HasOrder : UnitsValue → Type 0
HasOrder units = (q : Key) → list_any (same_key q) units.order ≡ is_some (lookup (same_key q) units.runs)

-- the runs of a unit and kind, none where it has none
abbrev pub runs_in : UnitsValue → Who → Kind → List EntryRun
runs_in units w k = option_map_or (λ u. runs_of u k) (lookup (same_key (key_of w)) units.runs) []

-- the units that have some
abbrev pub units_of : UnitsValue → List Who
units_of units = map who_of units.order

-- the runs of each unit, in the order of the units' first entries; whether the newest entry began one; what is shown; the time of the newest
-- line that has one; when a claim of each address last displaced another NAME; and how many runs there are
pub record ListsValue : Type 0 where
  pub units : UnitsValue
  pub began : Bool
  pub selection : Selection
  pub time : Option ℕ
  pub contests : List (Option ℕ)
  pub kept : ℕ

-- no runs of any unit
abbrev pub none_listed : Selection → ListsValue
none_listed selection = record { units = no_units; began = false; selection = selection; time = None; contests = no_contests; kept = 0 }

-- the runs of a unit and kind
abbrev pub runs_under : ListsValue → Who → Kind → List EntryRun
runs_under lists w k = runs_in lists.units w k

-- and their entries
abbrev pub entries_in : ListsValue → Who → Kind → List ShownEntry
entries_in lists w k = unrolled (runs_under lists w k)

-- the units that have entries
abbrev pub units_in : ListsValue → List Who
units_in lists = units_of lists.units

-- ---- what is shown

-- a message to all is shown, and one to this address, where there is one; else all are
abbrev pub is_shown_to : Option ℕ → ℕ → Bool
is_shown_to None to = true
is_shown_to (Some address) to = to == GLOBAL_ADDRESS || to == address

-- a message of a NAME is shown, and one of an address that nobody claimed where those are
abbrev pub is_shown_of : Bool → Who → Bool
is_shown_of unclaimed (who.Named n) = true
is_shown_of unclaimed (who.Unclaimed a gaps) = unclaimed

abbrev pub is_of_name : ℕ → Who → Bool
is_of_name n (who.Named m) = n == m
is_of_name n (who.Unclaimed a gaps) = false

-- what a unit sends from an address is shown where it is of the NAME that is asked for, or comes from that address; else all is
abbrev pub is_of_unit : Option UnitShown → Who → ℕ → Bool
is_of_unit None w source = true
is_of_unit (Some (Name n)) w source = is_of_name n w
is_of_unit (Some (Address a)) w source = source == a

-- a time is shown from the first to the last that is asked for; and what has none
abbrev pub is_since : Option ℕ → ℕ → Bool
is_since None time = true
is_since (Some first) time = nat_le first time

abbrev pub is_until : Option ℕ → ℕ → Bool
is_until None time = true
is_until (Some last) time = nat_le time last

abbrev pub is_shown_at : Option ℕ → Option ℕ → Option ℕ → Bool
is_shown_at first last None = true
is_shown_at first last (Some time) = is_since first time && is_until last time

-- so an entry that came at this time is
abbrev pub is_shown : Selection → Option ℕ → SentEntry → Bool
is_shown s time e = ((is_shown_of s.unclaimed e.who && is_shown_to s.address e.to) && is_of_unit s.unit e.who e.source) && is_shown_at s.from s.to time

-- an entry, if there is one and it is shown
abbrev pub if_shown : Selection → Option ℕ → Option SentEntry → Option SentEntry
if_shown s time None = None
if_shown s time (Some e) = if is_shown s time e then Some e else None

-- ---- over what was read

-- a reading, and its time: that of the newest line of the bus that has one
pub record Moment : Type 0 where
  pub reading : Reading
  pub time : Option ℕ

abbrev pub readings_in : List Moment → List Reading
readings_in [] = []
readings_in (m ∷ older) = m.reading ∷ readings_in older

-- the time of the newest of them
abbrev pub newest_time : List Moment → Option ℕ
newest_time [] = None
newest_time (m ∷ older) = m.time

-- a line's own time, or else the one before
abbrev pub time_after : Option ℕ → Option ℕ → Option ℕ
time_after None before = before
time_after (Some time) before = Some time

-- one more reading, from a line with this time or with none
abbrev pub with_moment : Reading → Option ℕ → List Moment → List Moment
with_moment reading time older = record { reading = reading; time = time_after time (newest_time older) } ∷ older

-- the entry that a reading lists with those before it, where it is shown
abbrev pub entry_selected : Selection → Moment → List Moment → Option SentEntry
entry_selected s m older = if_shown s m.time (entry_sent m.reading (readings_in older))

-- each list, oldest first: of each reading the entry that it lists, where that is shown
abbrev pub lists_shown : Selection → List Moment → Who → Kind → List ShownEntry
lists_shown s [] w k = []
lists_shown s (m ∷ older) w k = with_entry_shown s.methods (entry_selected s m older) (lists_shown s older) w k

-- when a claim of each address last displaced another NAME, with these before all
abbrev pub contests_heard : List (Option ℕ) → List Moment → List (Option ℕ)
contests_heard first [] = first
contests_heard first (m ∷ older) = contests_after m.time (change_overheard m.reading (readings_in older)) (contests_heard first older)

-- an entry that came at this time
abbrev pub came_at : Selection → List (Option ℕ) → Option ℕ → SentEntry → Came
came_at s contests time e = record { what = entry_by_method s.methods e; time = time; contested = is_contested (slice_index_or contests e.source None) time }

-- entries, newest first, with one of this list before them, if there is one
abbrev pub with_came_at : Selection → List (Option ℕ) → Option ℕ → Option SentEntry → Who → Kind → List Came → List Came
with_came_at s contests time None w k came = came
with_came_at s contests time (Some e) w k came = if same_who e.who w && same_kind e.kind k then came_at s contests time e ∷ came else came

-- those of each list that are shown, as they came
abbrev pub entries_came : Selection → List (Option ℕ) → List Moment → Who → Kind → List Came
entries_came s first [] w k = []
entries_came s first (m ∷ older) w k = with_came_at s (contests_heard first older) m.time (entry_selected s m older) w k (entries_came s first older w k)

-- runs of a list with one more entry, if it is of that list
abbrev pub with_run_at : Selection → List (Option ℕ) → Option ℕ → Option SentEntry → Who → Kind → List EntryRun → List EntryRun
with_run_at s contests time None w k runs = runs
with_run_at s contests time (Some e) w k runs = if same_who e.who w && same_kind e.kind k then with_came runs (came_at s contests time e) else runs

-- how many runs there are with one more entry
abbrev pub kept_with : Selection → List (Option ℕ) → Option ℕ → Option SentEntry → (Who → Kind → List EntryRun) → ℕ → ℕ
kept_with s contests time None runs kept = kept
kept_with s contests time (Some e) runs kept =
    kept_after (has_begun (runs e.who e.kind) (with_came (runs e.who e.kind) (came_at s contests time e))) (length (came_at s contests time e).what.shown.codes) kept

-- of the entries as they came
abbrev pub kept_heard : Selection → List (Option ℕ) → List Moment → ℕ
kept_heard s first [] = 0
kept_heard s first (m ∷ older) =
    kept_with s (contests_heard first older) m.time (entry_selected s m older) (λ w k. runs_by (entries_came s first older w k)) (kept_heard s first older)

-- the units with that of an entry behind them, if there is one and it is none of them yet
abbrev pub with_unit_of : Option SentEntry → List Who → List Who
with_unit_of None units = units
with_unit_of (Some e) units = with_unit e.who units

-- the units of which an entry is shown, in the order of their first ones
abbrev pub units_shown : Selection → List Moment → List Who
units_shown s [] = []
units_shown s (m ∷ older) = with_unit_of (entry_selected s m older) (units_shown s older)

-- whether a run of a unit's list has begun
abbrev pub run_begun_by : ListsValue → ListsValue → Who → Kind → Bool
run_begun_by before after w k = has_begun (runs_under before w k) (runs_under after w k)

-- an entry was put: its list has one more, where it is shown, and it is known whether a run of that list has begun
pub record HasRuns (before : ListsValue) (e : SentEntry) (after : ListsValue) : Type 0 where
  pub entries : (w : Who) (k : Kind) → entries_in after w k ≡ with_entry_shown before.selection.methods (if_shown before.selection before.time (Some e)) (entries_in before) w k
  pub units : units_in after ≡ with_unit_of (if_shown before.selection before.time (Some e)) (units_in before)
  pub runs : (w : Who) (k : Kind) → runs_under after w k
      ≡ with_run_at before.selection before.contests before.time (if_shown before.selection before.time (Some e)) w k (runs_under before w k)
  pub selection : after.selection ≡ before.selection
  pub time : after.time ≡ before.time
  pub contests : after.contests ≡ before.contests
  pub kept : after.kept ≡ kept_with before.selection before.contests before.time (if_shown before.selection before.time (Some e)) (runs_under before) before.kept
  pub began : after.began ≡ run_begun_by before after e.who e.kind
