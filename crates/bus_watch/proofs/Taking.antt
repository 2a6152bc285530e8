-- A watch after a reading: its listener has taken it, and each list has the entry that it lists.
use Rattle.std.proofs.Common.{◌≡◌, ◌≤◌, ◌+◌, ◌&&◌, ℕ, Bool, List, ◌∷◌, Option, Some, None, refl, sym, ap, ◌∙◌, subst, if◌then◌else◌, true, false, arith}
use Rattle.bus_model.specs.OverheardChanged.{change_overheard}
use Rattle.bus_model.specs.declared.overheard.Overheard.{Overheard}
use Rattle.bus_model.specs.declared.overheard.Overheard.TheVariants.{Nothing, Claimed, GaveUp, Acknowledged, Listed, ListedInPart, Unreadable, Unowned, Missed}
use Rattle.bus_model.specs.declared.who.Who.{Who}
use Rattle.can_frame.specs.FrameValue.{FrameValue}
use Rattle.can_frame.specs.declared.reading.Reading.{Reading}
use Rattle.can_frame.specs.declared.reading.Reading.TheVariants.{Frame, Gap, Empty}
use Rattle.dm_messages.specs.declared.kind.Kind.{Kind}
use Rattle.parameter_group.specs.Group.{Acknowledgment, AddressClaimed, CannotClaim, ConnectionManagement, DataTransfer, Diagnostic, Group, Other, Request, group_of}
use Rattle.listener.specs.ListenerValue.{HasOverheard, ListenerValue}
use Rattle.listener.specs.SentEntries.{HasTaken, SaysSent, entry_sent}
use Rattle.listener.specs.declared.entry.SentEntry.{SentEntry}
use Rattle.listener.proofs.Entering.{listed_by_group}
use Rattle.listener.proofs.Stands.{stands_by_group}
use Rattle.listener.proofs.Told.{heard_by_group}
use Rattle.listener.specs.Paced.{fate_by, half_in, reading_if}
use Rattle.bus_watch.specs.Followed.{Followed, followed_with, frame_reading}
use Rattle.bus_watch.specs.Methods.{with_entry_shown}
use Rattle.bus_watch.specs.declared.methods.UnitMethod.{UnitMethod}
use Rattle.bus_watch.specs.declared.shown_entry.ShownEntry.{ShownEntry}
use Rattle.bus_watch.specs.Contested.{contests_after}
use Rattle.bus_watch.specs.Counted.{partly_after}
use Rattle.bus_watch.specs.declared.run.EntryRun.{EntryRun}
use Rattle.bus_model.specs.Overheard.{HalfSent, same_who}
use Rattle.reassembly.specs.declared.pacing.Pace.{Pace}
use Rattle.reassembly.specs.declared.pacing.Silence.{Silence}
use Rattle.dm_messages.specs.View.{same_kind}
use Rattle.bus_watch.specs.Runs.{Came, HasRuns, ListsValue, Moment, came_at, contests_heard, entries_came, entries_in, kept_heard, kept_with, runs_by, runs_under, with_came, with_came_at, with_run_at, if_shown, lists_shown, newest_time, readings_in, run_begun_by, time_after, units_in, with_moment, with_unit_of}
use Rattle.bus_watch.specs.Tellings.{is_news, is_told, news_by, nothing_told, told_after, told_heard, told_of}
use Rattle.bus_watch.specs.WatchValue.{Beginning, CountsBefore, StandsInRuns, Takes, Tells, WatchValue, announcements_by, announcements_in, noted_in, partly_heard}
use Rattle.bus_watch.specs.declared.change.Changes.{Changes}
use Rattle.bus_watch.specs.Identified.{IdentifiedValue}
use Rattle.bus_watch.specs.declared.selection.Selection.{Selection}

-- lists at the time of a line, if it has one
abbrev pub at_time : Option ℕ → ListsValue → ListsValue
at_time time lists = record lists { time = time_after time lists.time }

-- the runs of each list once an entry was put, if one was
put_in_runs : (before after : ListsValue) (o : Option SentEntry) → HasTaken HasRuns before o after → (w : Who) (k : Kind)
    → entries_in after w k ≡ with_entry_shown before.selection.methods (if_shown before.selection before.time o) (entries_in before) w k
put_in_runs before after None same w k = ap (λ (l : ListsValue). entries_in l w k) same
put_in_runs before after (Some e) put w k = put.entries w k

-- and the units that have some
put_in_units : (before after : ListsValue) (o : Option SentEntry) → HasTaken HasRuns before o after → units_in after ≡ with_unit_of (if_shown before.selection before.time o) (units_in before)
put_in_units before after None same = ap units_in same
put_in_units before after (Some e) put = put.units

-- the runs
put_as_came : (before after : ListsValue) (o : Option SentEntry) → HasTaken HasRuns before o after → (w : Who) (k : Kind)
    → runs_under after w k ≡ with_run_at before.selection before.contests before.time (if_shown before.selection before.time o) w k (runs_under before w k)
put_as_came before after None same w k = ap (λ (l : ListsValue). runs_under l w k) same
put_as_came before after (Some e) put w k = put.runs w k

-- the runs of the entries with one more
came_more : (s : Selection) (contests : List (Option ℕ)) (time : Option ℕ) (o : Option SentEntry) (w : Who) (k : Kind) (came : List Came)
    → with_run_at s contests time o w k (runs_by came) ≡ runs_by (with_came_at s contests time o w k came)
came_more s contests time None w k came = refl
came_more s contests time (Some e) w k came = go (same_who e.who w && same_kind e.kind k)
  where
    go : (b : Bool) → (if b then with_came (runs_by came) (came_at s contests time e) else runs_by came) ≡ runs_by (if b then came_at s contests time e ∷ came else came)
    go true = refl
    go false = refl

contests_stay : (before after : ListsValue) (o : Option SentEntry) → HasTaken HasRuns before o after → after.contests ≡ before.contests
contests_stay before after None same = ap (λ (l : ListsValue). l.contests) same
contests_stay before after (Some e) put = put.contests

selection_stays : (before after : ListsValue) (o : Option SentEntry) → HasTaken HasRuns before o after → after.selection ≡ before.selection
selection_stays before after None same = ap (λ (l : ListsValue). l.selection) same
selection_stays before after (Some e) put = put.selection

time_stays : (before after : ListsValue) (o : Option SentEntry) → HasTaken HasRuns before o after → after.time ≡ before.time
time_stays before after None same = ap (λ (l : ListsValue). l.time) same
time_stays before after (Some e) put = put.time

-- how many runs there are
kept_put : (before after : ListsValue) (o : Option SentEntry) → HasTaken HasRuns before o after
    → after.kept ≡ kept_with before.selection before.contests before.time (if_shown before.selection before.time o) (runs_under before) before.kept
kept_put before after None same = ap (λ (l : ListsValue). l.kept) same
kept_put before after (Some e) put = put.kept

kept_same : (s : Selection) (contests : List (Option ℕ)) (time : Option ℕ) (o : Option SentEntry) (one other : Who → Kind → List EntryRun) (kept : ℕ)
    → ((w : Who) (k : Kind) → one w k ≡ other w k) → kept_with s contests time o one kept ≡ kept_with s contests time o other kept
kept_same s contests time None one other kept same = refl
kept_same s contests time (Some e) one other kept same = rw (same e.who e.kind) refl

-- the same of two lists that are the same
listed_same : (methods : List (Option UnitMethod)) (one other : Who → Kind → List ShownEntry) (o : Option SentEntry) (w : Who) (k : Kind) → one w k ≡ other w k → with_entry_shown methods o one w k ≡ with_entry_shown methods o other w k
listed_same methods one other None w k same = same
listed_same methods one other (Some e) w k same = rw (same) refl

-- a list that gets an entry, and whether a run of it has begun
run_begun : (before after : ListsValue) (entry : Option SentEntry) (who : Who) (kind : Kind) (e : SentEntry) → entry ≡ Some e → e.who ≡ who → e.kind ≡ kind → HasTaken HasRuns before entry after
    → after.began ≡ run_begun_by before after who kind
run_begun before after entry who kind e is ew ek put =
    let one : HasRuns before e after = subst (λ (o : Option SentEntry). HasTaken HasRuns before o after) is put in
    one.began ∙ (ap (λ (w : Who). run_begun_by before after w e.kind) ew ∙ ap (λ (k : Kind). run_begun_by before after who k) ek)

-- whether a change is news
news_same : (told : List Bool) (lists after : ListsValue) (time : Option ℕ) (entry : Option SentEntry) (c : Overheard) → SaysSent c entry → HasTaken HasRuns (at_time time lists) entry after
    → news_by told after.selection after.time after.began c ≡ is_news told lists after c
news_same told lists after time entry c says put = ap (λ (s : Selection). news_by told s after.time after.began c) (selection_stays (at_time time lists) after entry put) ∙ go c says
  where
    go : (c : Overheard) → SaysSent c entry → news_by told lists.selection after.time after.began c ≡ is_news told lists after c
    go (Listed who kind source to) says =
        ap (λ (b : Bool). news_by told lists.selection after.time b (Listed who kind source to)) (run_begun (at_time time lists) after entry who kind says.0 says.1 says.2 says.3 put)
    go (ListedInPart who kind source to) says =
        ap (λ (b : Bool). news_by told lists.selection after.time b (ListedInPart who kind source to)) (run_begun (at_time time lists) after entry who kind says.0 says.1 says.2 says.3 put)
    go (Acknowledged m c p a q d again) says = refl
    go Nothing says = refl
    go (Claimed m a d) says = refl
    go (GaveUp m) says = refl
    go (Unreadable m l a d why) says = refl
    go (Unowned l a) says = refl
    go (Missed m) says = refl

-- what the listener's call said of a reading
pub record IsRead (s t : ListenerValue) (before after : ListsValue) (x : Reading) (c : Overheard) : Type 0 where
  pub stands : (h : List Reading) → HasOverheard s h → HasOverheard t (x ∷ h)
  pub heard : (h : List Reading) → HasOverheard s h → c ≡ change_overheard x h
  pub listed : (h : List Reading) → HasOverheard s h → HasTaken HasRuns before (entry_sent x h) after

-- a watch once its listener has taken a reading, and it is noted what that told, known of the bus, and announced
abbrev pub noted : ListenerValue → ListsValue → Overheard → Followed → ℕ → WatchValue → WatchValue
noted listener lists c f pairs w = record w {
  listener = listener;
  lists = noted_in c lists;
  followed = f;
  told = told_after (is_told lists.selection lists.time c) c w.told;
  partly = partly_after c w.partly;
  pairs = pairs;
}

-- by a reading no more pairs are counted than it announces
abbrev IsCounted : ℕ → ℕ → Reading → Type 0
IsCounted before after x = (h : List Reading) → before ≤ announcements_in h → after ≤ announcements_in (x ∷ h)

not_fewer : (x : Reading) (h : List Reading) → announcements_in h ≤ announcements_in (x ∷ h)
not_fewer (Gap n) h = omega arith
not_fewer Empty h = omega arith
not_fewer (Frame f) h = omega arith

as_many : (n : ℕ) (x : Reading) → IsCounted n n x
as_many n x h le = let more = not_fewer x h in omega (arith, le, more)

-- a reading is taken
takes : (start old new : WatchValue) (t : ListenerValue) (after : ListsValue) (x : Reading) (time : Option ℕ) (c : Overheard) (f : Followed) (pairs : ℕ) → start ≡ old
    → IsRead start.listener t (at_time time start.lists) after x c → new ≡ noted t after c f pairs start → IsCounted start.pairs pairs x → Takes old new x time f
takes start old new t after x time c f pairs same read e counts = subst (λ (w : WatchValue). Takes w new x time f) same (subst (λ (w : WatchValue). Takes start w x time f) (sym e) (record {
  stands = λ b h s. taken b h s;
  followed = refl;
}))
  where
    taken : (b : Beginning) (h : List Moment) → StandsInRuns b start h → StandsInRuns b (noted t after c f pairs start) (with_moment x time h)
    taken b h s =
        let v = b.selection in
        let d = b.contests in
        let older = readings_in h in
        let put : HasTaken HasRuns (at_time time start.lists) (entry_sent x older) after = read.listed older s.listener in
        let at : time_after time start.lists.time ≡ time_after time (newest_time h) = ap (time_after time) s.time in
        let o : if_shown start.lists.selection (time_after time start.lists.time) (entry_sent x older) ≡ if_shown v (time_after time (newest_time h)) (entry_sent x older) =
        ap (λ (a : Selection). if_shown a (time_after time start.lists.time) (entry_sent x older)) s.shows ∙ ap (λ (n : Option ℕ). if_shown v n (entry_sent x older)) at in
        let shows : after.selection ≡ v = selection_stays (at_time time start.lists) after (entry_sent x older) put ∙ s.shows in
        let now : after.time ≡ time_after time (newest_time h) = time_stays (at_time time start.lists) after (entry_sent x older) put ∙ at in
        record {
          listener = read.stands older s.listener;
          shows = shows;
          time = now;
          contests = ap (λ (n : Option ℕ). contests_after n c after.contests) now
              ∙ (ap (λ (l : List (Option ℕ)). contests_after (time_after time (newest_time h)) c l) (contests_stay (at_time time start.lists) after (entry_sent x older) put ∙ s.contests)
              ∙ ap (λ (o : Overheard). contests_after (time_after time (newest_time h)) o (contests_heard d h)) (read.heard older s.listener));
          runs = λ n k. put_as_came (at_time time start.lists) after (entry_sent x older) put n k
              ∙ (ap (λ (e : Option SentEntry). with_run_at start.lists.selection start.lists.contests (time_after time start.lists.time) e n k (runs_under start.lists n k)) o
              ∙ (ap (λ (a : Selection). with_run_at a start.lists.contests (time_after time start.lists.time) (if_shown v (time_after time (newest_time h)) (entry_sent x older)) n k (runs_under start.lists n k)) s.shows
              ∙ (ap (λ (l : List (Option ℕ)). with_run_at v l (time_after time start.lists.time) (if_shown v (time_after time (newest_time h)) (entry_sent x older)) n k (runs_under start.lists n k)) s.contests
              ∙ (ap (λ (m : Option ℕ). with_run_at v (contests_heard d h) m (if_shown v (time_after time (newest_time h)) (entry_sent x older)) n k (runs_under start.lists n k)) at
              ∙ (ap (λ (l : List EntryRun). with_run_at v (contests_heard d h) (time_after time (newest_time h)) (if_shown v (time_after time (newest_time h)) (entry_sent x older)) n k l) (s.runs n k)
              ∙ came_more v (contests_heard d h) (time_after time (newest_time h)) (if_shown v (time_after time (newest_time h)) (entry_sent x older)) n k (entries_came v d h n k))))));
          kept = kept_put (at_time time start.lists) after (entry_sent x older) put
              ∙ (ap (λ (e : Option SentEntry). kept_with start.lists.selection start.lists.contests (time_after time start.lists.time) e (runs_under start.lists) start.lists.kept) o
              ∙ (ap (λ (a : Selection). kept_with a start.lists.contests (time_after time start.lists.time) (if_shown v (time_after time (newest_time h)) (entry_sent x older)) (runs_under start.lists) start.lists.kept) s.shows
              ∙ (ap (λ (l : List (Option ℕ)). kept_with v l (time_after time start.lists.time) (if_shown v (time_after time (newest_time h)) (entry_sent x older)) (runs_under start.lists) start.lists.kept) s.contests
              ∙ (ap (λ (m : Option ℕ). kept_with v (contests_heard d h) m (if_shown v (time_after time (newest_time h)) (entry_sent x older)) (runs_under start.lists) start.lists.kept) at
              ∙ (ap (λ (n : ℕ). kept_with v (contests_heard d h) (time_after time (newest_time h)) (if_shown v (time_after time (newest_time h)) (entry_sent x older)) (runs_under start.lists) n) s.kept
              ∙ kept_same v (contests_heard d h) (time_after time (newest_time h)) (if_shown v (time_after time (newest_time h)) (entry_sent x older)) (runs_under start.lists) (λ n k. runs_by (entries_came v d h n k)) (kept_heard v d h) s.runs)))));
          lists = λ n k. put_in_runs (at_time time start.lists) after (entry_sent x older) put n k
              ∙ (ap (λ (e : Option SentEntry). with_entry_shown start.lists.selection.methods e (entries_in start.lists) n k) o
              ∙ (ap (λ (a : Selection). with_entry_shown a.methods (if_shown v (time_after time (newest_time h)) (entry_sent x older)) (entries_in start.lists) n k) s.shows
              ∙ listed_same v.methods (entries_in start.lists) (lists_shown v h) (if_shown v (time_after time (newest_time h)) (entry_sent x older)) n k (s.lists n k)));
          units = put_in_units (at_time time start.lists) after (entry_sent x older) put
              ∙ (ap (λ (e : Option SentEntry). with_unit_of e (units_in start.lists)) o
              ∙ ap (λ (l : List Who). with_unit_of (if_shown v (time_after time (newest_time h)) (entry_sent x older)) l) s.units);
          told = ap (λ (a : Selection). told_after (is_told a after.time c) c start.told) shows
              ∙ (ap (λ (n : Option ℕ). told_after (is_told v n c) c start.told) now
              ∙ (ap (λ (l : List Bool). told_after (is_told v (time_after time (newest_time h)) c) c l) s.told
              ∙ ap (λ (d : Overheard). told_after (is_told v (time_after time (newest_time h)) d) d (told_heard v h)) (read.heard older s.listener)));
          before = s.before;
          partly = ap (partly_after c) s.partly ∙ ap (λ (o : Overheard). partly_after o (partly_heard b.partly h)) (read.heard older s.listener);
          pairs = counts older s.pairs;
        }

-- and what is told is of what it changed
tells : (start old new : WatchValue) (t : ListenerValue) (after : ListsValue) (x : Reading) (time : Option ℕ) (c : Overheard) (f : Followed) (pairs : ℕ) (entry : Option SentEntry) (told : Changes) → start ≡ old
    → IsRead start.listener t (at_time time start.lists) after x c → SaysSent c entry → HasTaken HasRuns (at_time time start.lists) entry after
    → new ≡ noted t after c f pairs start → told ≡ told_of after.selection.unclaimed (news_by start.told after.selection after.time after.began c) c → Tells old new x told
tells start old new t after x time c f pairs entry told same read says put e is = subst (λ (w : WatchValue). Tells w new x told) same (λ b h s.
    let v = b.selection in
    is
    ∙ (ap (λ (a : Selection). told_of a.unclaimed (news_by start.told after.selection after.time after.began c) c) (selection_stays (at_time time start.lists) after entry put ∙ s.shows)
    ∙ (ap (λ (n : Bool). told_of v.unclaimed n c) (news_same start.told start.lists after time entry c says put)
    ∙ (ap (λ (o : Overheard). told_of v.unclaimed (is_news start.told start.lists after o) o) (read.heard (readings_in h) s.listener)
    ∙ ap (λ (w : WatchValue). told_of v.unclaimed (is_news start.told start.lists w.lists (change_overheard x (readings_in h))) (change_overheard x (readings_in h))) (sym e)))))

-- the same where the lists were at that time before
pub takes_from : (start old new : WatchValue) (t : ListenerValue) (mid after : ListsValue) (x : Reading) (time : Option ℕ) (c : Overheard) (f : Followed) → start ≡ old → mid ≡ at_time time start.lists
    → IsRead start.listener t mid after x c → new ≡ noted t after c f start.pairs start → f ≡ start.followed → Takes old new x time old.followed
takes_from start old new t mid after x time c f same at read e known =
    subst (λ (k : Followed). Takes old new x time k) (known ∙ ap (λ (w : WatchValue). w.followed) same)
    (takes start old new t after x time c f start.pairs same (subst (λ (l : ListsValue). IsRead start.listener t l after x c) at read) e (as_many start.pairs x))

pub tells_from : (start old new : WatchValue) (t : ListenerValue) (mid after : ListsValue) (x : Reading) (time : Option ℕ) (c : Overheard) (f : Followed) (entry : Option SentEntry) (told : Changes) → start ≡ old
    → mid ≡ at_time time start.lists → IsRead start.listener t mid after x c → SaysSent c entry → HasTaken HasRuns mid entry after
    → new ≡ noted t after c f start.pairs start → told ≡ told_of after.selection.unclaimed (news_by start.told after.selection after.time after.began c) c → Tells old new x told
tells_from start old new t mid after x time c f entry told same at read says put e is =
    tells start old new t after x time c f start.pairs entry told same (subst (λ (l : ListsValue). IsRead start.listener t l after x c) at read) says
    (subst (λ (l : ListsValue). HasTaken HasRuns l entry after) at put) e is

-- ---- a frame, which is read or not

-- the reading that it is, by what it says
reading_said : (w : WatchValue) (time : Option ℕ) (f : FrameValue) (g : Group) → group_of f ≡ g
    → reading_if (fate_by w.followed.silence time w.followed.packets (half_in w.listener) g) f ≡ frame_reading time (half_in w.listener) w.followed f
reading_said w time f g is = ap (λ (v : Group). reading_if (fate_by w.followed.silence time w.followed.packets (half_in w.listener) v) f) (sym is)

-- by a frame no more pairs are counted than what it says announces
counted_by_frame : (silence : Silence) (time : Option ℕ) (packets : List (List (Option Pace))) (half : ℕ → ℕ → Option HalfSent) (f : FrameValue) (g : Group) (before after : ℕ)
    → group_of f ≡ g → after ≤ before + announcements_by g → IsCounted before after (reading_if (fate_by silence time packets half g) f)
counted_by_frame silence time packets half f (ConnectionManagement s d m) before after is le h b =
    subst (λ (k : Group). after ≤ announcements_in h + announcements_by k) (sym is) (omega (arith, le, b))
counted_by_frame silence time packets half f (AddressClaimed s n) before after is le h b = let more = not_fewer (Frame f) h in omega (arith, le, b, more)
counted_by_frame silence time packets half f (CannotClaim n) before after is le h b = let more = not_fewer (Frame f) h in omega (arith, le, b, more)
counted_by_frame silence time packets half f (Acknowledgment c q p d s) before after is le h b = let more = not_fewer (Frame f) h in omega (arith, le, b, more)
counted_by_frame silence time packets half f (Diagnostic k s bytes) before after is le h b = let more = not_fewer (Frame f) h in omega (arith, le, b, more)
counted_by_frame silence time packets half f (Request p d s) before after is le h b = let more = not_fewer (Frame f) h in omega (arith, le, b, more)
counted_by_frame silence time packets half f Other before after is le h b = let more = not_fewer (Frame f) h in omega (arith, le, b, more)
counted_by_frame silence time packets half f (DataTransfer s d bytes) before after is le h b =
    let more = not_fewer (reading_if (fate_by silence time packets half (DataTransfer s d bytes)) f) h in omega (arith, le, b, more)

pub takes_frame : (start old new : WatchValue) (t : ListenerValue) (mid after : ListsValue) (f : FrameValue) (g : Group) (time : Option ℕ) (c : Overheard) (known : Followed) (pairs : ℕ) → start ≡ old
    → mid ≡ at_time time start.lists → group_of f ≡ g
    → IsRead start.listener t mid after (reading_if (fate_by start.followed.silence time start.followed.packets (half_in start.listener) g) f) c
    → new ≡ noted t after c known pairs start → known ≡ followed_with time g start.followed → pairs ≤ start.pairs + announcements_by g
    → Takes old new (frame_reading time (half_in old.listener) old.followed f) time (followed_with time g old.followed)
takes_frame start old new t mid after f g time c known pairs same at is read e known_is few =
    subst (λ (w : WatchValue). Takes w new (frame_reading time (half_in w.listener) w.followed f) time (followed_with time g w.followed)) same
    (subst (λ (k : Followed). Takes start new (frame_reading time (half_in start.listener) start.followed f) time k) known_is
    (subst (λ (x : Reading). Takes start new x time known) (reading_said start time f g is)
    (takes start start new t after (reading_if (fate_by start.followed.silence time start.followed.packets (half_in start.listener) g) f) time c known pairs refl
    (subst (λ (l : ListsValue). IsRead start.listener t l after (reading_if (fate_by start.followed.silence time start.followed.packets (half_in start.listener) g) f) c) at read) e
    (counted_by_frame start.followed.silence time start.followed.packets (half_in start.listener) f g start.pairs pairs is few))))

pub tells_frame : (start old new : WatchValue) (t : ListenerValue) (mid after : ListsValue) (f : FrameValue) (g : Group) (time : Option ℕ) (c : Overheard) (known : Followed) (pairs : ℕ) (entry : Option SentEntry) (told : Changes)
    → start ≡ old → mid ≡ at_time time start.lists → group_of f ≡ g
    → IsRead start.listener t mid after (reading_if (fate_by start.followed.silence time start.followed.packets (half_in start.listener) g) f) c
    → SaysSent c entry → HasTaken HasRuns mid entry after
    → new ≡ noted t after c known pairs start → told ≡ told_of after.selection.unclaimed (news_by start.told after.selection after.time after.began c) c
    → Tells old new (frame_reading time (half_in old.listener) old.followed f) told
tells_frame start old new t mid after f g time c known pairs entry told same at is read says put e told_is =
    subst (λ (w : WatchValue). Tells w new (frame_reading time (half_in w.listener) w.followed f) told) same
    (subst (λ (x : Reading). Tells start new x told) (reading_said start time f g is)
    (tells start start new t after (reading_if (fate_by start.followed.silence time start.followed.packets (half_in start.listener) g) f) time c known pairs entry told refl (subst (λ (l : ListsValue). IsRead start.listener t l after (reading_if (fate_by start.followed.silence time start.followed.packets (half_in start.listener) g) f) c) at read) says
    (subst (λ (l : ListsValue). HasTaken HasRuns l entry after) at put) e told_is))

-- what is noted once a pair was
module _ (l : ListenerValue) (lists : ListsValue) (f : Followed) (told : List Bool) (before : CountsBefore) (partly broken : ℕ) (identified : IdentifiedValue) (mid : WatchValue) (c : Overheard)
    (same : mid ≡ record { listener = l; lists = lists; followed = f; told = told; before = before; partly = partly; broken = broken; pairs = mid.pairs; identified = identified }) where
  pub pair_noted : (new : WatchValue)
      → new ≡ record mid { lists = noted_in c mid.lists; told = told_after (is_told mid.lists.selection mid.lists.time c) c mid.told; partly = partly_after c mid.partly }
      → new ≡ record {
        listener = l;
        lists = noted_in c lists;
        followed = f;
        told = told_after (is_told lists.selection lists.time c) c told;
        before = before;
        partly = partly_after c partly;
        broken = broken;
        pairs = mid.pairs;
        identified = identified;
      }
  pair_noted new is =
      is ∙ ap (λ (v : WatchValue). record v { lists = noted_in c v.lists; told = told_after (is_told v.lists.selection v.lists.time c) c v.told; partly = partly_after c v.partly }) same

  pub pair_told : (changes : Changes) → changes ≡ told_of mid.lists.selection.unclaimed (news_by mid.told mid.lists.selection mid.lists.time mid.lists.began c) c
      → changes ≡ told_of lists.selection.unclaimed (news_by told lists.selection lists.time lists.began c) c
  pair_told changes is = is ∙ ap (λ (v : WatchValue). told_of v.lists.selection.unclaimed (news_by v.told v.lists.selection v.lists.time v.lists.began c) c) same

-- a frame that says nothing to a listener
other_read : (s : ListenerValue) (lists : ListsValue) (f : FrameValue) → group_of f ≡ Other → IsRead s s lists lists (Frame f) Nothing
other_read s lists f is = record {
  stands = λ h st. stands_by_group s s h f Other is refl st;
  heard = λ h st. heard_by_group s h f Other Nothing is refl st;
  listed = λ h st. listed_by_group HasRuns lists lists s h f Other is refl st;
}

pub takes_other : (w new : WatchValue) (f : FrameValue) (g : Group) (time : Option ℕ) → group_of f ≡ g → g ≡ Other → new ≡ record w { lists = at_time time w.lists }
    → Takes w new (frame_reading time (half_in w.listener) w.followed f) time (followed_with time g w.followed)
takes_other w new f g time is other e =
    subst (λ (k : Group). Takes w new (frame_reading time (half_in w.listener) w.followed f) time (followed_with time k w.followed)) (sym other)
    (subst (λ (x : Reading). Takes w new x time w.followed) (reading_said w time f Other (is ∙ other))
    (takes w w new w.listener (at_time time w.lists) (Frame f) time Nothing w.followed w.pairs refl (other_read w.listener (at_time time w.lists) f (is ∙ other)) (e ∙ unnoted)
    (as_many w.pairs (Frame f))))
  where
    kept : (b : Bool) → (if b then w.told else w.told) ≡ w.told
    kept true = refl
    kept false = refl

    unnoted : record w { lists = at_time time w.lists } ≡ noted w.listener (at_time time w.lists) Nothing w.followed w.pairs w
    unnoted = ap (λ (l : List Bool). record w { lists = at_time time w.lists; told = l }) (sym (kept (is_told w.lists.selection (time_after time w.lists.time) Nothing)))

pub tells_other : (w new : WatchValue) (f : FrameValue) (g : Group) (time : Option ℕ) (told : Changes) → group_of f ≡ g → g ≡ Other → told ≡ nothing_told
    → Tells w new (frame_reading time (half_in w.listener) w.followed f) told
tells_other w new f g time told is other none = subst (λ (x : Reading). Tells w new x told) (reading_said w time f Other (is ∙ other)) (λ b h s.
    none ∙ (sym (none_told b.selection.unclaimed (is_news w.told w.lists new.lists Nothing))
    ∙ ap (λ (o : Overheard). told_of b.selection.unclaimed (is_news w.told w.lists new.lists o) o) ((other_read w.listener w.lists f (is ∙ other)).heard (readings_in h) s.listener)))
  where
    none_told : (u b : Bool) → told_of u b Nothing ≡ nothing_told
    none_told u true = refl
    none_told u false = refl
