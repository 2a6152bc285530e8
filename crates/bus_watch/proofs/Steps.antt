-- A watch after one more line stands for the lines with it.
use Rattle.std.proofs.Common.{◌≡◌, ◌≤◌, ℕ, zero, suc, Bool, List, [], ◌∷◌, Option, Some, None, IfOk, OnOk, Result, Ok, Err, if◌then◌else◌, refl, sym, subst, ap, ◌∙◌, arith}
use Rattle.address_claim.specs.Frames.{claim_frame_value}
use Rattle.bus_model.specs.OverheardChanged.{change_overheard}
use Rattle.can_frame.specs.declared.reading.Reading.{Reading}
use Rattle.can_frame.specs.declared.reading.Reading.TheVariants.{Frame, Gap, Empty}
use Rattle.candump_line.specs.declared.line.Line.{Line}
use Rattle.bus_model.specs.declared.who.Who.{Who}
use Rattle.dm_messages.specs.declared.kind.Kind.{Kind}
use Rattle.listener.specs.ListenerSteps.{new_listener}
use Rattle.listener.specs.ListenerValue.{HasOverheard, ListenerValue, gaps_alone}
use Rattle.candump_line.specs.declared.line.Line.TheVariants as line
use Rattle.listener.specs.Paced.{half_heard, half_in}
use Rattle.listener.proofs.Pacing.{reading_same}
use Rattle.bus_watch.specs.Followed.{Followed, followed_after, is_watched, reading_by, time_by}
use Rattle.bus_watch.specs.Tellings.{is_news, none_told, told_heard, told_of}
use Rattle.bus_watch.specs.declared.change.Changes.{Changes}
use Rattle.bus_watch.specs.Told.{Addressless, Assumed, Beginning, IsToldAs, Read, StandsForAll, Told, all_said, gaps_before, nothing_said, readings_said}
use Rattle.bus_watch.specs.Runs.{ListsValue, contests_heard, entries_came, entries_in, kept_heard, lists_shown, newest_time, none_listed, readings_in, runs_by, runs_under, units_in, units_shown, with_moment}
use Rattle.bus_watch.specs.Identified.{none_identified}
use Rattle.bus_watch.specs.declared.selection.Selection.{Selection}
use Rattle.bus_watch.specs.WatchValue.{HearsLine, TellsLine, StandsInRuns, Takes, Tells, WatchValue, announcements_in, partly_heard}

-- ---- gaps before all lines, in which nothing was heard

gaps_read : (n : ℕ) → readings_in (gaps_before n) ≡ gaps_alone n
gaps_read zero = refl
gaps_read (suc n) = ap (λ (l : List Reading). Gap 0 ∷ l) (gaps_read n)

no_time : (n : ℕ) → newest_time (gaps_before n) ≡ None
no_time zero = refl
no_time (suc n) = refl

no_contest : (first : List (Option ℕ)) (n : ℕ) → contests_heard first (gaps_before n) ≡ first
no_contest first zero = refl
no_contest first (suc n) = no_contest first n

no_entries : (s : Selection) (n : ℕ) (w : Who) (k : Kind) → lists_shown s (gaps_before n) w k ≡ []
no_entries s zero w k = refl
no_entries s (suc n) w k = no_entries s n w k

none_came : (s : Selection) (first : List (Option ℕ)) (n : ℕ) (w : Who) (k : Kind) → entries_came s first (gaps_before n) w k ≡ []
none_came s first zero w k = refl
none_came s first (suc n) w k = none_came s first n w k

none_kept : (s : Selection) (first : List (Option ℕ)) (n : ℕ) → kept_heard s first (gaps_before n) ≡ 0
none_kept s first zero = refl
none_kept s first (suc n) = none_kept s first n

no_units_shown : (s : Selection) (n : ℕ) → units_shown s (gaps_before n) ≡ []
no_units_shown s zero = refl
no_units_shown s (suc n) = no_units_shown s n

nothing_told_of : (s : Selection) (n : ℕ) → told_heard s (gaps_before n) ≡ none_told
nothing_told_of s zero = refl
nothing_told_of s (suc n) = refl

pub none_partly : (first n : ℕ) → partly_heard first (gaps_before n) ≡ first
none_partly first zero = refl
none_partly first (suc n) = none_partly first n

-- a watch that was told nothing
pub opened : (b : Beginning) (w : WatchValue) → HasOverheard w.listener (gaps_alone b.gaps) → w.lists ≡ record (none_listed b.selection) { contests = b.contests } → w.told ≡ none_told
    → w.followed ≡ (nothing_said b).followed → w.before ≡ b.before → w.partly ≡ b.partly → w.pairs ≡ 0 → StandsForAll b [] w
opened b w st none t f before partly pairs = record {
  heard = record {
    listener = subst (HasOverheard w.listener) (sym (gaps_read b.gaps)) st;
    shows = ap (λ (l : ListsValue). l.selection) none;
    time = ap (λ (l : ListsValue). l.time) none ∙ sym (no_time b.gaps);
    contests = ap (λ (l : ListsValue). l.contests) none ∙ sym (no_contest b.contests b.gaps);
    lists = λ u k. ap (λ (l : ListsValue). entries_in l u k) none ∙ sym (no_entries b.selection b.gaps u k);
    runs = λ u k. ap (λ (l : ListsValue). runs_under l u k) none ∙ sym (ap runs_by (none_came b.selection b.contests b.gaps u k));
    kept = ap (λ (l : ListsValue). l.kept) none ∙ sym (none_kept b.selection b.contests b.gaps);
    units = ap units_in none ∙ sym (no_units_shown b.selection b.gaps);
    told = t ∙ sym (nothing_told_of b.selection b.gaps);
    before = before;
    partly = partly ∙ sym (none_partly b.partly b.gaps);
    pairs = subst (λ (n : ℕ). n ≤ announcements_in (readings_in (gaps_before b.gaps))) (sym pairs) (omega arith);
  };
  followed = f;
}

-- as it is made
pub opened_so : (b : Beginning) (w : WatchValue) → HasOverheard w.listener (gaps_alone b.gaps) → w ≡ record {
  listener = record new_listener { gaps = b.gaps };
  lists = record (none_listed b.selection) { contests = b.contests };
  followed = (nothing_said b).followed;
  told = none_told;
  before = b.before;
  partly = b.partly;
  broken = 0;
  pairs = 0;
  identified = none_identified;
} → StandsForAll b [] w
opened_so b w st is = opened b w st (ap (λ (v : WatchValue). v.lists) is) (ap (λ (v : WatchValue). v.told) is) (ap (λ (v : WatchValue). v.followed) is)
    (ap (λ (v : WatchValue). v.before) is) (ap (λ (v : WatchValue). v.partly) is) (ap (λ (v : WatchValue). v.pairs) is)

pub opened_if_ok : {E : Type 0} (result : Result WatchValue E) (b : Beginning) → IfOk result (λ w. HasOverheard w.listener (gaps_alone b.gaps)) → IfOk result (λ w. w ≡ record {
  listener = record new_listener { gaps = b.gaps };
  lists = record (none_listed b.selection) { contests = b.contests };
  followed = (nothing_said b).followed;
  told = none_told;
  before = b.before;
  partly = b.partly;
  broken = 0;
  pairs = 0;
  identified = none_identified;
}) → IfOk result (λ w. StandsForAll b [] w)
opened_if_ok (Ok w) b st is = opened_so b w st is
opened_if_ok (Err e) b st is = tt

-- the reading that a line is, by what is half sent in the tables and by what was heard
half_said : (t : ListenerValue) (h : List Reading) (f : Followed) (l : Line) → HasOverheard t h → reading_by (half_in t) f l ≡ reading_by (half_heard h) f l
half_said t h f (line.Frame time bus frame) st =
    ap (λ (x : Reading). if is_watched f.bus bus then x else Empty) (reading_same t h f.silence time f.packets frame st)
half_said t h f (line.Dropped bus count) st = refl
half_said t h f (line.Overflow time bus) st = refl
half_said t h f (line.Foreign bus what) st = refl
half_said t h f (line.Bad reason) st = refl
half_said t h f line.Note st = refl

-- the reading that a line is, by what the lines before it say
reading_said : (b : Beginning) (ts : List Told) (w : WatchValue) (l : Line) → StandsForAll b ts w
    → reading_by (half_in w.listener) w.followed l ≡ reading_by (half_heard (readings_said b ts)) (all_said b ts).followed l
reading_said b ts w l s = ap (λ f. reading_by (half_in w.listener) f l) s.followed ∙ half_said w.listener (readings_said b ts) (all_said b ts).followed l s.heard.listener

-- a line: its reading is taken, and what is known of the bus goes on
pub stands_for_line : (old new : WatchValue) (l : Line) → HearsLine old new l → (b : Beginning) (ts : List Told) → StandsForAll b ts old → StandsForAll b (Read l ∷ ts) new
stands_for_line old new l hears b ts s = record {
  heard = subst (λ (x : Reading). StandsInRuns b new (with_moment x (time_by (all_said b ts).followed l) (all_said b ts).moments)) (reading_said b ts old l s)
      (subst (λ (f : Followed). StandsInRuns b new (with_moment (reading_by (half_in old.listener) old.followed l) (time_by f l) (all_said b ts).moments)) s.followed
      (hears.stands b (all_said b ts).moments s.heard));
  followed = hears.followed ∙ ap (λ f. followed_after f l) s.followed;
}

-- what is told of a reading, and of the same one
told_same : (old new : WatchValue) (u : Bool) (h : List Reading) (x y : Reading) (c : Changes) → x ≡ y
    → c ≡ told_of u (is_news old.told old.lists new.lists (change_overheard x h)) (change_overheard x h)
    → c ≡ told_of u (is_news old.told old.lists new.lists (change_overheard y h)) (change_overheard y h)
told_same old new u h x y c e is = is ∙ ap (λ (z : Reading). told_of u (is_news old.told old.lists new.lists (change_overheard z h)) (change_overheard z h)) e

-- and what is told is of what the line changed
pub told_of_line : (old new : WatchValue) (l : Line) (c : Changes) → TellsLine old new l c → IsToldAs (Read l) old new c
told_of_line old new l c tells b ts s =
    told_same old new b.selection.unclaimed (readings_said b ts) _ _ c (reading_said b ts old l s) (tells b (all_said b ts).moments s.heard)

-- the same at a call's answer
pub stands_line_ok : {T E : Type 0} (result : Result T E) (start old new : WatchValue) (l : Line) → start ≡ old → OnOk result (HearsLine start new l)
    → OnOk result ((b : Beginning) (ts : List Told) → StandsForAll b ts old → StandsForAll b (Read l ∷ ts) new)
stands_line_ok (Ok v) start old new l same hears = stands_for_line old new l (subst (λ (w : WatchValue). HearsLine w new l) same hears)
stands_line_ok (Err e) start old new l same hears = tt

pub told_line_ok : {E : Type 0} (result : Result Changes E) (start old new : WatchValue) (l : Line) → start ≡ old → IfOk result (λ c. TellsLine start new l c)
    → IfOk result (λ c. IsToldAs (Read l) old new c)
told_line_ok (Ok v) start old new l same tells = told_of_line old new l v (subst (λ (w : WatchValue). TellsLine w new l v) same tells)
told_line_ok (Err e) start old new l same tells = tt

-- an assumed claim is read, and nothing else
pub stands_for_assumed : (old new : WatchValue) (name address : ℕ) (x : Reading)
    → x ≡ Frame (claim_frame_value name (Some address)) → Takes old new x None old.followed
    → (b : Beginning) (ts : List Told) → StandsForAll b ts old → StandsForAll b (Assumed name address ∷ ts) new
stands_for_assumed old new name address x e takes b ts s = record {
  heard = subst (λ (y : Reading). StandsInRuns b new (with_moment y None (all_said b ts).moments)) e (takes.stands b (all_said b ts).moments s.heard);
  followed = takes.followed ∙ s.followed;
}

-- so is a cannot claim
pub stands_for_addressless : (old new : WatchValue) (name : ℕ) (x : Reading)
    → x ≡ Frame (claim_frame_value name None) → Takes old new x None old.followed
    → (b : Beginning) (ts : List Told) → StandsForAll b ts old → StandsForAll b (Addressless name ∷ ts) new
stands_for_addressless old new name x e takes b ts s = record {
  heard = subst (λ (y : Reading). StandsInRuns b new (with_moment y None (all_said b ts).moments)) e (takes.stands b (all_said b ts).moments s.heard);
  followed = takes.followed ∙ s.followed;
}

pub told_of_assumed : (old new : WatchValue) (name address : ℕ) (x : Reading) (c : Changes)
    → x ≡ Frame (claim_frame_value name (Some address)) → Tells old new x c → IsToldAs (Assumed name address) old new c
told_of_assumed old new name address x c e tells b ts s =
    told_same old new b.selection.unclaimed (readings_said b ts) x _ c e (tells b (all_said b ts).moments s.heard)

pub on_ok : {T E P Q : Type 0} (r : Result T E) → (P → Q) → OnOk r P → OnOk r Q
on_ok (Ok v) f h = f h
on_ok (Err e) f h = tt
