-- A watch beside whose listener identifications are read: what is said of the others stays, and the identifications are those that the lines tell.
use Rattle.std.proofs.Common.{◌≡◌, ◌≤◌, ◌<◌, ℕ, List, Option, OnOk, Result, Ok, Err, if◌then◌else◌, refl, sym, ap, ◌∙◌, subst, arith}
use Rattle.bus_model.specs.Overheard.{who_heard}
use Rattle.bus_model.specs.declared.who.Who.{Who}
use Rattle.can_frame.specs.Fields.{source_of}
use Rattle.can_frame.specs.declared.reading.Reading.{Reading}
use Rattle.candump_line.specs.declared.line.Line.{Line}
use Rattle.candump_line.specs.declared.line.Line.TheVariants as line
use Rattle.listener.proofs.Hears.{whose}
use Rattle.listener.specs.ListenerValue.{who_in}
use Rattle.parameter_group.specs.Group.{Group, group_of}
use Rattle.reassembly.specs.Pairs.{pair_at, with_pair}
use Rattle.bus_watch.specs.Followed.{Followed, is_watched}
use Rattle.bus_watch.specs.Over.{HasOwnersAlone}
use Rattle.bus_watch.specs.Runs.{Moment, newest_time, with_moment}
use Rattle.bus_watch.specs.Told.{Assumed, Beginning, IsToldAs, Read, StandsForAll, Told, all_said, readings_said}
use Rattle.bus_watch.specs.Identified.{HalfTold, IdentifiedValue, coming, halves_claimed, text_under, identified_read, identified_with}
use Rattle.bus_watch.specs.IdentifiedSaid.{IdentifiedGoesOn, identified_said}
use Rattle.bus_watch.specs.WatchValue.{HearsLine, StandsInRuns, Takes, TakesGroup, Tells, TellsGroup, WatchValue, identified_in}
use Rattle.bus_watch.specs.declared.change.Changes.{Changes}
use Rattle.bus_watch.specs.declared.selection.Selection.{Selection}
use Rattle.bus_watch.specs.declared.teller.Teller.{Teller}
use Rattle.bus_watch.proofs.IdentifiedTables.{undone}

-- ---- identifications change, and nothing else does

abbrev pub with_identified : WatchValue → IdentifiedValue → WatchValue
with_identified w v = record w { identified = v }

pub aside : (b : Beginning) (w : WatchValue) (v : IdentifiedValue) (h : List Moment) → StandsInRuns b w h → StandsInRuns b (with_identified w v) h
aside b w v h s = record {
  listener = s.listener;
  shows = s.shows;
  time = s.time;
  contests = s.contests;
  lists = s.lists;
  runs = s.runs;
  kept = s.kept;
  units = s.units;
  told = s.told;
  before = s.before;
  partly = s.partly;
  pairs = s.pairs;
}

pub stands_aside : (b : Beginning) (ts : List Told) (w new : WatchValue) (v : IdentifiedValue) → new ≡ with_identified w v → StandsForAll b ts w → StandsForAll b ts new
stands_aside b ts w new v e s = subst (λ (x : WatchValue). StandsForAll b ts x) (sym e) (record { heard = aside b w v (all_said b ts).moments s.heard; followed = s.followed })

pub told_aside : (next : Told) (old mid new : WatchValue) (v : IdentifiedValue) (c : Changes) → new ≡ with_identified mid v → IsToldAs next old mid c → IsToldAs next old new c
told_aside next old mid new v c e t = subst (λ (w : WatchValue). IsToldAs next old w c) (sym e) (λ b ts s. t b ts s)

-- once a reading was taken
pub takes_aside : (old mid new : WatchValue) (v : IdentifiedValue) (x : Reading) (at : Option ℕ) (f : Followed) → new ≡ with_identified mid v → Takes old mid x at f → Takes old new x at f
takes_aside old mid new v x at f e t =
    subst (λ (w : WatchValue). Takes old w x at f) (sym e) (record { stands = λ b h s. aside b mid v (with_moment x at h) (t.stands b h s); followed = t.followed })

pub tells_aside : (old mid new : WatchValue) (v : IdentifiedValue) (x : Reading) (c : Changes) → new ≡ with_identified mid v → Tells old mid x c → Tells old new x c
tells_aside old mid new v x c e t = subst (λ (w : WatchValue). Tells old w x c) (sym e) (λ b h s. t b h s)

pub group_aside : (old mid new : WatchValue) (v : IdentifiedValue) (g : Group) (time : Option ℕ) → new ≡ with_identified mid v → TakesGroup old mid g time → TakesGroup old new g time
group_aside old mid new v g time e t = λ f is. takes_aside old mid new v _ _ _ e (t f is)

pub group_told_aside : (old mid new : WatchValue) (v : IdentifiedValue) (g : Group) (time : Option ℕ) (c : Changes) → new ≡ with_identified mid v → TellsGroup old mid g time c → TellsGroup old new g time c
group_told_aside old mid new v g time c e t = λ f is. tells_aside old mid new v _ c e (t f is)

-- or before it was
pub group_then : (old start new : WatchValue) (v : IdentifiedValue) (g : Group) (time : Option ℕ) → start ≡ with_identified old v → TakesGroup start new g time → TakesGroup old new g time
group_then old start new v g time e t = go (subst (λ (w : WatchValue). TakesGroup w new g time) e t)
  where
    go : TakesGroup (with_identified old v) new g time → TakesGroup old new g time
    go u = λ f is. (let one = u f is in record { stands = λ b h s. one.stands b h (aside b old v h s); followed = one.followed })

pub group_told_then : (old start new : WatchValue) (v : IdentifiedValue) (g : Group) (time : Option ℕ) (c : Changes) → start ≡ with_identified old v → TellsGroup start new g time c → TellsGroup old new g time c
group_told_then old start new v g time c e t = go (subst (λ (w : WatchValue). TellsGroup w new g time c) e t)
  where
    go : TellsGroup (with_identified old v) new g time c → TellsGroup old new g time c
    go u = λ f is b h s. u f is b h (aside b old v h s)

-- an announcement that was refused
pub announced_undone : (old start : WatchValue) (began restored : IdentifiedValue) (s d : ℕ) (v o : Option HalfTold) → start ≡ with_identified old began
    → began ≡ record old.identified { half = with_pair old.identified.half s d v } → o ≡ pair_at old.identified.half s d → restored ≡ record start.identified { half = with_pair start.identified.half s d o }
    → with_identified start restored ≡ old
announced_undone old start began restored s d v o is put was back =
    ap (λ (x : IdentifiedValue). with_identified start x) back
    ∙ (ap (λ (w : WatchValue). with_identified w (record w.identified { half = with_pair w.identified.half s d o })) is
    ∙ (ap (λ (x : IdentifiedValue). with_identified old (record x { half = with_pair x.half s d o })) put
    ∙ ap (λ (h : List (List (Option HalfTold))). with_identified old (record old.identified { half = h }))
    (undone old.identified.half (with_pair old.identified.half s d v) (with_pair (with_pair old.identified.half s d v) s d o) s d v o refl was refl)))

-- a watch that starts over takes the identifications along
pub over_aside : (old w new : WatchValue) (v : IdentifiedValue) → new ≡ with_identified w v → HasOwnersAlone old w → HasOwnersAlone old new
over_aside old w new v e o = subst (λ (x : WatchValue). HasOwnersAlone old x) (sym e) (record {
  told = o.told;
  alone = o.alone;
  stands = stands_aside _ o.told w (with_identified w v) v refl o.stands;
  owners = o.owners;
  addresses = o.addresses;
  gaps = o.gaps;
  missed = o.missed;
  unread = o.unread;
  partly = o.partly;
  broken = o.broken;
})

-- ---- what the lines tell

-- only whose a message is that begins at a frame's source is looked at
same_owners : (s : Selection) (newest : Option ℕ) (f : Followed) (one other : ℕ → Who) (l : Line) (v : IdentifiedValue) → ((a : ℕ) → a < 256 → one a ≡ other a)
    → identified_read s newest f one l v ≡ identified_read s newest f other l v
same_owners s newest f one other (line.Frame time bus frame) v same =
    ap (λ (w : Who). if is_watched f.bus bus then identified_with (coming s newest time f w) frame (group_of frame) v else v) (same (source_of frame.id) (omega arith))
same_owners s newest f one other (line.Dropped bus count) v same = refl
same_owners s newest f one other (line.Overflow time bus) v same = refl
same_owners s newest f one other (line.Foreign bus what) v same = refl
same_owners s newest f one other (line.Bad reason) v same = refl
same_owners s newest f one other line.Note v same = refl

pub go_on_line : (start old new : WatchValue) (l : Line) → start ≡ old → new.identified ≡ identified_in start l → IdentifiedGoesOn (Read l) old new
go_on_line start old new l same is first b ts s said =
    is ∙ (ap (λ (w : WatchValue). identified_in w l) same
    ∙ (ap (λ (x : Selection). identified_read x old.lists.time old.followed (who_in old.listener) l old.identified) s.heard.shows
    ∙ (ap (λ (x : Option ℕ). identified_read b.selection x old.followed (who_in old.listener) l old.identified) s.heard.time
    ∙ (ap (λ (x : Followed). identified_read b.selection (newest_time (all_said b ts).moments) x (who_in old.listener) l old.identified) s.followed
    ∙ (ap (λ (x : IdentifiedValue). identified_read b.selection (newest_time (all_said b ts).moments) (all_said b ts).followed (who_in old.listener) l x) said
    ∙ same_owners b.selection (newest_time (all_said b ts).moments) (all_said b ts).followed (who_in old.listener) (λ a. who_heard a (readings_said b ts)) l (identified_said first b ts)
    (λ a below. whose old.listener (readings_said b ts) a below s.heard.listener))))))

pub go_on_line_ok : {T E : Type 0} (result : Result T E) (start old new : WatchValue) (l : Line) → start ≡ old → OnOk result (HearsLine start new l) → OnOk result (new.identified ≡ identified_in start l)
    → OnOk result (IdentifiedGoesOn (Read l) old new)
go_on_line_ok (Ok v) start old new l same hears is = go_on_line start old new l same is
go_on_line_ok (Err e) start old new l same hears is = tt

pub go_on_assumed : (old mid new : WatchValue) (name address : ℕ) → address ≤ 253 → mid.identified ≡ old.identified
    → new ≡ with_identified mid (record mid.identified { half = halves_claimed (who_in old.listener address) address name mid.identified.half }) → IdentifiedGoesOn (Assumed name address) old new
go_on_assumed old mid new name address le same e first b ts s said =
    ap (λ (w : WatchValue). w.identified) e
    ∙ (ap (λ (x : IdentifiedValue). record x { half = halves_claimed (who_in old.listener address) address name x.half }) (same ∙ said)
    ∙ ap (λ (w : Who). record (identified_said first b ts) { half = halves_claimed w address name (identified_said first b ts).half })
    (whose old.listener (readings_said b ts) address (omega (arith, le)) s.heard.listener))

-- ---- what is read from a watch

pub text_as_said : (w : WatchValue) (first : IdentifiedValue) (b : Beginning) (ts : List Told) (t : Teller) (text : List ℕ) → text ≡ text_under t w.identified.kept
    → w.identified ≡ identified_said first b ts → text ≡ text_under t (identified_said first b ts).kept
text_as_said w first b ts t text e said = e ∙ ap (λ (v : IdentifiedValue). text_under t v.kept) said
