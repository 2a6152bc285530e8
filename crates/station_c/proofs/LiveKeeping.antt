-- A live station stands for what it was told, and keeps the newest entries of that, through each call.
use Rattle.std.proofs.Common.{◌≡◌, ℕ, Bool, true, false, List, [], ◌∷◌, Option, Some, None, if◌then◌else◌, sym, ap, ◌∙◌, subst}
use Rattle.bus_model.specs.Heard.{StationSettings}
use Rattle.can_frame.specs.FrameValue.{FrameValue}
use Rattle.can_frame.specs.declared.reading.Reading.{Reading}
use Rattle.can_frame.specs.declared.reading.Reading.TheVariants.{Frame, Gap}
use Rattle.entry_lists.specs.Entries.{HasPut}
use Rattle.entry_lists.specs.Newest.{HasNewest, KeepsNewest, NewestLists}
use Rattle.entry_lists.specs.declared.entry.NewEntry.{NewEntry}
use Rattle.live_station.specs.Ear.{entry_of_told, frames_told, is_untold_after}
use Rattle.live_station.specs.Working.{AsksAgain, DoesDeed, DoesTurn, WorkingValue, turn_at}
use Rattle.live_station.specs.declared.loss.Watch.{Watch}
use Rattle.live_station.specs.declared.open.OpenOrder.{OpenOrder}
use Rattle.live_station.specs.declared.pulled.Pulled.{Pulled}
use Rattle.live_station.specs.declared.turn.Deed.{Deed}
use Rattle.live_station.specs.declared.turn.Deed.TheVariants as deed
use Rattle.live_station.specs.declared.turn.Turn.{Turn}
use Rattle.live_station.specs.declared.turn.Turn.TheVariants as turn
use Rattle.live_station.specs.declared.verdict.Verdict.{Verdict}
use Rattle.shared_groups.specs.Sharing.{SharedValue}
use Rattle.station_table.specs.Listing.{entry_heard, lists_heard}
use Rattle.station_table.specs.StandsFor.{StandsFor}
use Rattle.station_table.specs.Sessions.{session_of}
use Rattle.station_table.specs.StationValue.{StationValue}
use Rattle.station_table.specs.declared.session.Session.{Session}
use Rattle.station_c.specs.ListedLives.{ListedLiveValue, StandsLive}
use Rattle.station_c.proofs.Keeping.{keeps_after}

-- how many are kept stays
keep_put : (before after : NewestLists) (e : Option NewEntry) → HasPut HasNewest before e after → after.keep ≡ before.keep
keep_put before after None put = ap (λ (l : NewestLists). l.keep) put
keep_put before after (Some e) put = put.keep

-- of a frame that is withheld nothing is told and nothing listed
told_or_not : (withheld : Bool) (before after : NewestLists) (r : StationSettings) (f : FrameValue) (told : List Reading)
    → HasPut HasNewest before (if withheld then None else entry_heard r (Frame f) told) after
    → KeepsNewest before (lists_heard r told) → KeepsNewest after (lists_heard r (if withheld then told else Frame f ∷ told))
told_or_not true before after r f told put kept = subst (λ (l : NewestLists). KeepsNewest l (lists_heard r told)) (sym put) kept
told_or_not false before after r f told put kept = keeps_after before after r (Frame f) told put kept

pub stands_at_first : (r : StationSettings) (grant keep : ℕ) (live : WorkingValue) (lists : NewestLists) (last : Option Verdict) (shared : SharedValue)
    → StandsFor r grant live.station (frames_told r []) → KeepsNewest lists (λ n k. []) → lists.keep ≡ keep
    → StandsLive r grant keep (record { live = live; lists = lists; last = last; shared = shared }) []
stands_at_first r grant keep live lists last shared stands newest kept = record { station = stands; lists = newest; keep_is = kept }

-- what a station is that begins
abbrev at_first : WorkingValue → NewestLists → SharedValue → ListedLiveValue
at_first live lists shared = record { live = live; lists = lists; last = None; shared = shared }

pub first_is : (live live' : WorkingValue) (lists lists' : NewestLists) (shared shared' : SharedValue) → live ≡ live' → lists ≡ lists' → shared ≡ shared'
    → at_first live lists shared ≡ at_first live' lists' shared'
first_is live live' lists lists' shared shared' e f g = λ i. at_first (e i) (f i) (g i)

-- ---- at a call's answer, of a station with its lists that is seen as one value

pub stands_heard : (old : ListedLiveValue) (live after : WorkingValue) (lists lists' : NewestLists) (last : Option Verdict) (shared : SharedValue) (f : FrameValue)
    → live ≡ old.live → lists ≡ old.lists
    → ((r : StationSettings) (grant : ℕ) (h : List Reading) → StandsFor r grant live.station (frames_told r h)
    → StandsFor r grant after.station (frames_told r (Frame f ∷ h)))
    → ((r : StationSettings) (grant : ℕ) (h : List Reading) → StandsFor r grant live.station (frames_told r h)
    → HasPut HasNewest lists (entry_of_told r f h) lists')
    → (r : StationSettings) (grant keep : ℕ) (h : List Reading) → StandsLive r grant keep old h
    → StandsLive r grant keep (record { live = after; lists = lists'; last = last; shared = shared }) (Frame f ∷ h)
stands_heard old live after lists lists' last shared f same same_lists stands listed r grant keep h s =
    let before = subst (λ (w : WorkingValue). StandsFor r grant w.station (frames_told r h)) (sym same) s.station in
    let put = subst (λ (l : NewestLists). HasPut HasNewest l (entry_of_told r f h) lists') same_lists (listed r grant h before) in
    record {
      station = stands r grant h before;
      lists = told_or_not (is_untold_after r (frames_told r h) f) old.lists lists' r f (frames_told r h) put s.lists;
      keep_is = keep_put old.lists lists' (entry_of_told r f h) put ∙ s.keep_is;
    }

pub stands_missed : (old : ListedLiveValue) (live after : WorkingValue) (lists lists' : NewestLists) (last : Option Verdict) (shared : SharedValue) (count : ℕ)
    → live ≡ old.live → lists ≡ old.lists
    → ((r : StationSettings) (grant : ℕ) (h : List Reading) → StandsFor r grant live.station (frames_told r h)
    → StandsFor r grant after.station (frames_told r (Gap count ∷ h)))
    → lists' ≡ lists
    → (r : StationSettings) (grant keep : ℕ) (h : List Reading) → StandsLive r grant keep old h
    → StandsLive r grant keep (record { live = after; lists = lists'; last = last; shared = shared }) (Gap count ∷ h)
stands_missed old live after lists lists' last shared count same same_lists stands kept r grant keep h s =
    let before = subst (λ (w : WorkingValue). StandsFor r grant w.station (frames_told r h)) (sym same) s.station in
    record {
      station = stands r grant h before;
      lists = keeps_after old.lists lists' r (Gap count) (frames_told r h) (kept ∙ same_lists) s.lists;
      keep_is = ap (λ (l : NewestLists). l.keep) (kept ∙ same_lists) ∙ s.keep_is;
    }

-- what goes changes nothing of what the station knows
stays_by_deed : (d : Deed) (now : ℕ) (o : OpenOrder) (p : Pulled) (s s' : WorkingValue) → DoesDeed d now o p s s' → s'.station ≡ s.station
stays_by_deed deed.Nothing now o p s s' does = ap (λ (w : WorkingValue). w.station) does.1
stays_by_deed (deed.Request to) now o p s s' does = ap (λ (w : WorkingValue). w.station) does.1
stays_by_deed (deed.Command name address part) now o p s s' does = ap (λ (w : WorkingValue). w.station) does.1
stays_by_deed (deed.Ends finding) now o p s s' does = ap (λ (w : WorkingValue). w.station) does.1

stays_by_asking : (j : Option Session) (w : Watch) (now : ℕ) (p : Pulled) (s s' : WorkingValue) → AsksAgain j w now p s s' → s'.station ≡ s.station
stays_by_asking None w now p s s' does = ap (λ (it : WorkingValue). it.station) does.1
stays_by_asking (Some j) w now p s s' does = ap (λ (it : WorkingValue). it.station) does.1

stays_by_turn : (t : Turn) (now : ℕ) (p : Pulled) (s s' : WorkingValue) → DoesTurn t now p s s' → s'.station ≡ s.station
stays_by_turn turn.Rests now p s s' does = ap (λ (w : WorkingValue). w.station) does.1
stays_by_turn (turn.Writes lane) now p s s' does = ap (λ (w : WorkingValue). w.station) does.rest
stays_by_turn (turn.AsksAgain w) now p s s' does = stays_by_asking (session_of s.station w.source) w now p s s' does
stays_by_turn turn.AsksClaims now p s s' does = ap (λ (w : WorkingValue). w.station) does.1
stays_by_turn (turn.Does o d) now p s s' does = stays_by_deed d now o p s s' does

pub stands_pulled : (old : ListedLiveValue) (live after : WorkingValue) (lists : NewestLists) (last : Option Verdict) (shared : SharedValue) (now : ℕ) (p : Pulled)
    → live ≡ old.live → lists ≡ old.lists → DoesTurn (turn_at now live) now p live after
    → (r : StationSettings) (grant keep : ℕ) (h : List Reading) → StandsLive r grant keep old h
    → StandsLive r grant keep (record { live = after; lists = lists; last = last; shared = shared }) h
stands_pulled old live after lists last shared now p same same_lists does r grant keep h s =
    let stays : after.station ≡ old.live.station =
    stays_by_turn (turn_at now live) now p live after does ∙ ap (λ (w : WorkingValue). w.station) same in
    record {
      station = subst (λ (it : StationValue). StandsFor r grant it (frames_told r h)) (sym stays) s.station;
      lists = subst (λ (l : NewestLists). KeepsNewest l (lists_heard r (frames_told r h))) (sym same_lists) s.lists;
      keep_is = ap (λ (l : NewestLists). l.keep) same_lists ∙ s.keep_is;
    }

-- a station was lifted, and was put back as it stood then
pub stands_put_back : (old lifted after new : ListedLiveValue) (h h' : List Reading) (r : StationSettings) (grant keep : ℕ) → lifted ≡ old → new ≡ after
    → (StandsLive r grant keep lifted h → StandsLive r grant keep after h') → StandsLive r grant keep old h → StandsLive r grant keep new h'
stands_put_back old lifted after new h h' r grant keep e f does s =
    subst (λ (v : ListedLiveValue). StandsLive r grant keep v h') (sym f) (does (subst (λ (v : ListedLiveValue). StandsLive r grant keep v h) (sym e) s))
