-- Frames that were saved of a live station are heard one after the other; and what two live stations show.
use Rattle.std.proofs.Common.{◌≡◌, ◌+◌, ◌<◌, ◌≤◌, ℕ, List, ◌∷◌, Some, get_or, length, take, sym, ap, ◌∙◌, subst}
use Rattle.std.proofs.lemmas.List.{take_all}
use Rattle.bus_model.specs.Heard.{StationSettings, address_heard}
use Rattle.bus_model.proofs.Bridge.{claimer_name}
use Rattle.can_frame.specs.FrameValue.{FrameValue}
use Rattle.can_frame.specs.declared.reading.Reading.{Reading}
use Rattle.can_frame.specs.declared.reading.Reading.TheVariants.{Frame, Gap}
use Rattle.entry_lists.specs.Newest.{NewestLists}
use Rattle.live_station.specs.Ear.{frames_told}
use Rattle.station_table.specs.StationValue.{StationValue}
use Rattle.station_c.specs.ListedLives.{ListedLiveValue, StandsLive}
use Rattle.station_c.specs.Records.{frame_recorded}
use Rattle.station_c.specs.Saving.{ShowSame, ShowsAnew, frames_read, opened_at, restored}
use Rattle.station_c.specs.declared.records.FrameRecord.{FrameRecord}
use Rattle.station_c.proofs.Restores.{held_heard, one_more_read, shows_anew, some_is}

-- the frame at a place was heard behind those before it
pub hears_next : (q : StationSettings) (keep : ℕ) (before after : ListedLiveValue) (fs : List FrameRecord) (i : ℕ) (d : FrameRecord) (f : FrameValue)
    → i < length fs → f ≡ frame_recorded (get_or fs i d)
    → ((r : StationSettings) (grant keep : ℕ) (h : List Reading) → StandsLive r grant keep before h → StandsLive r grant keep after (Frame f ∷ h))
    → StandsLive q 1 keep before (frames_read (take i fs)) → StandsLive q 1 keep after (frames_read (take (i + 1) fs))
hears_next q keep before after fs i d f low same hears stands =
    subst (λ (h : List Reading). StandsLive q 1 keep after h) (sym (one_more_read fs i d low))
    (subst (λ (g : FrameValue). StandsLive q 1 keep after (Frame g ∷ frames_read (take i fs))) same (hears q 1 keep (frames_read (take i fs)) stands))

-- all were heard, and a gap behind them
pub misses_one : (q : StationSettings) (keep : ℕ) (before after : ListedLiveValue) (fs : List FrameRecord) (i : ℕ) → length fs ≤ i
    → ((r : StationSettings) (grant keep : ℕ) (h : List Reading) → StandsLive r grant keep before h → StandsLive r grant keep after (Gap 1 ∷ h))
    → StandsLive q 1 keep before (frames_read (take i fs)) → StandsLive q 1 keep after (restored fs)
misses_one q keep before after fs i all misses stands =
    misses q 1 keep (frames_read fs) (subst (λ (gs : List FrameRecord). StandsLive q 1 keep before (frames_read gs)) (take_all i fs all) stands)

-- at the end of a save: the station that was saved, the one that heard the frames, and what each showed
pub saved_well_live : (saving anew : ListedLiveValue) (s t : StationValue) (l m : NewestLists) (name address kept : ℕ) (read frames : List FrameRecord)
    → s ≡ saving.live.station → l ≡ saving.lists → t ≡ anew.live.station → m ≡ anew.lists
    → name ≡ s.claimer.name → Some address ≡ s.claimer.held → kept ≡ l.keep → read ≡ frames
    → StandsLive (record { name = name; address = address }) 1 kept anew (restored read) → ShowSame s t l m
    → (r : StationSettings) (grant keep : ℕ) (h : List Reading) → StandsLive r grant keep saving h
    → (a : ℕ) → address_heard r (frames_told r h) ≡ Some a → ShowsAnew r a keep (frames_told r h) (frames_told (opened_at a r) (restored frames))
saved_well_live saving anew s t l m name address kept read frames es el et em named_so holds keeps_so same_frames stands' same r grant keep h stands a heard =
    let told = frames_told r h in
    let name_is : name ≡ r.name = named_so ∙ (ap (λ (v : StationValue). v.claimer.name) es ∙ (ap (λ c. c.name) stands.station.claims ∙ claimer_name r told)) in
    let address_is : address ≡ a =
    some_is address a (holds ∙ (ap (λ (v : StationValue). v.claimer.held) es ∙ held_heard r grant told saving.live.station stands.station heard)) in
    let settings : record { name = name; address = address } ≡ opened_at a r = λ j. record { name = name_is j; address = address_is j } in
    let anew_stands : StandsLive (opened_at a r) 1 kept anew (restored frames) =
    subst (λ (q : StationSettings). StandsLive q 1 kept anew (restored frames)) settings
    (subst (λ (fs : List FrameRecord). StandsLive (record { name = name; address = address }) 1 kept anew (restored fs)) same_frames stands') in
    shows_anew r grant 1 a keep told (frames_told (opened_at a r) (frames_read frames)) saving.live.station anew.live.station saving.lists anew.lists
    stands.station stands.lists stands.keep_is heard anew_stands.station anew_stands.lists
    (anew_stands.keep_is ∙ (keeps_so ∙ (ap (λ (v : NewestLists). v.keep) el ∙ stands.keep_is)))
    (subst (λ (v : NewestLists). ShowSame saving.live.station anew.live.station saving.lists v) em
    (subst (λ (v : NewestLists). ShowSame saving.live.station anew.live.station v m) el
    (subst (λ (v : StationValue). ShowSame saving.live.station v l m) et (subst (λ (v : StationValue). ShowSame v t l m) es same))))
