-- What a listener with its lists took, and frames that it took one after the other.
use Rattle.std.proofs.Common.{◌≡◌, ◌+◌, ◌<◌, ◌≤◌, ◌^◌, ◌&&◌, ℕ, Bool, true, false, List, [], ◌∷◌, ◌++◌, Option, take, length, get_or, set, sym, ap, ◌∙◌, subst}
use Rattle.std.specs.List.{list_all}
use Rattle.std.proofs.lemmas.List.{take_more, take_more_set}
use Rattle.bus_model.specs.declared.overheard.Overheard.{Overheard}
use Rattle.can_frame.specs.FrameValue.{FrameValue}
use Rattle.can_frame.specs.declared.reading.Reading.{Reading}
use Rattle.listener.specs.NewestSent.{HasNewestSent, NewestSentValue}
use Rattle.listener.specs.Broken.{BrokenValue, broken_count, may_end, with_numbers, those_broken, was_whole}
use Rattle.listener.specs.Paced.{IsHeard, PacedValue, fate_in, listed_in, paces_after, reading_in}
use Rattle.listener.specs.declared.broken.BrokenMessage.{BrokenMessage}
use Rattle.listener.specs.declared.entry.SentEntry.{SentEntry}
use Rattle.parameter_group.specs.Group.{Group, group_of}
use Rattle.reassembly.specs.declared.paces.Fate.{Fate}
use Rattle.listener.proofs.NewestUnits.{keep_same, overheard_more}
use Rattle.station_c.specs.HeardRecords.{TellsHeard}
use Rattle.station_c.specs.HeardSeries.{OverhearsFrame, HearsFrames, HearsGap, HearsMore, tells_all, time_handed}
use Rattle.station_c.specs.ListedListeners.{ListedListenerValue, TakesFrame, TakesGap, TakesHeard}
use Rattle.station_c.specs.Records.{frame_recorded}
use Rattle.station_c.specs.declared.heard_records.HeardRecord.{HeardRecord}
use Rattle.station_c.specs.declared.log_records.LoggedRecord.{LoggedRecord}
use Rattle.station_c.specs.declared.records.FrameRecord.{FrameRecord}

-- what the call of a listener says of a reading, of a listener with its lists
pub takes_heard : (before : ListedListenerValue) (ear : PacedValue) (lists : NewestSentValue) (broken : List BrokenMessage) (count : ℕ) (x : Reading) (entry : Option SentEntry) (c : Overheard)
    → ear.silence ≡ before.ear.silence → IsHeard HasNewestSent before.ear.listener ear.listener before.lists lists x entry c
    → TakesHeard before x c (record { ear = ear; lists = lists; broken = broken; broken_count = count })
takes_heard before ear lists broken count x entry c silence is = record {
  heard = λ h has. (is.stands h has.0, overheard_more before.lists lists x h (is.listed h has.0) has.1);
  change = λ h has. is.heard h has.0;
  silence = silence;
  keeps = keep_same before.lists lists entry is.put;
}

-- a frame was read, its fate asked for, what it may end noted, the frame taken, and what it broke settled
pub takes_frame : (before : ListedListenerValue) (was ear : PacedValue) (were lists : NewestSentValue) (first noted settled : BrokenValue) (now : Option ℕ) (g : Group) (f : FrameValue) (fate : Fate) (c : Overheard) (whole : Bool)
    → record { ear = was; lists = were; broken = first.newest; broken_count = first.count } ≡ before
    → g ≡ group_of f → fate ≡ fate_in was now g → noted.suspects ≡ may_end was fate g → noted.count ≡ first.count
    → ((h : FrameValue) → group_of h ≡ g → IsHeard HasNewestSent was.listener ear.listener were lists (reading_in was now g h) (listed_in was now g) c)
    → ear.paces ≡ paces_after was.silence now g was.paces → ear.silence ≡ was.silence → whole ≡ was_whole c
    → settled.newest ≡ with_numbers noted.count (those_broken ear whole noted.suspects) → settled.count ≡ broken_count noted.count (those_broken ear whole noted.suspects)
    → TakesFrame before now f c (record { ear = ear; lists = lists; broken = settled.newest; broken_count = settled.count })
takes_frame before was ear were lists first noted settled now g f fate c whole view of_frame fates suspects counted heard paces silence wholes newest count =
    let all : noted.suspects ≡ may_end was (fate_in was now (group_of f)) (group_of f) =
    suspects ∙ (ap (λ (v : Fate). may_end was v g) fates ∙ ap (λ (x : Group). may_end was (fate_in was now x) x) of_frame) in
    subst (λ (b : ListedListenerValue). TakesFrame b now f c (record { ear = ear; lists = lists; broken = settled.newest; broken_count = settled.count })) view (record {
      takes = takes_heard (record { ear = was; lists = were; broken = first.newest; broken_count = first.count }) ear lists settled.newest settled.count (reading_in was now (group_of f) f) (listed_in was now (group_of f)) c silence
          (subst (λ (x : Group). IsHeard HasNewestSent was.listener ear.listener were lists (reading_in was now x f) (listed_in was now x) c) of_frame (heard f (sym of_frame)));
      paces = paces ∙ ap (λ (x : Group). paces_after was.silence now x was.paces) of_frame;
      broken = newest ∙ (λ i. with_numbers (counted i) (those_broken ear (wholes i) (all i)));
      count = count ∙ (λ i. broken_count (counted i) (those_broken ear (wholes i) (all i)));
    })

pub hears_frame : (before after : ListedListenerValue) (now : Option ℕ) (f : FrameValue) (c : Overheard) (told : HeardRecord) (messages : List BrokenMessage)
    → TakesFrame before now f c after → messages ≡ after.broken → TellsHeard told c messages → OverhearsFrame before now f told after
hears_frame before after now f c told messages takes same tells =
    record { change = c; takes = takes; tells = subst (λ (m : List BrokenMessage). TellsHeard told c m) same tells }

pub hears_gap : (before after : ListedListenerValue) (missed : ℕ) (c : Overheard) (told : HeardRecord) (messages : List BrokenMessage)
    → TakesGap before missed c after → messages ≡ after.broken → TellsHeard told c messages → HearsGap before missed told after
hears_gap before after missed c told messages takes same tells =
    record { change = c; takes = takes; tells = subst (λ (m : List BrokenMessage). TellsHeard told c m) (same ∙ takes.broken) tells }

-- all was told of these and of one more
all_more : (cs : List HeardRecord) (c : HeardRecord) (b : Bool) → list_all tells_all cs ≡ true → tells_all c ≡ b → list_all tells_all (cs ++ c ∷ []) ≡ b
all_more [] c true all one = ap (λ (v : Bool). v && true) one
all_more [] c false all one = ap (λ (v : Bool). v && true) one
all_more (d ∷ cs) c b all one = by (tells_all d) all (λ rest. all_more cs c b rest one)
  where
    by : (v : Bool) → (v && list_all tells_all cs) ≡ true → (list_all tells_all cs ≡ true → list_all tells_all (cs ++ c ∷ []) ≡ b)
        → (v && list_all tells_all (cs ++ c ∷ [])) ≡ b
    by true rest more = more rest
    by false rest more = absurd cc

pub told_more : (cs : List HeardRecord) (i : ℕ) (c : HeardRecord) (b : Bool) → i < length cs → list_all tells_all (take i cs) ≡ true → tells_all c ≡ b
    → list_all tells_all (take (i + 1) (set cs i c)) ≡ b
told_more cs i c b low all one = ap (list_all tells_all) (take_more_set cs i c low) ∙ all_more (take i cs) c b all one

-- the frames before a place were taken, and then the one at that place
pub heard_more : (before between after : ListedListenerValue) (fs : List FrameRecord) (ls : List LoggedRecord) (cs : List HeardRecord) (i : ℕ) (d : FrameRecord) (e : LoggedRecord) (c : HeardRecord)
    → i < length fs → i < length ls → i < length cs
    → HearsFrames before (take i fs) (take i ls) (take i cs) between → list_all tells_all (take i cs) ≡ true
    → (get_or fs i d).id < 2 ^ 29 → (get_or fs i d).len ≤ 8
    → OverhearsFrame between (time_handed (get_or ls i e).time) (frame_recorded (get_or fs i d)) c after
    → HearsFrames before (take (i + 1) fs) (take (i + 1) ls) (take (i + 1) (set cs i c)) after
heard_more before between after fs ls cs i d e c low timed high some all small short one =
    rw (take_more_set cs i c high, take_more fs i d low, take_more ls i e timed)
    (HearsMore before between after (take i fs) (take i ls) (take i cs) (get_or fs i d) (get_or ls i e) c some all small short one)

-- a listener that was lifted took a frame, or a gap, and was put back
pub heard_lifted : (old lifted after new : ListedListenerValue) (now : Option ℕ) (f : FrameValue) (told : HeardRecord) → lifted ≡ old → new ≡ after
    → OverhearsFrame lifted now f told after → OverhearsFrame old now f told new
heard_lifted old lifted after new now f told e is one =
    subst (λ (v : ListedListenerValue). OverhearsFrame v now f told new) e (subst (λ (v : ListedListenerValue). OverhearsFrame lifted now f told v) (sym is) one)

pub gap_lifted : (old lifted after new : ListedListenerValue) (missed : ℕ) (told : HeardRecord) → lifted ≡ old → new ≡ after
    → HearsGap lifted missed told after → HearsGap old missed told new
gap_lifted old lifted after new missed told e is one =
    subst (λ (v : ListedListenerValue). HearsGap v missed told new) e (subst (λ (v : ListedListenerValue). HearsGap lifted missed told v) (sym is) one)
