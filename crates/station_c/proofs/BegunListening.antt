-- What stands anew of a listener, which is told a claim at a time.
use Rattle.std.proofs.Common.{arith, ◌≡◌, ◌⊎◌, inl, inr, ◌<◌, ◌≤◌, ◌++◌, if◌then◌else◌, ℕ, Bool, true, false, zero, suc, List, [], ◌∷◌, Option, Some, None, Result, Ok, Err, IfOk, OnOk, ◌+◌, length, take, refl, sym, ap, ◌∙◌, subst}
use Rattle.std.proofs.lemmas.List.{length-append, length-map}
use Rattle.std.specs.List.{list_any}
use Rattle.std.specs.Prelude.{slice_get}
use Rattle.bus_model.specs.Heard.{names_heard}
use Rattle.bus_model.specs.Overheard.{same_who}
use Rattle.bus_model.specs.declared.overheard.Overheard.{Overheard}
use Rattle.bus_model.specs.declared.who.Who.{Who}
use Rattle.can_frame.specs.FrameValue.{FrameValue}
use Rattle.can_frame.specs.declared.reading.Reading.{Reading}
use Rattle.can_frame.specs.declared.reading.Reading.TheVariants.{Frame, Gap}
use Rattle.listener.specs.ListenerValue.{HasOverheard, gaps_alone}
use Rattle.listener.specs.NewestSent.{HasNewestSent, KeepsOverheard, NewestSentValue, unit_of_key, units_overheard, with_unit_read}
use Rattle.listener.specs.Paced.{IsHeard, PacedValue}
use Rattle.listener.specs.SentEntries.{entry_sent}
use Rattle.listener.specs.declared.broken.BrokenMessage.{BrokenMessage}
use Rattle.listener.specs.declared.entry.SentEntry.{SentEntry}
use Rattle.listener.proofs.NewestUnits.{keep_same, overheard_more}
use Rattle.station_c.specs.Anew.{AreTooMany, BeginsAnewListening, HasFewer, IsQuietAs, KeepsOwners, MakesRoomListening, claims_held, gaps_anew, with_claims_of, with_frame}
use Rattle.station_c.specs.ListedListeners.{HasHeard, ListedListenerValue}
use Rattle.station_c.proofs.Claims.{gaps_own_nothing, more_told}

-- gaps list nothing
gaps_overheard : (lists : NewestSentValue) (n : ℕ) → KeepsOverheard lists [] → KeepsOverheard lists (gaps_alone n)
gaps_overheard lists zero kept = kept
gaps_overheard lists (suc n) kept = overheard_more lists lists (Gap 0) (gaps_alone n) refl (gaps_overheard lists n kept)

pub nobody_heard : (ear : PacedValue) (lists : NewestSentValue) (broken : List BrokenMessage) (count n : ℕ) → HasOverheard ear.listener (gaps_alone n) → KeepsOverheard lists []
    → HasHeard (record { ear = ear; lists = lists; broken = broken; broken_count = count }) (gaps_alone n)
nobody_heard ear lists broken count n heard kept = (heard, gaps_overheard lists n kept)

-- a claim was heard, and is behind what was heard before
pub heard_claim : {E : Type 0} (result : Result Overheard E) (old : ListedListenerValue) (was ear : PacedValue) (were lists : NewestSentValue) (broken : List BrokenMessage) (count : ℕ) (f : FrameValue) (entry : Option SentEntry)
    → record { ear = was; lists = were; broken = broken; broken_count = count } ≡ old
    → IfOk result (λ c. IsHeard HasNewestSent was.listener ear.listener were lists (Frame f) entry c)
    → OnOk result ((h : List Reading) → HasHeard old h → HasHeard (record { ear = ear; lists = lists; broken = broken; broken_count = count }) (Frame f ∷ h))
heard_claim (Err e) old was ear were lists broken count f entry view is = tt
heard_claim (Ok c) old was ear were lists broken count f entry view is = λ h has.
    (let before : HasHeard (record { ear = was; lists = were; broken = broken; broken_count = count }) h = subst (λ (v : ListedListenerValue). HasHeard v h) (sym view) has in
    (is.stands h before.0, overheard_more were lists (Frame f) h (is.listed h before.0) before.1))

-- the claim, if there is one
pub heard_some : (was after : ListedListenerValue) (o : Option FrameValue) (f : FrameValue) → o ≡ Some f → ((h : List Reading) → HasHeard was h → HasHeard after (Frame f ∷ h))
    → (h : List Reading) → HasHeard was h → HasHeard after (with_frame o h)
heard_some was after o f e heard h has = subst (λ (p : Option FrameValue). HasHeard after (with_frame p h)) (sym e) (heard h has)

pub heard_none : (was after : ListedListenerValue) (o : Option FrameValue) → o ≡ None → after ≡ was → (h : List Reading) → HasHeard was h → HasHeard after (with_frame o h)
heard_none was after o e same h has =
    subst (λ (p : Option FrameValue). HasHeard after (with_frame p h)) (sym e) (subst (λ (v : ListedListenerValue). HasHeard v h) (sym same) has)

pub quiet_claim : {E : Type 0} (result : Result Overheard E) (was : ListedListenerValue) (first ear : PacedValue) (were lists : NewestSentValue) (broken : List BrokenMessage) (count : ℕ) (x : Reading) (entry : Option SentEntry)
    → record { ear = first; lists = were; broken = broken; broken_count = count } ≡ was
    → IfOk result (λ c. IsHeard HasNewestSent first.listener ear.listener were lists x entry c) → ear.paces ≡ first.paces → ear.silence ≡ first.silence
    → OnOk result ((old : ListedListenerValue) → IsQuietAs old was → IsQuietAs old (record { ear = ear; lists = lists; broken = broken; broken_count = count }))
quiet_claim (Err e) was first ear were lists broken count x entry view is paces silence = tt
quiet_claim (Ok c) was first ear were lists broken count x entry view is paces silence = λ old quiet.
    (let before : IsQuietAs old (record { ear = first; lists = were; broken = broken; broken_count = count }) = subst (λ (v : ListedListenerValue). IsQuietAs old v) (sym view) quiet in
    record {
      paces = paces ∙ before.paces;
      silence = silence ∙ before.silence;
      keeps = keep_same were lists entry is.put ∙ before.keeps;
      broken = before.broken;
      count = before.count;
    })

-- one claim more of those that are told one after the other
pub heard_next : (was after joined : ListedListenerValue) (claim : ℕ → Option FrameValue) (names : List ℕ) (i n : ℕ) (o : Option FrameValue) (first : List Reading)
    → slice_get names i ≡ Some n → o ≡ claim n → ((h : List Reading) → HasHeard was h → HasHeard after (with_frame o h))
    → after ≡ joined → HasHeard was (with_claims_of claim (take i names) first) → HasHeard joined (with_claims_of claim (take (i + 1) names) first)
heard_next was after joined claim names i n o first at is tells same before =
    more_told (λ (h : List Reading). HasHeard was h) (λ (h : List Reading). HasHeard joined h) claim names i n o first at is
    (λ h has. subst (λ (v : ListedListenerValue). HasHeard v (with_frame o h)) same (tells h has)) before

-- ---- one reading has one unit more at most that has lists

with_unit_more : (w : Who) (units : List Who) (b : Bool) → length (if b then units else units ++ w ∷ []) ≤ length units + 1
with_unit_more w units true = omega arith
with_unit_more w units false = omega (arith, length-append units (w ∷ []))

with_read_more : (e : Option SentEntry) (units : List Who) → length (with_unit_read e units) ≤ length units + 1
with_read_more None units = omega arith
with_read_more (Some e) units = with_unit_more e.who units (list_any (same_who e.who) units)

pub one_unit_more : (x : Reading) (h : List Reading) → length (units_overheard (x ∷ h)) ≤ length (units_overheard h) + 1
one_unit_more x h = with_read_more (entry_sent x h) (units_overheard h)

-- ---- which is gone on with

pub anew_with : (old l : ListedListenerValue) (most : ℕ) → HasHeard l (claims_held old.ear.listener.owners old.ear.listener.rows (gaps_alone (gaps_anew old)))
    → KeepsOwners old.ear.listener.owners (claims_held old.ear.listener.owners old.ear.listener.rows (gaps_alone (gaps_anew old))) → IsQuietAs old l
    → BeginsAnewListening most old l
anew_with old l most has owners quiet = record {
  heard = claims_held old.ear.listener.owners old.ear.listener.rows (gaps_alone (gaps_anew old));
  claims = inl refl;
  owners = owners;
  has = has;
  quiet = quiet;
}

names_of : (l : ListedListenerValue) (h : List Reading) → HasHeard l h → length l.ear.listener.rows ≡ length (names_heard h)
names_of l h has = sym (length-map l.ear.listener.rows (λ e. e.0)) ∙ ap (λ (ns : List ℕ). length ns) has.0.names

units_of : (l : ListedListenerValue) (h : List Reading) → HasHeard l h → length l.lists.order ≡ length (units_overheard h)
units_of l h has = sym (length-map l.lists.order unit_of_key) ∙ ap (λ us. length us) has.1.units

too_many : (l : ListedListenerValue) (h : List Reading) (most : ℕ) → HasHeard l h → (most ≤ length l.ear.listener.rows) ⊎ (most ≤ length l.lists.order) → AreTooMany most h
too_many l h most has (inl names) = inl (subst (λ (n : ℕ). most ≤ n) (names_of l h has) names)
too_many l h most has (inr units) = inr (subst (λ (n : ℕ). most ≤ n) (units_of l h has) units)

pub anew_without : {E : Type 0} (result : Result ListedListenerValue E) (old full : ListedListenerValue) (most : ℕ)
    → HasHeard full (claims_held old.ear.listener.owners old.ear.listener.rows (gaps_alone (gaps_anew old)))
    → (most ≤ length full.ear.listener.rows) ⊎ (most ≤ length full.lists.order)
    → IfOk result (λ l. HasHeard l (gaps_alone (gaps_anew old))) → IfOk result (λ l. IsQuietAs old l) → IfOk result (λ l. BeginsAnewListening most old l)
anew_without (Err e) old full most all many has quiet = tt
anew_without (Ok l) old full most all many has quiet = record {
  heard = gaps_alone (gaps_anew old);
  claims = inr (refl, too_many full (claims_held old.ear.listener.owners old.ear.listener.rows (gaps_alone (gaps_anew old))) most all many);
  owners = gaps_own_nothing old.ear.listener.owners (gaps_anew old);
  has = has;
  quiet = quiet;
}

pub room_without : (l : ListedListenerValue) (most : ℕ) → (l.ear.listener.rows ≡ []) × (l.lists.order ≡ []) → 0 < most → HasFewer most l
room_without l most few some =
    (subst (λ (n : ℕ). n < most) (sym (ap (λ rs. length rs) few.0)) some, subst (λ (n : ℕ). n < most) (sym (ap (λ us. length us) few.1)) some)

pub room_there : (most : ℕ) (old new : ListedListenerValue) → new ≡ old → HasFewer most old → MakesRoomListening most old new false
room_there most old new e room = record { room = subst (λ (v : ListedListenerValue). HasFewer most v) (sym e) room; same = λ _. (room, e); begun = λ no. absurd (cc no) }

pub room_made : (most : ℕ) (old new : ListedListenerValue) → (most ≤ length old.ear.listener.rows) ⊎ (most ≤ length old.lists.order) → BeginsAnewListening most old new → HasFewer most new
    → MakesRoomListening most old new true
room_made most old new many anew room = record { room = room; same = λ no. absurd (cc no); begun = λ _. (many, anew) }

pub room_lifted : (most : ℕ) (b : Bool) (was old new after : ListedListenerValue) → was ≡ old → after ≡ new → MakesRoomListening most was new b → MakesRoomListening most old after b
room_lifted most b was old new after e f made =
    subst (λ (v : ListedListenerValue). MakesRoomListening most old v b) (sym f) (subst (λ (v : ListedListenerValue). MakesRoomListening most v new b) e made)
