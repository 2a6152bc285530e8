-- What a listener that looks at times makes of a frame.
use Rattle.std.proofs.Common.{◌≡◌, ℕ, ◌<◌, List, ◌∷◌, Option, Some, refl, sym, ap, ◌∙◌, subst}
use Rattle.std.specs.Prelude.{Result, Ok, Err, IfOk, OnOk}
use Rattle.bus_model.specs.Overheard.{HalfSent}
use Rattle.bus_model.specs.OverheardChanged.{change_overheard}
use Rattle.bus_model.specs.declared.overheard.Overheard.{Overheard}
use Rattle.can_frame.specs.FrameValue.{FrameValue}
use Rattle.can_frame.specs.declared.reading.Reading.{Reading}
use Rattle.can_frame.specs.declared.reading.Reading.TheVariants.{Frame}
use Rattle.parameter_group.specs.Group.{Acknowledgment, AddressClaimed, CannotClaim, ConnectionManagement, DataTransfer, Diagnostic, Group, Other, Request, group_of}
use Rattle.reassembly.specs.Pacing.{fate_of}
use Rattle.reassembly.specs.Pairs.{pair_at, with_pair}
use Rattle.reassembly.specs.TableLaws.{pair_restored}
use Rattle.reassembly.specs.declared.paces.Fate.{Fate}
use Rattle.reassembly.specs.declared.paces.Fate.TheVariants.{Read}
use Rattle.reassembly.specs.declared.pacing.Pace.{Pace}
use Rattle.reassembly.specs.declared.pacing.Silence.{Silence}
use Rattle.parameter_group.specs.Laws.{sender, sender_below}
use Rattle.listener.specs.ListenerValue.{HasOverheard, ListenerValue}
use Rattle.listener.specs.Paced.{IsHeard, PacedValue, announced_between, fate_by, fate_in, half_heard, half_in, listed_if, listed_in, reading_if, reading_in, reading_paced}
use Rattle.listener.specs.SentEntries.{HasTaken, SaysSent, entry_sent, group_listed}
use Rattle.listener.specs.declared.entry.SentEntry.{SentEntry}
use Rattle.listener.proofs.Stands.{receiver, receiver_below}

-- ---- an announcement

pub announced_read : (l : PacedValue) (now : Option ℕ) (g : Group) (p : ℕ × ℕ) → announced_between g ≡ Some p → fate_in l now g ≡ Read
announced_read l now (DataTransfer a e bytes) p never = absurd cc
announced_read l now (ConnectionManagement e r c) p is = refl
announced_read l now (AddressClaimed a n) p is = refl
announced_read l now (CannotClaim n) p is = refl
announced_read l now (Acknowledgment c q r e a) p is = refl
announced_read l now (Diagnostic k a bytes) p is = refl
announced_read l now (Request r e a) p is = refl
announced_read l now Other p is = refl

-- an announcement that was refused
pub undone : (before after restored : List (List (Option Pace))) (s d : ℕ) (v o : Option Pace) → after ≡ with_pair before s d v → o ≡ pair_at before s d → restored ≡ with_pair after s d o → restored ≡ before
undone before after restored s d v o put was back =
    back ∙ (ap (λ (p : List (List (Option Pace))). with_pair p s d o) put ∙ (ap (λ (x : Option Pace). with_pair (with_pair before s d v) s d x) was ∙ pair_restored before s d v))

-- ---- what a listener's call says of a frame that is read

pub heard_frame : {L : Type 0} (takes : L → SentEntry → L → Type 0) (old : PacedValue) (inside new : ListenerValue) (before after : L) (now : Option ℕ) (g : Group) (c : Overheard) → inside ≡ old.listener → fate_in old now g ≡ Read
    → ((f : FrameValue) → group_of f ≡ g → IsHeard takes inside new before after (Frame f) (group_listed inside g) c)
    → (f : FrameValue) → group_of f ≡ g → IsHeard takes old.listener new before after (reading_in old now g f) (listed_in old now g) c
heard_frame takes old inside new before after now g c same read heard f is =
    subst (λ (v : Fate). IsHeard takes old.listener new before after (reading_if v f) (listed_if v old.listener g) c) (sym read)
    (subst (λ (l : ListenerValue). IsHeard takes l new before after (Frame f) (group_listed l g) c) same (heard f is))

pub frame_if_ok : {E L : Type 0} (result : Result Overheard E) (takes : L → SentEntry → L → Type 0) (old : PacedValue) (inside new : ListenerValue) (before after : L) (now : Option ℕ) (g : Group) → inside ≡ old.listener
    → fate_in old now g ≡ Read
    → OnOk result ((f : FrameValue) → group_of f ≡ g → (h : List Reading) → HasOverheard inside h → HasOverheard new (Frame f ∷ h))
    → IfOk result (λ c. (f : FrameValue) → group_of f ≡ g → (h : List Reading) → HasOverheard inside h → c ≡ change_overheard (Frame f) h)
    → OnOk result ((f : FrameValue) → group_of f ≡ g → (h : List Reading) → HasOverheard inside h → HasTaken takes before (entry_sent (Frame f) h) after)
    → IfOk result (λ c. SaysSent c (group_listed inside g)) → OnOk result (HasTaken takes before (group_listed inside g) after)
    → IfOk result (λ c. (f : FrameValue) → group_of f ≡ g → IsHeard takes old.listener new before after (reading_in old now g f) (listed_in old now g) c)
frame_if_ok (Ok c) takes old inside new before after now g same read stands heard listed says put =
    heard_frame takes old inside new before after now g c same read (λ f is. record { stands = stands f is; heard = heard f is; listed = listed f is; says = says; put = put })
frame_if_ok (Err r) takes old inside new before after now g same read stands heard listed says put = tt

-- ---- by the tables and by what was heard

fate_same : (l : ListenerValue) (h : List Reading) (silence : Silence) (now : Option ℕ) (paces : List (List (Option Pace))) (g : Group) → sender g < 256 → receiver g < 256 → HasOverheard l h
    → fate_by silence now paces (half_in l) g ≡ fate_by silence now paces (half_heard h) g
fate_same l h silence now paces (DataTransfer s d bytes) lt lu st = ap (λ (o : Option HalfSent). fate_of silence now bytes (pair_at paces s d) o) (st.pairs s d lt lu)
fate_same l h silence now paces (AddressClaimed a n) lt lu st = refl
fate_same l h silence now paces (CannotClaim n) lt lu st = refl
fate_same l h silence now paces (Acknowledgment c q p d a) lt lu st = refl
fate_same l h silence now paces (Diagnostic k a bytes) lt lu st = refl
fate_same l h silence now paces (ConnectionManagement a d c) lt lu st = refl
fate_same l h silence now paces (Request p d a) lt lu st = refl
fate_same l h silence now paces Other lt lu st = refl

pub reading_same : (l : ListenerValue) (h : List Reading) (silence : Silence) (now : Option ℕ) (paces : List (List (Option Pace))) (f : FrameValue) → HasOverheard l h
    → reading_paced silence now paces (half_in l) f ≡ reading_paced silence now paces (half_heard h) f
reading_same l h silence now paces f st = ap (λ (v : Fate). reading_if v f) (fate_same l h silence now paces (group_of f) (sender_below f) (receiver_below f) st)
