-- What a call tells that takes a reading, where it is not refused.
use Rattle.std.proofs.Common.{◌≡◌, List, ◌∷◌}
use Rattle.std.specs.Prelude.{Result, Ok, Err, IfOk, OnOk}
use Rattle.bus_model.specs.OverheardChanged.{change_overheard}
use Rattle.bus_model.specs.declared.overheard.Overheard.{Overheard}
use Rattle.can_frame.specs.FrameValue.{FrameValue}
use Rattle.can_frame.specs.declared.reading.Reading.{Reading}
use Rattle.can_frame.specs.declared.reading.Reading.TheVariants.{Frame}
use Rattle.parameter_group.specs.Group.{Group, group_of}
use Rattle.listener.specs.ListenerSteps.{group_taken, group_told, after_listening, reading_told}
use Rattle.listener.specs.ListenerValue.{HasOverheard, ListenerValue}
use Rattle.listener.specs.SentEntries.{HasTaken, SaysSent, entry_sent, group_listed, reading_listed}
use Rattle.listener.specs.declared.entry.SentEntry.{SentEntry}
use Rattle.listener.proofs.Entering.{listed_by_group, listed_by_reading, says_by_group, says_by_reading}
use Rattle.listener.proofs.Stands.{stands_by_group, stands_by_reading}
use Rattle.listener.proofs.Told.{heard_by_group, heard_by_reading}

-- a reading

pub heard_if_ok : {E : Type 0} (result : Result Overheard E) (l : ListenerValue) (x : Reading) → IfOk result (λ c. c ≡ reading_told l x)
    → IfOk result (λ c. (h : List Reading) → HasOverheard l h → c ≡ change_overheard x h)
heard_if_ok (Ok c) l x e = λ h st. heard_by_reading l h x c e st
heard_if_ok (Err r) l x e = tt

pub stands_on_ok : {T E : Type 0} (result : Result T E) (l m : ListenerValue) (x : Reading) → OnOk result (m ≡ after_listening l x)
    → OnOk result ((h : List Reading) → HasOverheard l h → HasOverheard m (x ∷ h))
stands_on_ok (Ok c) l m x e = λ h st. stands_by_reading l m h x e st
stands_on_ok (Err r) l m x e = tt

pub listed_on_ok : {T E L : Type 0} (result : Result T E) (takes : L → SentEntry → L → Type 0) (before after : L) (l : ListenerValue) (x : Reading)
    → OnOk result (HasTaken takes before (reading_listed l x) after) → OnOk result ((h : List Reading) → HasOverheard l h → HasTaken takes before (entry_sent x h) after)
listed_on_ok (Ok c) takes before after l x put = λ h st. listed_by_reading takes before after l h x put st
listed_on_ok (Err r) takes before after l x put = tt

pub says_if_ok : {E : Type 0} (result : Result Overheard E) (l : ListenerValue) (x : Reading) → IfOk result (λ c. c ≡ reading_told l x) → IfOk result (λ c. SaysSent c (reading_listed l x))
says_if_ok (Ok c) l x e = says_by_reading l x c e
says_if_ok (Err r) l x e = tt

-- what one frame says

pub group_heard_if_ok : {E : Type 0} (result : Result Overheard E) (l : ListenerValue) (g : Group) → IfOk result (λ c. c ≡ group_told l g)
    → IfOk result (λ c. (f : FrameValue) → group_of f ≡ g → (h : List Reading) → HasOverheard l h → c ≡ change_overheard (Frame f) h)
group_heard_if_ok (Ok c) l g e = λ f is h st. heard_by_group l h f g c is e st
group_heard_if_ok (Err r) l g e = tt

pub group_stands_on_ok : {T E : Type 0} (result : Result T E) (l m : ListenerValue) (g : Group) → OnOk result (m ≡ group_taken l g)
    → OnOk result ((f : FrameValue) → group_of f ≡ g → (h : List Reading) → HasOverheard l h → HasOverheard m (Frame f ∷ h))
group_stands_on_ok (Ok c) l m g e = λ f is h st. stands_by_group l m h f g is e st
group_stands_on_ok (Err r) l m g e = tt

pub group_listed_on_ok : {T E L : Type 0} (result : Result T E) (takes : L → SentEntry → L → Type 0) (before after : L) (l : ListenerValue) (g : Group)
    → OnOk result (HasTaken takes before (group_listed l g) after)
    → OnOk result ((f : FrameValue) → group_of f ≡ g → (h : List Reading) → HasOverheard l h → HasTaken takes before (entry_sent (Frame f) h) after)
group_listed_on_ok (Ok c) takes before after l g put = λ f is h st. listed_by_group takes before after l h f g is put st
group_listed_on_ok (Err r) takes before after l g put = tt

pub group_says_if_ok : {E : Type 0} (result : Result Overheard E) (l : ListenerValue) (g : Group) → IfOk result (λ c. c ≡ group_told l g) → IfOk result (λ c. SaysSent c (group_listed l g))
group_says_if_ok (Ok c) l g e = says_by_group l g c e
group_says_if_ok (Err r) l g e = tt
