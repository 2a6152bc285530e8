-- What a reading changes by the tables is what was overheard to change.
use Rattle.std.proofs.Common.{◌≡◌, ℕ, ◌<◌, Bool, ◌==◌, List, Option, Some, None, if◌then◌else◌, refl, sym, ap, ◌∙◌}
use Rattle.address_claim.specs.Claiming.{is_held}
use Rattle.bus_model.specs.Changed.{displaced_by, is_again}
use Rattle.bus_model.specs.Heard.{RowHeard, ack_in_row, address_in_row, kind_of, owner_heard}
use Rattle.bus_model.specs.Overheard.{HalfSent, address_overheard, sent_by, sent_whole}
use Rattle.bus_model.specs.OverheardChanged.{ack_overheard, announcement_change, change_overheard, claim_overheard, gave_up, group_overheard, has_still, sent_change}
use Rattle.bus_model.specs.declared.overheard.Overheard.{Overheard}
use Rattle.bus_model.specs.declared.overheard.Overheard.TheVariants.{Acknowledged, Nothing}
use Rattle.can_frame.specs.FrameValue.{FrameValue}
use Rattle.can_frame.specs.declared.reading.Reading.{Reading}
use Rattle.can_frame.specs.declared.reading.Reading.TheVariants.{Frame, Gap, Empty}
use Rattle.dm_messages.specs.declared.kind.Kind.{Kind}
use Rattle.parameter_group.specs.Group.{Acknowledgment, AddressClaimed, CannotClaim, ConnectionManagement, DataTransfer, Diagnostic, Group, Other, Request, group_of}
use Rattle.reassembly.specs.Partials.{with_packet}
use Rattle.reassembly.specs.Tables.{at}
use Rattle.transport.specs.declared.control.Control.{Control}
use Rattle.transport.specs.declared.control.Control.TheVariants.{Bam}
use Rattle.entry_lists.specs.KeptValue.{kept_under}
use Rattle.entry_lists.proofs.RowClaims.{address_words}
use Rattle.parameter_group.specs.Laws.{sender, sender_below}
use Rattle.listener.specs.ListenerSteps.{ack_told, address_in_tables, group_told, has_in_tables, in_one_frame, reading_told, whole_with}
use Rattle.listener.specs.ListenerValue.{HasOverheard, ListenerValue}
use Rattle.listener.proofs.Hears.{whose}
use Rattle.listener.proofs.Stands.{receiver, receiver_below}

address_same : (l : ListenerValue) (h : List Reading) → HasOverheard l h → (n : ℕ) → address_in_tables l n ≡ address_overheard n h
address_same l h st n = address_words l.owners n (kept_under l.rows n) ∙ ap (λ (o : Option RowHeard). address_in_row o) (st.rows n)

still_same : (l : ListenerValue) (h : List Reading) → HasOverheard l h → (a : ℕ) (own : Option ℕ) → has_in_tables l own a ≡ has_still own a h
still_same l h st a None = refl
still_same l h st a (Some m) = ap (λ (o : Option ℕ). is_held o a) (address_same l h st m)

ack_same : (l : ListenerValue) (h : List Reading) → HasOverheard l h → (c q p d a : ℕ) (own : Option ℕ) → ack_told l own c q p d a ≡ ack_overheard own c q p d a h
ack_same l h st c q p d a None = refl
ack_same l h st c q p d a (Some m) = ap (λ (o : Option RowHeard). Acknowledged m c p a q d (is_again c p (ack_in_row o))) (st.rows m)

-- the message that a frame ends
pub single_same : (l : ListenerValue) (h : List Reading) (k : Kind) (a : ℕ) (bytes : List ℕ) → a < 256 → HasOverheard l h → in_one_frame l (Diagnostic k a bytes) ≡ sent_by (Diagnostic k a bytes) h
single_same l h k a bytes lt st = rw (whose l h a lt st) refl

pub packet_same : (l : ListenerValue) (h : List Reading) (a d : ℕ) (bytes : List ℕ) → a < 256 → d < 256 → HasOverheard l h → whole_with l a d bytes ≡ sent_by (DataTransfer a d bytes) h
packet_same l h a d bytes lt lu st = ap (λ (o : Option HalfSent). sent_whole d (with_packet bytes o)) (st.pairs a d lt lu)

control_same : (l : ListenerValue) (h : List Reading) (a d : ℕ) (c : Control) → a < 256 → HasOverheard l h → group_told l (ConnectionManagement a d c) ≡ group_overheard (ConnectionManagement a d c) h
control_same l h a d (Bam size packets pgn) lt st = ap (λ (o : Option ℕ). if d == 255 then announcement_change (kind_of pgn) a o else Nothing) (st.owners a lt)
control_same l h a d _ lt st = refl

group_same : (l : ListenerValue) (h : List Reading) (g : Group) → sender g < 256 → receiver g < 256 → HasOverheard l h → group_told l g ≡ group_overheard g h
group_same l h (AddressClaimed a n) lt lu st =
    ap (λ (o : Option ℕ). claim_overheard n a (is_held o a) (displaced_by n (at l.owners a) (has_in_tables l (at l.owners a) a))) (address_same l h st n)
    ∙ (ap (λ (o : Option ℕ). claim_overheard n a (is_held (address_overheard n h) a) (displaced_by n o (has_in_tables l o a))) (st.owners a lt)
    ∙ ap (λ (b : Bool). claim_overheard n a (is_held (address_overheard n h) a) (displaced_by n (owner_heard a h) b)) (still_same l h st a (owner_heard a h)))
group_same l h (CannotClaim n) lt lu st = ap (gave_up n) (st.rows n)
group_same l h (Acknowledgment c q p d a) lt lu st = ap (λ (o : Option ℕ). ack_told l o c q p d a) (st.owners a lt) ∙ ack_same l h st c q p d a (owner_heard a h)
group_same l h (Diagnostic k a bytes) lt lu st = ap (sent_change a) (single_same l h k a bytes lt st)
group_same l h (ConnectionManagement a d c) lt lu st = control_same l h a d c lt st
group_same l h (DataTransfer a d bytes) lt lu st = ap (sent_change a) (packet_same l h a d bytes lt lu st)
group_same l h (Request p d a) lt lu st = refl
group_same l h Other lt lu st = refl

reading_same : (l : ListenerValue) (h : List Reading) (x : Reading) → HasOverheard l h → reading_told l x ≡ change_overheard x h
reading_same l h Empty st = refl
reading_same l h (Gap n) st = refl
reading_same l h (Frame f) st = group_same l h (group_of f) (sender_below f) (receiver_below f) st

-- at a call's answer
pub heard_by_reading : (l : ListenerValue) (h : List Reading) (x : Reading) (c : Overheard) → c ≡ reading_told l x → HasOverheard l h → c ≡ change_overheard x h
heard_by_reading l h x c e st = e ∙ reading_same l h x st

pub heard_by_group : (l : ListenerValue) (h : List Reading) (f : FrameValue) (g : Group) (c : Overheard) → group_of f ≡ g → c ≡ group_told l g → HasOverheard l h → c ≡ change_overheard (Frame f) h
heard_by_group l h f g c is e st = e ∙ (ap (group_told l) (sym is) ∙ reading_same l h (Frame f) st)
