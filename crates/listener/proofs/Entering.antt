-- The entry that a reading lists by the tables is the one that was overheard; the change says it; and what becomes of the lists.
use Rattle.std.proofs.Common.{◌≡◌, ℕ, ◌<◌, Bool, true, false, ◌==◌, ◌&&◌, List, [], ◌∷◌, ◌++◌, Option, Some, None, if◌then◌else◌, is_some, reverse, append-nil, refl, sym, ap, ◌∙◌, subst}
use Rattle.std.proofs.lemmas.Grind.{reverse_onto}
use Rattle.address_claim.specs.Claiming.{is_held}
use Rattle.bus_model.specs.Heard.{RowHeard, kind_of}
use Rattle.bus_model.specs.Overheard.{EntrySent, MessageSent, entries_overheard, put_sent, put_shown, same_who, sent_by}
use Rattle.bus_model.specs.OverheardChanged.{announcement_change, gave_up, change_of_read, sent_change}
use Rattle.bus_model.specs.declared.overheard.Overheard.{Overheard}
use Rattle.bus_model.specs.declared.who.Who.{Who}
use Rattle.can_frame.specs.FrameValue.{FrameValue}
use Rattle.can_frame.specs.declared.reading.Reading.{Reading}
use Rattle.can_frame.specs.declared.reading.Reading.TheVariants.{Frame, Gap, Empty}
use Rattle.dm_messages.specs.Tolerant.{message_read, tolerant, whole_or_part}
use Rattle.dm_messages.specs.View.{decoding, same_kind}
use Rattle.dm_messages.specs.declared.kind.Kind.{Kind}
use Rattle.dm_messages.specs.declared.shown.Shown.{Shown}
use Rattle.dm_messages.specs.declared.tolerant.MessageRead.{MessageRead}
use Rattle.dm_messages.specs.declared.tolerant.MessageRead.TheVariants.{Whole, InPart}
use Rattle.dm_messages.specs.declared.tolerant.Tolerant.{Tolerant}
use Rattle.parameter_group.specs.Group.{Acknowledgment, AddressClaimed, CannotClaim, ConnectionManagement, DataTransfer, Diagnostic, Group, Other, Request, group_of}
use Rattle.reassembly.specs.Tables.{at}
use Rattle.transport.specs.declared.control.Control.TheVariants.{Abort, Bam, Cts, EndAck, Rts}
use Rattle.entry_lists.specs.KeptValue.{kept_under}
use Rattle.entry_lists.specs.KnownRows.{row_known}
use Rattle.parameter_group.specs.Laws.{sender, sender_below}
use Rattle.listener.specs.ListenerSteps.{ack_told, address_in_tables, group_told, in_one_frame, reading_told, whole_with}
use Rattle.listener.specs.ListenerValue.{HasOverheard, ListenerValue}
use Rattle.listener.specs.ReadEntries.{EntryRead, entry_read_of, lists_read, whole_among, with_entry_read}
use Rattle.listener.specs.SentEntries.{HasTaken, SaysSent, entry_if_sent, entry_read, entry_sent, group_listed, group_sent, lists_overheard, put_whole, reading_listed, with_entry_sent}
use Rattle.listener.specs.declared.entry.SentEntry.{SentEntry}
use Rattle.listener.proofs.Stands.{receiver, receiver_below}
use Rattle.listener.proofs.Told.{packet_same, single_same}

-- ---- the tables and what was overheard

group_same : (l : ListenerValue) (h : List Reading) (g : Group) → sender g < 256 → receiver g < 256 → HasOverheard l h → group_listed l g ≡ group_sent g h
group_same l h (Diagnostic k a bytes) lt lu st = ap (entry_if_sent a) (single_same l h k a bytes lt st)
group_same l h (DataTransfer a d bytes) lt lu st = ap (entry_if_sent a) (packet_same l h a d bytes lt lu st)
group_same l h (AddressClaimed a n) lt lu st = refl
group_same l h (CannotClaim n) lt lu st = refl
group_same l h (Acknowledgment c q p d a) lt lu st = refl
group_same l h (ConnectionManagement a d c) lt lu st = refl
group_same l h (Request p d a) lt lu st = refl
group_same l h Other lt lu st = refl

entry_same : (l : ListenerValue) (h : List Reading) (x : Reading) → HasOverheard l h → reading_listed l x ≡ entry_sent x h
entry_same l h Empty st = refl
entry_same l h (Gap n) st = refl
entry_same l h (Frame f) st = group_same l h (group_of f) (sender_below f) (receiver_below f) st

-- ---- the change says it

says_sent : (source : ℕ) (o : Option MessageSent) → SaysSent (sent_change source o) (entry_if_sent source o)
says_sent source None = refl
says_sent source (Some m) = go (message_read m.bytes)
  where
    go : (r : Option MessageRead) → SaysSent (change_of_read source m r) (entry_read source m.to (record { who = m.who; kind = m.kind }) r)
    go None = refl
    go (Some (Whole v)) = (record { who = m.who; kind = m.kind; source = source; to = m.to; read = Whole v }, refl, refl, refl, refl, refl, refl)
    go (Some (InPart t)) = (record { who = m.who; kind = m.kind; source = source; to = m.to; read = InPart t }, refl, refl, refl, refl, refl, refl)

says_if : (b : Bool) (x y : Overheard) → SaysSent x None → SaysSent y None → SaysSent (if b then x else y) None
says_if true x y p q = p
says_if false x y p q = q

says_giving_up : (n : ℕ) (o : Option RowHeard) → SaysSent (gave_up n o) None
says_giving_up n None = refl
says_giving_up n (Some row) = says_if (is_some row.address) _ _ refl refl

says_answer : (l : ListenerValue) (own : Option ℕ) (c q p d a : ℕ) → SaysSent (ack_told l own c q p d a) None
says_answer l None c q p d a = refl
says_answer l (Some n) c q p d a = refl

says_announced : (k : Option Kind) (source : ℕ) (own : Option ℕ) → SaysSent (announcement_change k source own) None
says_announced None source own = refl
says_announced (Some k) source None = refl
says_announced (Some k) source (Some n) = refl

says_group : (l : ListenerValue) (g : Group) → SaysSent (group_told l g) (group_listed l g)
says_group l (AddressClaimed a n) = says_if (is_held (address_in_tables l n) a) _ _ refl refl
says_group l (CannotClaim n) = says_giving_up n (row_known l.owners n (kept_under l.rows n))
says_group l (Acknowledgment c q p d a) = says_answer l (at l.owners a) c q p d a
says_group l (Diagnostic k a bytes) = says_sent a (in_one_frame l (Diagnostic k a bytes))
says_group l (DataTransfer a d bytes) = says_sent a (whole_with l a d bytes)
says_group l (ConnectionManagement a d (Bam size packets pgn)) = says_if (d == 255) _ _ (says_announced (kind_of pgn) a (at l.owners a)) refl
says_group l (ConnectionManagement a d (Rts size packets most pgn)) = refl
says_group l (ConnectionManagement a d (Cts granted next pgn)) = refl
says_group l (ConnectionManagement a d (EndAck size packets pgn)) = refl
says_group l (ConnectionManagement a d (Abort reason pgn)) = refl
says_group l (Request p d a) = refl
says_group l Other = refl

says_reading : (l : ListenerValue) (x : Reading) → SaysSent (reading_told l x) (reading_listed l x)
says_reading l Empty = refl
says_reading l (Gap n) = refl
says_reading l (Frame f) = says_group l (group_of f)

-- ---- what becomes of the lists

-- an entry behind those that were overheard, newest first
turned : (heard : List EntrySent) (v : EntrySent) (b : Bool) → (if b then reverse heard ++ v ∷ [] else reverse heard) ≡ reverse (if b then v ∷ heard else heard)
turned heard v true = sym (reverse_onto heard v [])
turned heard v false = refl

both_ways : (heard : List EntrySent) (b : Bool) → (if b then reverse heard else reverse heard) ≡ reverse (if b then heard else heard)
both_ways heard true = refl
both_ways heard false = refl

if_same : {X : Type 0} (b : Bool) (x : X) → x ≡ (if b then x else x)
if_same true x = refl
if_same false x = refl

ended_after : (h : List Reading) (source : ℕ) (w : Who) (k : Kind) (o : Option MessageSent)
    → with_entry_sent (entry_if_sent source o) (lists_overheard h) w k ≡ reverse (put_sent w k o (entries_overheard w k h))
ended_after h source w k None = refl
ended_after h source w k (Some m) = go (decoding m.bytes) (tolerant m.bytes)
  where
    go : (v : Option Shown) (t : Option Tolerant) → with_entry_sent (entry_read source m.to (record { who = m.who; kind = m.kind }) (whole_or_part v t)) (lists_overheard h) w k
        ≡ reverse (if same_who m.who w && same_kind m.kind k then put_shown m.to v (entries_overheard w k h) else entries_overheard w k h)
    go None None = ap (λ (l : List EntrySent). reverse l) (if_same (same_who m.who w && same_kind m.kind k) (entries_overheard w k h))
    go None (Some t) = both_ways (entries_overheard w k h) (same_who m.who w && same_kind m.kind k)
    go (Some v) t = turned (entries_overheard w k h) (record { to = m.to; shown = v }) (same_who m.who w && same_kind m.kind k)

group_after : (h : List Reading) (w : Who) (k : Kind) (g : Group) → with_entry_sent (group_sent g h) (lists_overheard h) w k ≡ reverse (put_sent w k (sent_by g h) (entries_overheard w k h))
group_after h w k (Diagnostic l a bytes) = ended_after h a w k (sent_by (Diagnostic l a bytes) h)
group_after h w k (DataTransfer a d bytes) = ended_after h a w k (sent_by (DataTransfer a d bytes) h)
group_after h w k (AddressClaimed a m) = refl
group_after h w k (CannotClaim m) = refl
group_after h w k (Acknowledgment c q p d a) = refl
group_after h w k (ConnectionManagement a d c) = refl
group_after h w k (Request p d a) = refl
group_after h w k Other = refl

pub sent_lists_after : (x : Reading) (h : List Reading) (w : Who) (k : Kind) → with_entry_sent (entry_sent x h) (lists_overheard h) w k ≡ lists_overheard (x ∷ h) w k
sent_lists_after Empty h w k = refl
sent_lists_after (Gap m) h w k = refl
sent_lists_after (Frame f) h w k = group_after h w k (group_of f)

-- ---- those that were read whole

whole_append : (a b : List EntryRead) → whole_among (a ++ b) ≡ whole_among a ++ whole_among b
whole_append [] b = refl
whole_append (e ∷ a) b = by (is_some e.trouble) (whole_append a b)
  where
    one : EntrySent
    one = record { to = e.to; shown = e.shown }

    by : (t : Bool) → whole_among (a ++ b) ≡ whole_among a ++ whole_among b
        → (if t then whole_among (a ++ b) else one ∷ whole_among (a ++ b)) ≡ (if t then whole_among a else one ∷ whole_among a) ++ whole_among b
    by true same = same
    by false same = ap (λ (l : List EntrySent). one ∷ l) same

whole_read_with : (w : Who) (k : Kind) (e : Option SentEntry) (reads : Who → Kind → List EntryRead) (sent : Who → Kind → List EntrySent)
    → whole_among (reads w k) ≡ sent w k → whole_among (with_entry_read e reads w k) ≡ with_entry_sent e sent w k
whole_read_with w k None reads sent same = same
whole_read_with w k (Some e) reads sent same = go (same_who e.who w && same_kind e.kind k) e.read
  where
    go : (b : Bool) (r : MessageRead) → whole_among (if b then reads w k ++ entry_read_of e.to r ∷ [] else reads w k) ≡ (if b then put_whole e.to r (sent w k) else sent w k)
    go false r = same
    go true (Whole v) = whole_append (reads w k) (entry_read_of e.to (Whole v) ∷ []) ∙ ap (λ (l : List EntrySent). l ++ record { to = e.to; shown = v } ∷ []) same
    go true (InPart t) = whole_append (reads w k) (entry_read_of e.to (InPart t) ∷ []) ∙ (append-nil (whole_among (reads w k)) ∙ same)

pub whole_lists_same : (h : List Reading) (w : Who) (k : Kind) → whole_among (lists_read h w k) ≡ lists_overheard h w k
whole_lists_same [] w k = refl
whole_lists_same (x ∷ h) w k = whole_read_with w k (entry_sent x h) (lists_read h) (lists_overheard h) (whole_lists_same h w k) ∙ sent_lists_after x h w k

-- ---- at a call's answer

pub listed_by_reading : {L : Type 0} (takes : L → SentEntry → L → Type 0) (before after : L) (l : ListenerValue) (h : List Reading) (x : Reading)
    → HasTaken takes before (reading_listed l x) after → HasOverheard l h → HasTaken takes before (entry_sent x h) after
listed_by_reading takes before after l h x put st = subst (λ (e : Option SentEntry). HasTaken takes before e after) (entry_same l h x st) put

pub listed_by_group : {L : Type 0} (takes : L → SentEntry → L → Type 0) (before after : L) (l : ListenerValue) (h : List Reading) (f : FrameValue) (g : Group)
    → group_of f ≡ g → HasTaken takes before (group_listed l g) after → HasOverheard l h → HasTaken takes before (entry_sent (Frame f) h) after
listed_by_group takes before after l h f g is put st =
    subst (λ (e : Option SentEntry). HasTaken takes before e after) (ap (group_listed l) (sym is) ∙ entry_same l h (Frame f) st) put

pub says_by_reading : (l : ListenerValue) (x : Reading) (c : Overheard) → c ≡ reading_told l x → SaysSent c (reading_listed l x)
says_by_reading l x c e = subst (λ (d : Overheard). SaysSent d (reading_listed l x)) (sym e) (says_reading l x)

pub says_by_group : (l : ListenerValue) (g : Group) (c : Overheard) → c ≡ group_told l g → SaysSent c (group_listed l g)
says_by_group l g c e = subst (λ (d : Overheard). SaysSent d (group_listed l g)) (sym e) (says_group l g)
