-- What a reading changes is all that it does to what a listener shows.
use Rattle.std.proofs.Common.{◌≡◌, ℕ, ◌+◌, Bool, true, false, ◌&&◌, ◌==◌, List, [], ◌∷◌, Option, Some, None, is_some, if◌then◌else◌, sym, refl, ap, ◌∙◌}
use Rattle.address_claim.specs.Claiming.{is_held}
use Rattle.can_frame.specs.declared.address.TheConstants.{GLOBAL_ADDRESS}
use Rattle.can_frame.specs.declared.reading.Reading.{Reading}
use Rattle.can_frame.specs.declared.reading.Reading.TheVariants.{Frame, Gap, Empty}
use Rattle.dm_messages.specs.Tolerant.{message_read, tolerant}
use Rattle.dm_messages.specs.View.{decoding, same_kind}
use Rattle.dm_messages.specs.declared.kind.Kind.{Kind}
use Rattle.dm_messages.specs.declared.shown.Shown.{Shown}
use Rattle.dm_messages.specs.declared.tolerant.MessageRead.{MessageRead}
use Rattle.dm_messages.specs.declared.tolerant.MessageRead.TheVariants.{Whole, InPart}
use Rattle.dm_messages.specs.declared.tolerant.Tolerant.{Tolerant}
use Rattle.parameter_group.specs.Group.{Group, AddressClaimed, CannotClaim, Request, Acknowledgment, Diagnostic, ConnectionManagement, DataTransfer, Other, group_of}
use Rattle.transport.specs.declared.control.Control.{Control}
use Rattle.transport.specs.declared.control.Control.TheVariants.{Bam}
use Rattle.bus_model.specs.Changed.{displaced_by, is_lost}
use Rattle.bus_model.specs.Heard.{RowHeard, StationSettings, ack_in_row, address_heard, address_in_row, addressless, counted, is_answer, kind_of, missed_count, names_after, names_heard, owner_heard, row_after, row_heard, row_with_ack, with_name, without_address}
use Rattle.bus_model.specs.Overheard.{EntrySent, MessageSent, address_overheard, entries_overheard, gaps_heard, is_lost_on, put_sent, row_overheard, row_with_group, same_who, sent_by, unread_overheard}
use Rattle.bus_model.specs.OverheardChanged.{ack_overheard, announcement_change, change_overheard, gave_up, group_overheard, has_still, change_of_read, sent_change}
use Rattle.bus_model.specs.OverheardFollows.{AreSentWith, HasSent, gaps_with, missed_with, names_with, row_with, unread_with}
use Rattle.bus_model.specs.declared.change.Displaced.{Displaced}
use Rattle.bus_model.specs.declared.overheard.Overheard.{Overheard}
use Rattle.bus_model.specs.declared.overheard.Overheard.TheVariants.{Nothing, Claimed, GaveUp}
use Rattle.bus_model.specs.declared.who.Who.{Who}
use Rattle.bus_model.proofs.Changes.{claims_again, keeps_address, loses_address, owner_known}
use Rattle.bus_model.proofs.Clear.{false_test}
use Rattle.bus_model.proofs.Lookback.{held_is, ne_test, same_test, true_test}
use Rattle.bus_model.proofs.Names.{in_has, names_are}
use Rattle.bus_model.proofs.Rows.{row_named}

-- ---- a listener and a station know the same addresses of the same NAMEs

abbrev anyone : StationSettings
anyone = record { name = 0; address = 0 }

without_same : (a : ℕ) (o p : Option RowHeard) → address_in_row o ≡ address_in_row p → address_in_row (without_address a o) ≡ address_in_row (without_address a p)
without_same a o p e = left a o ∙ (ap (λ (v : Option ℕ). if is_held v a then None else v) e ∙ sym (left a p))
  where
    left : (a : ℕ) (o : Option RowHeard) → address_in_row (without_address a o) ≡ (if is_held (address_in_row o) a then None else address_in_row o)
    left a None = refl
    left a (Some row) = go (is_held row.address a)
      where
        go : (b : Bool) → address_in_row (if b then Some (record row { address = None }) else Some row) ≡ (if b then None else row.address)
        go true = refl
        go false = refl

without_there : (a : ℕ) (o : Option RowHeard) → is_some (without_address a o) ≡ is_some o
without_there a None = refl
without_there a (Some row) = go (is_held row.address a)
  where
    go : (b : Bool) → is_some (if b then Some (record row { address = None }) else Some row) ≡ true
    go true = refl
    go false = refl

ack_address : (b : Bool) (c p : ℕ) (o : Option RowHeard) → address_in_row (if b then row_with_ack c p o else o) ≡ address_in_row o
ack_address true c p None = refl
ack_address true c p (Some row) = refl
ack_address false c p o = refl

ack_there : (b : Bool) (c p : ℕ) (o : Option RowHeard) → is_some (if b then row_with_ack c p o else o) ≡ is_some o
ack_there true c p None = refl
ack_there true c p (Some row) = refl
ack_there false c p o = refl

-- of two rows the address is the same, and whether there is one
pub record Alike (o p : Option RowHeard) : Type 0 where
  pub address : address_in_row o ≡ address_in_row p
  pub there : is_some o ≡ is_some p

addressless_alike : (o p : Option RowHeard) → Alike o p → Alike (addressless o) (addressless p)
addressless_alike None None l = record { address = refl; there = refl }
addressless_alike (Some a) (Some b) l = record { address = refl; there = refl }
addressless_alike None (Some b) l = let e = l.there in cc
addressless_alike (Some a) None l = let e = l.there in cc

claim_alike : (b : Bool) (s : ℕ) (o p : Option RowHeard) → Alike o p
    → Alike (if b then Some (record { address = Some s; ack = ack_in_row o }) else without_address s o) (if b then Some (record { address = Some s; ack = ack_in_row p }) else without_address s p)
claim_alike true s o p l = record { address = refl; there = refl }
claim_alike false s o p l = record { address = without_same s o p l.address; there = without_there s o ∙ (l.there ∙ sym (without_there s p)) }

cannot_alike : (b : Bool) (o p : Option RowHeard) → Alike o p → Alike (if b then Some (record { address = None; ack = ack_in_row o }) else o) (if b then Some (record { address = None; ack = ack_in_row p }) else p)
cannot_alike true o p l = record { address = refl; there = refl }
cannot_alike false o p l = l

group_alike : (n : ℕ) (g : Group) (h : List Reading) (o p : Option RowHeard) → Alike o p → Alike (row_with_group n g h o) (row_after anyone n g h p)
group_alike n (AddressClaimed s m) h o p l = claim_alike (m == n) s o p l
group_alike n (CannotClaim m) h o p l = cannot_alike (m == n) o p l
group_alike n (Acknowledgment c q g d s) h o p l = record {
  address = ack_address (is_held (owner_heard s h) n) c g o ∙ (l.address ∙ sym (ack_address (is_answer q d (address_heard anyone h) (owner_heard s h) n) c g p));
  there = ack_there (is_held (owner_heard s h) n) c g o ∙ (l.there ∙ sym (ack_there (is_answer q d (address_heard anyone h) (owner_heard s h) n) c g p));
}
group_alike n (Request p d s) h o q l = l
group_alike n (Diagnostic k s bytes) h o p l = l
group_alike n (ConnectionManagement s d c) h o p l = l
group_alike n (DataTransfer s d bytes) h o p l = l
group_alike n Other h o p l = l

alike : (n : ℕ) (h : List Reading) → Alike (row_overheard n h) (row_heard anyone n h)
alike n [] = record { address = refl; there = refl }
alike n (Gap m ∷ h) = addressless_alike (row_overheard n h) (row_heard anyone n h) (alike n h)
alike n (Empty ∷ h) = alike n h
alike n (Frame f ∷ h) = group_alike n (group_of f) h (row_overheard n h) (row_heard anyone n h) (alike n h)

-- so the address that a NAME has is its own
owner_overheard : (n a : ℕ) (h : List Reading) → address_overheard n h ≡ Some a → owner_heard a h ≡ Some n
owner_overheard n a h e = owner_known anyone n a h (sym ((alike n h).address) ∙ e)

one_owner : (m n a : ℕ) (h : List Reading) → address_overheard m h ≡ Some a → address_overheard n h ≡ Some a → m ≡ n
one_owner m n a h e g = let own = sym (owner_overheard m a h e) ∙ owner_overheard n a h g in cc

-- ---- rows

-- a NAME that has not the address loses none
not_lost : (m n a : ℕ) (own : Option ℕ) (h : List Reading) → is_held (address_overheard n h) a ≡ false → is_lost (displaced_by m own (has_still own a h)) n ≡ false
not_lost m n a None h g = refl
not_lost m n a (Some p) h g = go (p == m)
  where
    by : (b : Bool) → (p == n) ≡ b → b && is_held (address_overheard p h) a ≡ false
    by false i = refl
    by true i = ap (λ (k : ℕ). is_held (address_overheard k h) a) (true_test p n i) ∙ g

    go : (b : Bool) → is_lost (if b then None else Some (record { name = p; lost = is_held (address_overheard p h) a })) n ≡ false
    go true = refl
    go false = by (p == n) refl

claim_row : (a m n : ℕ) (h : List Reading) → row_with_group n (AddressClaimed a m) h (row_overheard n h) ≡ row_with (group_overheard (AddressClaimed a m) h) n (row_overheard n h)
claim_row a m n h = by (is_held (address_overheard m h) a) refl (m == n) refl
  where
    o : Option RowHeard
    o = row_overheard n h

    d : Option Displaced
    d = displaced_by m (owner_heard a h) (has_still (owner_heard a h) a h)

    -- the NAME claims an address that it has not; another NAME's row
    other : (t : Bool) → is_held (address_overheard n h) a ≡ t → (m == n) ≡ false → without_address a o ≡ (if is_lost d n then addressless o else o)
    other true t e =
        let own : owner_heard a h ≡ Some n = owner_overheard n a h (held_is (address_overheard n h) a t) in
        let lost : is_lost d n ≡ true = rw (own, ne_test n m (λ i. false_test m n e (sym i)), same_test n, t) refl in
        loses_address a o t ∙ rw lost refl
    other false t e = keeps_address a o t ∙ rw (not_lost m n a (owner_heard a h) h t) refl

    by : (b : Bool) → is_held (address_overheard m h) a ≡ b → (s : Bool) → (m == n) ≡ s
        → (if s then Some (record { address = Some a; ack = ack_in_row o }) else without_address a o) ≡ row_with (if b then Nothing else Claimed m a d) n o
    by true t true e = claims_again a o (ap (λ (k : ℕ). address_overheard k h) (sym (true_test m n e)) ∙ held_is (address_overheard m h) a t)
    by true t false e = apart (is_held (address_overheard n h) a) refl
      where
        apart : (b : Bool) → is_held (address_overheard n h) a ≡ b → without_address a o ≡ o
        apart true i = absurd (false_test m n e (one_owner m n a h (held_is (address_overheard m h) a t) (held_is (address_overheard n h) a i)))
        apart false i = keeps_address a o i
    by false t true e = rw e refl
    by false t false e = other (is_held (address_overheard n h) a) refl e ∙ rw e refl

giving_row : (m n : ℕ) (h : List Reading) → row_with_group n (CannotClaim m) h (row_overheard n h) ≡ row_with (gave_up m (row_overheard m h)) n (row_overheard n h)
giving_row m n h = by (row_overheard m h) refl
  where
    o : Option RowHeard
    o = row_overheard n h

    none : (row : RowHeard) → row_overheard m h ≡ Some row → row.address ≡ None → (b : Bool) → (m == n) ≡ b → (if b then Some (record { address = None; ack = ack_in_row o }) else o) ≡ o
    none row e i true t = let same : o ≡ Some row = ap (λ (k : ℕ). row_overheard k h) (sym (true_test m n t)) ∙ e in rw same (ap (λ (v : Option ℕ). Some (record row { address = v })) (sym i))
    none row e i false t = refl

    there : (row : RowHeard) → row_overheard m h ≡ Some row → (v : Option ℕ) → row.address ≡ v → (if m == n then Some (record { address = None; ack = ack_in_row o }) else o) ≡ row_with (if is_some v then GaveUp m else Nothing) n o
    there row e None i = none row e i (m == n) refl
    there row e (Some a) i = refl

    by : (v : Option RowHeard) → row_overheard m h ≡ v → (if m == n then Some (record { address = None; ack = ack_in_row o }) else o) ≡ row_with (gave_up m v) n o
    by None e = refl
    by (Some row) e = there row e row.address refl

ack_row : (own : Option ℕ) (c q p d s n : ℕ) (h : List Reading) (o : Option RowHeard) → (if is_held own n then row_with_ack c p o else o) ≡ row_with (ack_overheard own c q p d s h) n o
ack_row None c q p d s n h o = refl
ack_row (Some w) c q p d s n h o = refl

sent_row : (a n : ℕ) (m : Option MessageSent) (o : Option RowHeard) → o ≡ row_with (sent_change a m) n o
sent_row a n None o = refl
sent_row a n (Some m) o = go (message_read m.bytes)
  where
    go : (r : Option MessageRead) → o ≡ row_with (change_of_read a m r) n o
    go None = refl
    go (Some (Whole v)) = refl
    go (Some (InPart t)) = refl

announced_row : (k : Option Kind) (a n : ℕ) (own : Option ℕ) (o : Option RowHeard) (b : Bool) → o ≡ row_with (if b then announcement_change k a own else Nothing) n o
announced_row k a n own o false = refl
announced_row None a n own o true = refl
announced_row (Some k) a n None o true = refl
announced_row (Some k) a n (Some w) o true = refl

control_row : (s d n : ℕ) (c : Control) (h : List Reading) (o : Option RowHeard) → o ≡ row_with (group_overheard (ConnectionManagement s d c) h) n o
control_row s d n (Bam size packets pgn) h o = announced_row (kind_of pgn) s n (owner_heard s h) o (d == GLOBAL_ADDRESS)
control_row s d n _ h o = refl

group_row : (g : Group) (h : List Reading) (n : ℕ) → row_with_group n g h (row_overheard n h) ≡ row_with (group_overheard g h) n (row_overheard n h)
group_row (AddressClaimed s m) h n = claim_row s m n h
group_row (CannotClaim m) h n = giving_row m n h
group_row (Acknowledgment c q p d s) h n = ack_row (owner_heard s h) c q p d s n h (row_overheard n h)
group_row (Request p d s) h n = refl
group_row (Diagnostic k s bytes) h n = sent_row s n (sent_by (Diagnostic k s bytes) h) (row_overheard n h)
group_row (ConnectionManagement s d c) h n = control_row s d n c h (row_overheard n h)
group_row (DataTransfer s d bytes) h n = sent_row s n (sent_by (DataTransfer s d bytes) h) (row_overheard n h)
group_row Other h n = refl

pub row_overheard_follows : (x : Reading) (h : List Reading) (n : ℕ) → row_overheard n (x ∷ h) ≡ row_with (change_overheard x h) n (row_overheard n h)
row_overheard_follows (Gap m) h n = refl
row_overheard_follows Empty h n = refl
row_overheard_follows (Frame f) h n = group_row (group_of f) h n

-- ---- NAMEs

row_in : (n : ℕ) (h : List Reading) → is_some (row_overheard n h) ≡ true → with_name n (names_heard h) ≡ names_heard h
row_in n h e = rw (in_has n (names_heard h) (((names_are h).each n).1 (row_named anyone n h (sym ((alike n h).there) ∙ e)))) refl

address_row : (a : ℕ) (o : Option RowHeard) → address_in_row o ≡ Some a → is_some o ≡ true
address_row a None h = cc
address_row a (Some row) h = refl

claim_names : (a m : ℕ) (h : List Reading) (b : Bool) → is_held (address_overheard m h) a ≡ b
    → with_name m (names_heard h) ≡ names_with (if b then Nothing else Claimed m a (displaced_by m (owner_heard a h) (has_still (owner_heard a h) a h))) (names_heard h)
claim_names a m h true t = row_in m h (address_row a (row_overheard m h) (held_is (address_overheard m h) a t))
claim_names a m h false t = refl

giving_names : (m : ℕ) (h : List Reading) (v : Option RowHeard) → row_overheard m h ≡ v → with_name m (names_heard h) ≡ names_with (gave_up m v) (names_heard h)
giving_names m h None e = refl
giving_names m h (Some row) e = go (is_some row.address)
  where
    go : (b : Bool) → with_name m (names_heard h) ≡ names_with (if b then GaveUp m else Nothing) (names_heard h)
    go true = refl
    go false = row_in m h (ap (λ (o : Option RowHeard). is_some o) e)

ack_names : (own : Option ℕ) (c q p d s : ℕ) (h : List Reading) (ns : List ℕ) → ns ≡ names_with (ack_overheard own c q p d s h) ns
ack_names None c q p d s h ns = refl
ack_names (Some w) c q p d s h ns = refl

sent_names : (a : ℕ) (m : Option MessageSent) (ns : List ℕ) → ns ≡ names_with (sent_change a m) ns
sent_names a None ns = refl
sent_names a (Some m) ns = go (message_read m.bytes)
  where
    go : (r : Option MessageRead) → ns ≡ names_with (change_of_read a m r) ns
    go None = refl
    go (Some (Whole v)) = refl
    go (Some (InPart t)) = refl

announced_names : (k : Option Kind) (a : ℕ) (own : Option ℕ) (ns : List ℕ) (b : Bool) → ns ≡ names_with (if b then announcement_change k a own else Nothing) ns
announced_names k a own ns false = refl
announced_names None a own ns true = refl
announced_names (Some k) a None ns true = refl
announced_names (Some k) a (Some w) ns true = refl

control_names : (s d : ℕ) (c : Control) (h : List Reading) (ns : List ℕ) → ns ≡ names_with (group_overheard (ConnectionManagement s d c) h) ns
control_names s d (Bam size packets pgn) h ns = announced_names (kind_of pgn) s (owner_heard s h) ns (d == GLOBAL_ADDRESS)
control_names s d _ h ns = refl

group_names : (g : Group) (h : List Reading) → names_after g (names_heard h) ≡ names_with (group_overheard g h) (names_heard h)
group_names (AddressClaimed s m) h = claim_names s m h (is_held (address_overheard m h) s) refl
group_names (CannotClaim m) h = giving_names m h (row_overheard m h) refl
group_names (Acknowledgment c q p d s) h = ack_names (owner_heard s h) c q p d s h (names_heard h)
group_names (Request p d s) h = refl
group_names (Diagnostic k s bytes) h = sent_names s (sent_by (Diagnostic k s bytes) h) (names_heard h)
group_names (ConnectionManagement s d c) h = control_names s d c h (names_heard h)
group_names (DataTransfer s d bytes) h = sent_names s (sent_by (DataTransfer s d bytes) h) (names_heard h)
group_names Other h = refl

pub names_overheard_follow : (x : Reading) (h : List Reading) → names_heard (x ∷ h) ≡ names_with (change_overheard x h) (names_heard h)
names_overheard_follow (Gap m) h = refl
names_overheard_follow Empty h = refl
names_overheard_follow (Frame f) h = group_names (group_of f) h

-- ---- lists and counts

-- what ends at a reading, at a change
pub record FitsSent (m : Option MessageSent) (c : Overheard) : Type 0 where
  pub lists : (w : Who) (k : Kind) (entries : List EntrySent) → AreSentWith c w k entries (put_sent w k m entries)
  pub unread : (u : ℕ) → (if is_lost_on m then counted (u + 1) else u) ≡ unread_with c u
  pub missed : (n : ℕ) → n ≡ missed_with c n
  pub gaps : (n : ℕ) → n ≡ gaps_with c n

sent_fits : (a : ℕ) (m : Option MessageSent) → FitsSent m (sent_change a m)
sent_fits a None = record { lists = λ w k es. refl; unread = λ u. refl; missed = λ n. refl; gaps = λ n. refl }
sent_fits a (Some m) = go (decoding m.bytes) refl (tolerant m.bytes) refl
  where
    same : (b : Bool) (es : List EntrySent) → (if b then es else es) ≡ es
    same true es = refl
    same false es = refl

    go : (v : Option Shown) → decoding m.bytes ≡ v → (t : Option Tolerant) → tolerant m.bytes ≡ t → FitsSent (Some m) (sent_change a (Some m))
    go None i None j = record {
      lists = λ w k es. rw (i, j) (same (same_who m.who w && same_kind m.kind k) es);
      unread = λ u. rw (i, j) refl;
      missed = λ n. rw (i, j) refl;
      gaps = λ n. rw (i, j) refl;
    }
    go None i (Some t) j = record {
      lists = λ w k es. rw (i, j) (same (same_who m.who w && same_kind m.kind k) es);
      unread = λ u. rw (i, j) refl;
      missed = λ n. rw (i, j) refl;
      gaps = λ n. rw (i, j) refl;
    }
    go (Some v) i t j = record {
      lists = λ w k es. rw i (by (same_who m.who w && same_kind m.kind k) es);
      unread = λ u. rw i refl;
      missed = λ n. rw i refl;
      gaps = λ n. rw i refl;
    }
      where
        by : (b : Bool) (es : List EntrySent) → HasSent b m.to es (if b then record { to = m.to; shown = v } ∷ es else es)
        by true es = (v, refl)
        by false es = refl

-- a change of nothing that is listed or counted
pub record IsOther (c : Overheard) : Type 0 where
  pub lists : (w : Who) (k : Kind) (entries : List EntrySent) → AreSentWith c w k entries entries
  pub unread : (u : ℕ) → unread_with c u ≡ u
  pub missed : (n : ℕ) → missed_with c n ≡ n
  pub gaps : (n : ℕ) → gaps_with c n ≡ n

other_fits : (c : Overheard) → IsOther c → FitsSent None c
other_fits c i = record { lists = λ w k es. i.lists w k es; unread = λ u. sym (i.unread u); missed = λ n. sym (i.missed n); gaps = λ n. sym (i.gaps n) }

nothing_is : IsOther Nothing
nothing_is = record { lists = λ w k es. refl; unread = λ u. refl; missed = λ n. refl; gaps = λ n. refl }

claim_is : (b : Bool) (m a : ℕ) (d : Option Displaced) → IsOther (if b then Nothing else Claimed m a d)
claim_is true m a d = nothing_is
claim_is false m a d = record { lists = λ w k es. refl; unread = λ u. refl; missed = λ n. refl; gaps = λ n. refl }

gave_is : (m : ℕ) → IsOther (GaveUp m)
gave_is m = record { lists = λ w k es. refl; unread = λ u. refl; missed = λ n. refl; gaps = λ n. refl }

giving_is : (m : ℕ) (v : Option RowHeard) → IsOther (gave_up m v)
giving_is m None = gave_is m
giving_is m (Some row) = go (is_some row.address)
  where
    go : (b : Bool) → IsOther (if b then GaveUp m else Nothing)
    go true = gave_is m
    go false = nothing_is

ack_is : (own : Option ℕ) (c q p d s : ℕ) (h : List Reading) → IsOther (ack_overheard own c q p d s h)
ack_is None c q p d s h = nothing_is
ack_is (Some w) c q p d s h = record { lists = λ w k es. refl; unread = λ u. refl; missed = λ n. refl; gaps = λ n. refl }

announced_is : (k : Option Kind) (a : ℕ) (own : Option ℕ) (b : Bool) → IsOther (if b then announcement_change k a own else Nothing)
announced_is k a own false = nothing_is
announced_is None a own true = nothing_is
announced_is (Some k) a None true = record { lists = λ w k es. refl; unread = λ u. refl; missed = λ n. refl; gaps = λ n. refl }
announced_is (Some k) a (Some w) true = nothing_is

control_is : (s d : ℕ) (c : Control) (h : List Reading) → IsOther (group_overheard (ConnectionManagement s d c) h)
control_is s d (Bam size packets pgn) h = announced_is (kind_of pgn) s (owner_heard s h) (d == GLOBAL_ADDRESS)
control_is s d _ h = nothing_is

group_fits : (g : Group) (h : List Reading) → FitsSent (sent_by g h) (group_overheard g h)
group_fits (AddressClaimed s m) h = other_fits _ (claim_is (is_held (address_overheard m h) s) m s _)
group_fits (CannotClaim m) h = other_fits _ (giving_is m (row_overheard m h))
group_fits (Acknowledgment c q p d s) h = other_fits _ (ack_is (owner_heard s h) c q p d s h)
group_fits (Request p d s) h = other_fits _ nothing_is
group_fits (Diagnostic k s bytes) h = sent_fits s (sent_by (Diagnostic k s bytes) h)
group_fits (ConnectionManagement s d c) h = other_fits _ (control_is s d c h)
group_fits (DataTransfer s d bytes) h = sent_fits s (sent_by (DataTransfer s d bytes) h)
group_fits Other h = other_fits _ nothing_is

pub lists_overheard_follow : (x : Reading) (h : List Reading) (w : Who) (k : Kind) → AreSentWith (change_overheard x h) w k (entries_overheard w k h) (entries_overheard w k (x ∷ h))
lists_overheard_follow (Gap m) h w k = refl
lists_overheard_follow Empty h w k = refl
lists_overheard_follow (Frame f) h w k = (group_fits (group_of f) h).lists w k (entries_overheard w k h)

pub missed_overheard_follows : (x : Reading) (h : List Reading) → missed_count (x ∷ h) ≡ missed_with (change_overheard x h) (missed_count h)
missed_overheard_follows (Gap m) h = refl
missed_overheard_follows Empty h = refl
missed_overheard_follows (Frame f) h = (group_fits (group_of f) h).missed (missed_count h)

pub gaps_overheard_follow : (x : Reading) (h : List Reading) → gaps_heard (x ∷ h) ≡ gaps_with (change_overheard x h) (gaps_heard h)
gaps_overheard_follow (Gap m) h = refl
gaps_overheard_follow Empty h = refl
gaps_overheard_follow (Frame f) h = (group_fits (group_of f) h).gaps (gaps_heard h)

pub unread_overheard_follows : (x : Reading) (h : List Reading) → unread_overheard (x ∷ h) ≡ unread_with (change_overheard x h) (unread_overheard h)
unread_overheard_follows (Gap m) h = refl
unread_overheard_follows Empty h = refl
unread_overheard_follows (Frame f) h = (group_fits (group_of f) h).unread (unread_overheard h)
