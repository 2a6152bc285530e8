-- What a reading changes is all that it does to what a station shows.
use Rattle.std.proofs.Common.{◌≡◌, ℕ, ◌+◌, Bool, true, false, ◌&&◌, ◌||◌, ◌==◌, List, [], ◌∷◌, ◌++◌, Option, Some, None, is_some, if◌then◌else◌, sym, refl, ap, ◌∙◌}
use Rattle.address_claim.specs.Claiming.{is_held}
use Rattle.can_frame.specs.FrameValue.{FrameValue}
use Rattle.can_frame.specs.declared.address.TheConstants.{GLOBAL_ADDRESS}
use Rattle.can_frame.specs.declared.reading.Reading.{Reading}
use Rattle.can_frame.specs.declared.reading.Reading.TheVariants.{Frame, Gap, Empty}
use Rattle.dm_messages.specs.View.{decoding, same_kind}
use Rattle.dm_messages.specs.declared.kind.Kind.{Kind}
use Rattle.dm_messages.specs.declared.shown.Shown.{Shown}
use Rattle.parameter_group.specs.Group.{Group, AddressClaimed, CannotClaim, Request, Acknowledgment, Diagnostic, ConnectionManagement, DataTransfer, Other, group_of}
use Rattle.transport.specs.declared.control.Control.{Control}
use Rattle.transport.specs.declared.control.Control.TheVariants.{Bam}
use Rattle.bus_model.specs.Heard.{Entry, RowHeard, StationSettings, ack_in_row, address_heard, address_in_row, address_known, addressless, counted, ended_by, entries_heard, entry_under, is_unreadable, kind_of, missed_count, names_after, names_heard, owner_heard, put, row_after, row_heard, row_with_ack, unread_count, with_name, without_address}
use Rattle.bus_model.specs.Traffic.{owner_after}
use Rattle.bus_model.specs.RowsLookBack.{AreApart, IsApart}
use Rattle.bus_model.specs.Changed.{AreListed, announced_change, answer_change, change_heard, displaced_by, ended_change, giving_up, group_change, has_answered, is_listed, is_lost, missed_changed, names_changed, row_changed, single_change, still_has, unread_changed}
use Rattle.bus_model.specs.declared.change.Change.{Change}
use Rattle.bus_model.specs.declared.change.Displaced.{Displaced}
use Rattle.bus_model.specs.declared.change.Change.TheVariants.{Nothing, Claimed, GaveUp, Acknowledged, Listed, Unreadable, Unowned}
use Rattle.bus_model.proofs.Clear.{false_test}
use Rattle.bus_model.proofs.Lookback.{held_is, ne_test, same_test, true_test}
use Rattle.bus_model.proofs.Names.{in_has, names_are}
use Rattle.bus_model.proofs.Rows.{known_back, row_named}

-- ---- the address that a NAME has is its own

owner_apart : (n a : ℕ) (g : Group) (o : Option ℕ) → IsApart n a g → owner_after a g o ≡ o
owner_apart n a (AddressClaimed s m) o h = rw (ne_test s a h.1) refl
owner_apart n a (CannotClaim m) o h = refl
owner_apart n a _ o h = refl

owner_since : (n a : ℕ) (since : List Reading) (claim : FrameValue) (before : List Reading) → group_of claim ≡ AddressClaimed a n → AreApart n a since → owner_heard a (since ++ Frame claim ∷ before) ≡ Some n
owner_since n a [] claim before e h = rw (e, same_test a) refl
owner_since n a (Gap m ∷ since) claim before e h = absurd h
owner_since n a (Empty ∷ since) claim before e h = owner_since n a since claim before e h
owner_since n a (Frame f ∷ since) claim before e h = owner_apart n a (group_of f) _ h.0 ∙ owner_since n a since claim before e h.1

pub owner_known : (r : StationSettings) (n a : ℕ) (rs : List Reading) → address_known r n rs ≡ Some a → owner_heard a rs ≡ Some n
owner_known r n a rs h =
    let k = known_back r n a rs h in
    ap (owner_heard a) k.split ∙ owner_since n a k.since k.claim k.before k.claims k.apart

-- so two NAMEs have not one address
one_owner : (r : StationSettings) (m n a : ℕ) (rs : List Reading) → address_known r m rs ≡ Some a → address_known r n rs ≡ Some a → m ≡ n
one_owner r m n a rs h g = let e = sym (owner_known r m a rs h) ∙ owner_known r n a rs g in cc

-- ---- rows

-- a row that has the address is the same after a claim of it
pub claims_again : (a : ℕ) (o : Option RowHeard) → address_in_row o ≡ Some a → Some (record { address = Some a; ack = ack_in_row o }) ≡ o
claims_again a None h = cc
claims_again a (Some row) h = ap (λ (o : Option ℕ). Some (record row { address = o })) (sym h)

pub keeps_address : (a : ℕ) (o : Option RowHeard) → is_held (address_in_row o) a ≡ false → without_address a o ≡ o
keeps_address a None h = refl
keeps_address a (Some row) h = rw h refl

pub loses_address : (a : ℕ) (o : Option RowHeard) → is_held (address_in_row o) a ≡ true → without_address a o ≡ addressless o
loses_address a None h = refl
loses_address a (Some row) h = rw h refl

-- a NAME that has not the address loses none
not_lost : (r : StationSettings) (m n a : ℕ) (own : Option ℕ) (h : List Reading) → is_held (address_known r n h) a ≡ false → is_lost (displaced_by m own (still_has r own a h)) n ≡ false
not_lost r m n a None h g = refl
not_lost r m n a (Some p) h g = go (p == m)
  where
    by : (b : Bool) → (p == n) ≡ b → b && is_held (address_known r p h) a ≡ false
    by false i = refl
    by true i = ap (λ (k : ℕ). is_held (address_known r k h) a) (true_test p n i) ∙ g

    go : (b : Bool) → is_lost (if b then None else Some (record { name = p; lost = is_held (address_known r p h) a })) n ≡ false
    go true = refl
    go false = by (p == n) refl

claim_row : (r : StationSettings) (a m n : ℕ) (h : List Reading) → row_after r n (AddressClaimed a m) h (row_heard r n h) ≡ row_changed (group_change r (AddressClaimed a m) h) n (row_heard r n h)
claim_row r a m n h = by (is_held (address_known r m h) a) refl (m == n) refl
  where
    o : Option RowHeard
    o = row_heard r n h

    d : Option Displaced
    d = displaced_by m (owner_heard a h) (still_has r (owner_heard a h) a h)

    -- the NAME claims an address that it has not; another NAME's row
    other : (t : Bool) → is_held (address_known r n h) a ≡ t → (m == n) ≡ false → without_address a o ≡ (if is_lost d n then addressless o else o)
    other true t e =
        let own : owner_heard a h ≡ Some n = owner_known r n a h (held_is (address_known r n h) a t) in
        let lost : is_lost d n ≡ true = rw (own, ne_test n m (λ i. false_test m n e (sym i)), same_test n, t) refl in
        loses_address a o t ∙ rw lost refl
    other false t e = keeps_address a o t ∙ rw (not_lost r m n a (owner_heard a h) h t) refl

    by : (b : Bool) → is_held (address_known r m h) a ≡ b → (s : Bool) → (m == n) ≡ s
        → (if s then Some (record { address = Some a; ack = ack_in_row o }) else without_address a o) ≡ row_changed (if b then Nothing else Claimed m a d) n o
    by true t true e = claims_again a o (ap (λ (k : ℕ). address_known r k h) (sym (true_test m n e)) ∙ held_is (address_known r m h) a t)
    by true t false e = apart (is_held (address_known r n h) a) refl
      where
        apart : (b : Bool) → is_held (address_known r n h) a ≡ b → without_address a o ≡ o
        apart true i = absurd (false_test m n e (one_owner r m n a h (held_is (address_known r m h) a t) (held_is (address_known r n h) a i)))
        apart false i = keeps_address a o i
    by false t true e = rw e refl
    by false t false e = other (is_held (address_known r n h) a) refl e ∙ rw e refl

giving_row : (r : StationSettings) (m n : ℕ) (h : List Reading) → row_after r n (CannotClaim m) h (row_heard r n h) ≡ row_changed (giving_up m (row_heard r m h)) n (row_heard r n h)
giving_row r m n h = by (row_heard r m h) refl
  where
    o : Option RowHeard
    o = row_heard r n h

    none : (row : RowHeard) → row_heard r m h ≡ Some row → row.address ≡ None → (b : Bool) → (m == n) ≡ b → (if b then Some (record { address = None; ack = ack_in_row o }) else o) ≡ o
    none row e i true t = let same : o ≡ Some row = ap (λ (k : ℕ). row_heard r k h) (sym (true_test m n t)) ∙ e in rw same (ap (λ (v : Option ℕ). Some (record row { address = v })) (sym i))
    none row e i false t = refl

    there : (row : RowHeard) → row_heard r m h ≡ Some row → (v : Option ℕ) → row.address ≡ v → (if m == n then Some (record { address = None; ack = ack_in_row o }) else o) ≡ row_changed (if is_some v then GaveUp m else Nothing) n o
    there row e None i = none row e i (m == n) refl
    there row e (Some a) i = refl

    by : (v : Option RowHeard) → row_heard r m h ≡ v → (if m == n then Some (record { address = None; ack = ack_in_row o }) else o) ≡ row_changed (giving_up m v) n o
    by None e = refl
    by (Some row) e = there row e row.address refl

answer_row : (to_station : Bool) (own : Option ℕ) (control pgn n : ℕ) (again : Bool) (o : Option RowHeard) → (if to_station && is_held own n then row_with_ack control pgn o else o) ≡ row_changed (answer_change to_station own control pgn again) n o
answer_row true None control pgn n again o = refl
answer_row false None control pgn n again o = refl
answer_row true (Some w) control pgn n again o = refl
answer_row false (Some w) control pgn n again o = refl

ended_row : (a n : ℕ) (e : Option Entry) (o : Option RowHeard) → o ≡ row_changed (ended_change a e) n o
ended_row a n None o = refl
ended_row a n (Some e) o = go (is_some (decoding e.bytes))
  where
    go : (b : Bool) → o ≡ row_changed (if b then Listed e.name e.kind a else Unreadable e.name e.kind a) n o
    go true = refl
    go false = refl

single_row : (k : Kind) (a n : ℕ) (own : Option ℕ) (bytes : List ℕ) (o : Option RowHeard) → o ≡ row_changed (single_change k a own bytes) n o
single_row k a n None bytes o = refl
single_row k a n (Some w) bytes o = ended_row a n (Some (record { name = w; kind = k; bytes = bytes })) o

announced_row : (k : Option Kind) (a n : ℕ) (own : Option ℕ) (o : Option RowHeard) (b : Bool) → o ≡ row_changed (if b then announced_change k a own else Nothing) n o
announced_row k a n own o false = refl
announced_row None a n own o true = refl
announced_row (Some k) a n None o true = refl
announced_row (Some k) a n (Some w) o true = refl

control_row : (r : StationSettings) (s d n : ℕ) (c : Control) (h : List Reading) (o : Option RowHeard) → o ≡ row_changed (group_change r (ConnectionManagement s d c) h) n o
control_row r s d n (Bam size packets pgn) h o = announced_row (kind_of pgn) s n (owner_heard s h) o (d == GLOBAL_ADDRESS)
control_row r s d n _ h o = refl

group_row : (r : StationSettings) (g : Group) (h : List Reading) (n : ℕ) → row_after r n g h (row_heard r n h) ≡ row_changed (group_change r g h) n (row_heard r n h)
group_row r (AddressClaimed s m) h n = claim_row r s m n h
group_row r (CannotClaim m) h n = giving_row r m n h
group_row r (Acknowledgment c q p d s) h n = answer_row (is_held (address_heard r h) q || is_held (address_heard r h) d) (owner_heard s h) c p n (has_answered r (owner_heard s h) c p h) (row_heard r n h)
group_row r (Request p d s) h n = refl
group_row r (Diagnostic k s bytes) h n = single_row k s n (owner_heard s h) bytes (row_heard r n h)
group_row r (ConnectionManagement s d c) h n = control_row r s d n c h (row_heard r n h)
group_row r (DataTransfer s d bytes) h n = ended_row s n (ended_by r (DataTransfer s d bytes) h) (row_heard r n h)
group_row r Other h n = refl

pub row_follows : (r : StationSettings) (x : Reading) (h : List Reading) (n : ℕ) → row_heard r n (x ∷ h) ≡ row_changed (change_heard r x h) n (row_heard r n h)
row_follows r (Gap m) h n = refl
row_follows r Empty h n = refl
row_follows r (Frame f) h n = group_row r (group_of f) h n

-- ---- NAMEs

row_in : (r : StationSettings) (n : ℕ) (rs : List Reading) → is_some (row_heard r n rs) ≡ true → with_name n (names_heard rs) ≡ names_heard rs
row_in r n rs h = rw (in_has n (names_heard rs) (((names_are rs).each n).1 (row_named r n rs h))) refl

address_row : (a : ℕ) (o : Option RowHeard) → address_in_row o ≡ Some a → is_some o ≡ true
address_row a None h = cc
address_row a (Some row) h = refl

claim_names : (r : StationSettings) (a m : ℕ) (h : List Reading) (ns : List ℕ) → ns ≡ names_heard h → (b : Bool) → is_held (address_known r m h) a ≡ b
    → with_name m ns ≡ names_changed (if b then Nothing else Claimed m a (displaced_by m (owner_heard a h) (still_has r (owner_heard a h) a h))) ns
claim_names r a m h ns e true t = rw e (row_in r m h (address_row a (row_heard r m h) (held_is (address_known r m h) a t)))
claim_names r a m h ns e false t = refl

giving_names : (r : StationSettings) (m : ℕ) (h : List Reading) (v : Option RowHeard) → row_heard r m h ≡ v → with_name m (names_heard h) ≡ names_changed (giving_up m v) (names_heard h)
giving_names r m h None e = refl
giving_names r m h (Some row) e = go (is_some row.address)
  where
    go : (b : Bool) → with_name m (names_heard h) ≡ names_changed (if b then GaveUp m else Nothing) (names_heard h)
    go true = refl
    go false = row_in r m h (ap (λ (o : Option RowHeard). is_some o) e)

answer_names : (t : Bool) (own : Option ℕ) (control pgn : ℕ) (again : Bool) (ns : List ℕ) → ns ≡ names_changed (answer_change t own control pgn again) ns
answer_names t None control pgn again ns = refl
answer_names true (Some w) control pgn again ns = refl
answer_names false (Some w) control pgn again ns = refl

ended_names : (a : ℕ) (e : Option Entry) (ns : List ℕ) → ns ≡ names_changed (ended_change a e) ns
ended_names a None ns = refl
ended_names a (Some e) ns = go (is_some (decoding e.bytes))
  where
    go : (b : Bool) → ns ≡ names_changed (if b then Listed e.name e.kind a else Unreadable e.name e.kind a) ns
    go true = refl
    go false = refl

single_names : (k : Kind) (a : ℕ) (own : Option ℕ) (bytes : List ℕ) (ns : List ℕ) → ns ≡ names_changed (single_change k a own bytes) ns
single_names k a None bytes ns = refl
single_names k a (Some w) bytes ns = ended_names a (Some (record { name = w; kind = k; bytes = bytes })) ns

announced_names : (k : Option Kind) (a : ℕ) (own : Option ℕ) (ns : List ℕ) (b : Bool) → ns ≡ names_changed (if b then announced_change k a own else Nothing) ns
announced_names k a own ns false = refl
announced_names None a own ns true = refl
announced_names (Some k) a None ns true = refl
announced_names (Some k) a (Some w) ns true = refl

control_names : (r : StationSettings) (s d : ℕ) (c : Control) (h : List Reading) (ns : List ℕ) → ns ≡ names_changed (group_change r (ConnectionManagement s d c) h) ns
control_names r s d (Bam size packets pgn) h ns = announced_names (kind_of pgn) s (owner_heard s h) ns (d == GLOBAL_ADDRESS)
control_names r s d _ h ns = refl

group_names : (r : StationSettings) (g : Group) (h : List Reading) → names_after g (names_heard h) ≡ names_changed (group_change r g h) (names_heard h)
group_names r (AddressClaimed s m) h = claim_names r s m h (names_heard h) refl (is_held (address_known r m h) s) refl
group_names r (CannotClaim m) h = giving_names r m h (row_heard r m h) refl
group_names r (Acknowledgment c q p d s) h = answer_names (is_held (address_heard r h) q || is_held (address_heard r h) d) (owner_heard s h) c p (has_answered r (owner_heard s h) c p h) (names_heard h)
group_names r (Request p d s) h = refl
group_names r (Diagnostic k s bytes) h = single_names k s (owner_heard s h) bytes (names_heard h)
group_names r (ConnectionManagement s d c) h = control_names r s d c h (names_heard h)
group_names r (DataTransfer s d bytes) h = ended_names s (ended_by r (DataTransfer s d bytes) h) (names_heard h)
group_names r Other h = refl

pub names_follow : (r : StationSettings) (x : Reading) (h : List Reading) → names_heard (x ∷ h) ≡ names_changed (change_heard r x h) (names_heard h)
names_follow r (Gap m) h = refl
names_follow r Empty h = refl
names_follow r (Frame f) h = group_names r (group_of f) h

-- ---- lists and counts

-- what ends at a reading, at a change
pub record Fits (e : Option Entry) (c : Change) : Type 0 where
  pub lists : (n : ℕ) (k : Kind) (entries : List Shown) → AreListed (is_listed c n k) entries (put n k e entries)
  pub unread : (u : ℕ) → (if is_unreadable e then counted (u + 1) else u) ≡ unread_changed c u
  pub missed : (m : ℕ) → m ≡ missed_changed c m

ended_fits : (a : ℕ) (e : Option Entry) → Fits e (ended_change a e)
ended_fits a None = record { lists = λ n k es. refl; unread = λ u. refl; missed = λ m. refl }
ended_fits a (Some e) = go (decoding e.bytes) refl
  where
    go : (v : Option Shown) → decoding e.bytes ≡ v → Fits (Some e) (ended_change a (Some e))
    go None i = record {
      lists = λ n k es. rw i (by (e.name == n && same_kind e.kind k) es);
      unread = λ u. rw i refl;
      missed = λ m. rw i refl;
    }
      where
        by : (b : Bool) (es : List Shown) → (if b then es else es) ≡ es
        by true es = refl
        by false es = refl
    go (Some v) i = record {
      lists = λ n k es. rw i (by (e.name == n && same_kind e.kind k) es);
      unread = λ u. rw i refl;
      missed = λ m. rw i refl;
    }
      where
        by : (b : Bool) (es : List Shown) → AreListed b es (if b then v ∷ es else es)
        by true es = (v, refl)
        by false es = refl

nothing_fits : (c : Change) → ((n : ℕ) (k : Kind) → is_listed c n k ≡ false) → ((u : ℕ) → unread_changed c u ≡ u) → ((m : ℕ) → missed_changed c m ≡ m) → Fits None c
nothing_fits c l u m = record { lists = λ n k es. rw (l n k) refl; unread = λ x. sym (u x); missed = λ x. sym (m x) }

claim_fits : (b : Bool) (c : Change) → Fits None c → Fits None (if b then Nothing else c)
claim_fits true c f = nothing_fits Nothing (λ n k. refl) (λ u. refl) (λ m. refl)
claim_fits false c f = f

giving_fits : (m : ℕ) (v : Option RowHeard) → Fits None (giving_up m v)
giving_fits m None = nothing_fits (GaveUp m) (λ n k. refl) (λ u. refl) (λ m. refl)
giving_fits m (Some row) = go (is_some row.address)
  where
    go : (b : Bool) → Fits None (if b then GaveUp m else Nothing)
    go true = nothing_fits (GaveUp m) (λ n k. refl) (λ u. refl) (λ m. refl)
    go false = nothing_fits Nothing (λ n k. refl) (λ u. refl) (λ m. refl)

answer_fits : (t : Bool) (own : Option ℕ) (control pgn : ℕ) (again : Bool) → Fits None (answer_change t own control pgn again)
answer_fits t None control pgn again = nothing_fits Nothing (λ n k. refl) (λ u. refl) (λ m. refl)
answer_fits true (Some w) control pgn again = nothing_fits (Acknowledged w control pgn again) (λ n k. refl) (λ u. refl) (λ m. refl)
answer_fits false (Some w) control pgn again = nothing_fits Nothing (λ n k. refl) (λ u. refl) (λ m. refl)

single_fits : (k : Kind) (a : ℕ) (own : Option ℕ) (bytes : List ℕ) → Fits (entry_under own k bytes) (single_change k a own bytes)
single_fits k a None bytes = nothing_fits (Unowned k a) (λ n k. refl) (λ u. refl) (λ m. refl)
single_fits k a (Some w) bytes = ended_fits a _

announced_fits : (k : Option Kind) (a : ℕ) (own : Option ℕ) (b : Bool) → Fits None (if b then announced_change k a own else Nothing)
announced_fits k a own false = nothing_fits Nothing (λ n k. refl) (λ u. refl) (λ m. refl)
announced_fits None a own true = nothing_fits Nothing (λ n k. refl) (λ u. refl) (λ m. refl)
announced_fits (Some k) a None true = nothing_fits (Unowned k a) (λ n k. refl) (λ u. refl) (λ m. refl)
announced_fits (Some k) a (Some w) true = nothing_fits Nothing (λ n k. refl) (λ u. refl) (λ m. refl)

control_fits : (r : StationSettings) (s d : ℕ) (c : Control) (h : List Reading) → Fits None (group_change r (ConnectionManagement s d c) h)
control_fits r s d (Bam size packets pgn) h = announced_fits (kind_of pgn) s (owner_heard s h) (d == GLOBAL_ADDRESS)
control_fits r s d _ h = nothing_fits Nothing (λ n k. refl) (λ u. refl) (λ m. refl)

group_fits : (r : StationSettings) (g : Group) (h : List Reading) → Fits (ended_by r g h) (group_change r g h)
group_fits r (AddressClaimed s m) h = claim_fits (is_held (address_known r m h) s) _ (nothing_fits _ (λ n k. refl) (λ u. refl) (λ m. refl))
group_fits r (CannotClaim m) h = giving_fits m (row_heard r m h)
group_fits r (Acknowledgment c q p d s) h = answer_fits (is_held (address_heard r h) q || is_held (address_heard r h) d) (owner_heard s h) c p (has_answered r (owner_heard s h) c p h)
group_fits r (Request p d s) h = nothing_fits Nothing (λ n k. refl) (λ u. refl) (λ m. refl)
group_fits r (Diagnostic k s bytes) h = single_fits k s (owner_heard s h) bytes
group_fits r (ConnectionManagement s d c) h = control_fits r s d c h
group_fits r (DataTransfer s d bytes) h = ended_fits s (ended_by r (DataTransfer s d bytes) h)
group_fits r Other h = nothing_fits Nothing (λ n k. refl) (λ u. refl) (λ m. refl)

pub lists_follow : (r : StationSettings) (x : Reading) (h : List Reading) (n : ℕ) (k : Kind) → AreListed (is_listed (change_heard r x h) n k) (entries_heard r n k h) (entries_heard r n k (x ∷ h))
lists_follow r (Gap m) h n k = refl
lists_follow r Empty h n k = refl
lists_follow r (Frame f) h n k = (group_fits r (group_of f) h).lists n k (entries_heard r n k h)

pub missed_follows : (r : StationSettings) (x : Reading) (h : List Reading) → missed_count (x ∷ h) ≡ missed_changed (change_heard r x h) (missed_count h)
missed_follows r (Gap m) h = refl
missed_follows r Empty h = refl
missed_follows r (Frame f) h = (group_fits r (group_of f) h).missed (missed_count h)

pub unread_follows : (r : StationSettings) (x : Reading) (h : List Reading) → unread_count r (x ∷ h) ≡ unread_changed (change_heard r x h) (unread_count r h)
unread_follows r (Gap m) h = refl
unread_follows r Empty h = refl
unread_follows r (Frame f) h = (group_fits r (group_of f) h).unread (unread_count r h)
