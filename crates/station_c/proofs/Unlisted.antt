-- A NAME that has no row has no entries: a message is put under the NAME that claimed its source, and who claims has a row.
use Rattle.std.proofs.Common.{◌≡◌, ◌==◌, ◌&&◌, ℕ, Bool, true, false, List, [], ◌∷◌, Option, Some, None, if◌then◌else◌, is_some, reverse, refl, sym, ap, subst, arith}
use Rattle.address_claim.specs.Claiming.{is_held}
use Rattle.bus_model.specs.Heard.{Entry, Joining, RowHeard, StationSettings, address_heard, broadcast_after, broadcast_heard, ended, ended_by, entries_heard, entry_under, finished, is_kind, kept_by_owner, kind_of, or_else, owner_heard, put, put_read, row_heard, session_after, session_heard, started, without_kind}
use Rattle.bus_model.specs.RowsLookBack.{IsNaming, WasNamed}
use Rattle.bus_model.proofs.Half.{owner_back}
use Rattle.bus_model.proofs.Rows.{named_row}
use Rattle.can_frame.specs.declared.address.TheConstants.{GLOBAL_ADDRESS}
use Rattle.can_frame.specs.declared.reading.Reading.{Reading}
use Rattle.can_frame.specs.declared.reading.Reading.TheVariants.{Frame, Gap, Empty}
use Rattle.dm_messages.specs.View.{decoding, same_kind}
use Rattle.dm_messages.specs.declared.kind.Kind.{Kind}
use Rattle.dm_messages.specs.declared.shown.Shown.{Shown}
use Rattle.parameter_group.specs.Calm.{is_contest}
use Rattle.parameter_group.specs.Group.{Group, AddressClaimed, CannotClaim, Request, Acknowledgment, Diagnostic, ConnectionManagement, DataTransfer, Other, group_of}
use Rattle.reassembly.specs.Partials.{after_packet, is_whole, unfinished, with_packet, with_piece}
use Rattle.station_table.specs.Listing.{lists_heard}
use Rattle.transport.specs.Assembling.{is_next}
use Rattle.transport.specs.declared.control.Control.TheVariants.{Rts, Cts, EndAck, Bam, Abort}

some_is : {X : Type 0} (x y : X) → Some x ≡ Some y → x ≡ y
some_is x y e = cc

-- what is half joined is of a NAME of which this holds
abbrev IsOf : (ℕ → Type 0) → Option Joining → Type 0
IsOf P o = (j : Joining) → o ≡ Some j → P j.tag.owner

abbrev Owns : (ℕ → Type 0) → Option ℕ → Type 0
Owns P own = (n : ℕ) → own ≡ Some n → P n

none_of : (P : ℕ → Type 0) → IsOf P None
none_of P j e = absurd cc

either_of : (P : ℕ → Type 0) (b : Bool) (x y : Option Joining) → IsOf P x → IsOf P y → IsOf P (if b then x else y)
either_of P true x y p q = p
either_of P false x y p q = q

same_owner : (P : ℕ → Type 0) (i : Joining) → P i.tag.owner → IsOf P (Some i)
same_owner P i p j e = subst P (ap (λ (k : Joining). k.tag.owner) (some_is i j e)) p

started_of : (P : ℕ → Type 0) (k : Option Kind) (size : ℕ) (own : Option ℕ) → Owns P own → IsOf P (started k size own)
started_of P None size own p = none_of P
started_of P (Some k) size None p = none_of P
started_of P (Some k) size (Some n) p = same_owner P _ (p n refl)

kept_of : (P : ℕ → Type 0) (n : ℕ) (o : Option Joining) → IsOf P o → IsOf P (kept_by_owner n o)
kept_of P n None p = none_of P
kept_of P n (Some i) p = either_of P (n == i.tag.owner) (Some i) None p (none_of P)

with_packet_of : (P : ℕ → Type 0) (bytes : List ℕ) (o : Option Joining) → IsOf P o → IsOf P (with_packet bytes o)
with_packet_of P bytes None p = none_of P
with_packet_of P bytes (Some i) p = either_of P (is_next i.size i.pieces bytes) (Some (with_piece _ i)) None (same_owner P (with_piece _ i) (p i refl)) (none_of P)

unfinished_of : (P : ℕ → Type 0) (o : Option Joining) → IsOf P o → IsOf P (unfinished o)
unfinished_of P None p = none_of P
unfinished_of P (Some i) p = either_of P (is_whole i) None (Some i) (none_of P) p

packet_of : (P : ℕ → Type 0) (bytes : List ℕ) (o : Option Joining) → IsOf P o → IsOf P (after_packet bytes o)
packet_of P bytes o p = unfinished_of P (with_packet bytes o) (with_packet_of P bytes o p)

or_else_of : (P : ℕ → Type 0) (x y : Option Joining) → IsOf P x → IsOf P y → IsOf P (or_else x y)
or_else_of P None y p q = q
or_else_of P (Some i) y p q = p

without_kind_of : (P : ℕ → Type 0) (k : Option Kind) (o : Option Joining) → IsOf P o → IsOf P (without_kind k o)
without_kind_of P k None p = none_of P
without_kind_of P k (Some i) p = either_of P (is_kind i.tag.kind k) None (Some i) (none_of P) p

broadcast_of : (P : ℕ → Type 0) (a : ℕ) (g : Group) (own : Option ℕ) (o : Option Joining) → Owns P own → IsOf P o → IsOf P (broadcast_after a g own o)
broadcast_of P a (ConnectionManagement s d (Bam size packets pgn)) own o p q =
    either_of P (s == a && d == GLOBAL_ADDRESS) (started (kind_of pgn) size own) o (started_of P (kind_of pgn) size own p) q
broadcast_of P a (ConnectionManagement s d (Rts size packets most pgn)) own o p q = q
broadcast_of P a (ConnectionManagement s d (Cts granted next pgn)) own o p q = q
broadcast_of P a (ConnectionManagement s d (EndAck size packets pgn)) own o p q = q
broadcast_of P a (ConnectionManagement s d (Abort reason pgn)) own o p q = q
broadcast_of P a (DataTransfer s d bytes) own o p q = either_of P (s == a && d == GLOBAL_ADDRESS) (after_packet bytes o) o (packet_of P bytes o q) q
broadcast_of P a (AddressClaimed s n) own o p q = either_of P (s == a) (kept_by_owner n o) o (kept_of P n o q) q
broadcast_of P a (CannotClaim n) own o p q = q
broadcast_of P a (Request x d s) own o p q = q
broadcast_of P a (Acknowledgment c x y d s) own o p q = q
broadcast_of P a (Diagnostic k s bytes) own o p q = q
broadcast_of P a Other own o p q = q

session_of : (P : ℕ → Type 0) (me a : ℕ) (g : Group) (held own : Option ℕ) (o : Option Joining) → Owns P own → IsOf P o → IsOf P (session_after me a g held own o)
session_of P me a (ConnectionManagement s d (Rts size packets most pgn)) held own o p q =
    either_of P (s == a && is_held held d) (or_else (started (kind_of pgn) size own) o) o
    (or_else_of P (started (kind_of pgn) size own) o (started_of P (kind_of pgn) size own p) q) q
session_of P me a (ConnectionManagement s d (Abort reason pgn)) held own o p q =
    either_of P (s == a && is_held held d) (without_kind (kind_of pgn) o) o (without_kind_of P (kind_of pgn) o q) q
session_of P me a (ConnectionManagement s d (Bam size packets pgn)) held own o p q = q
session_of P me a (ConnectionManagement s d (Cts granted next pgn)) held own o p q = q
session_of P me a (ConnectionManagement s d (EndAck size packets pgn)) held own o p q = q
session_of P me a (DataTransfer s d bytes) held own o p q = either_of P (s == a && is_held held d) (after_packet bytes o) o (packet_of P bytes o q) q
session_of P me a (AddressClaimed s n) held own o p q =
    either_of P (is_contest me held (AddressClaimed s n)) None (if s == a then kept_by_owner n o else o) (none_of P)
    (either_of P (s == a) (kept_by_owner n o) o (kept_of P n o q) q)
session_of P me a (CannotClaim n) held own o p q = q
session_of P me a (Request x d s) held own o p q = q
session_of P me a (Acknowledgment c x y d s) held own o p q = q
session_of P me a (Diagnostic k s bytes) held own o p q = q
session_of P me a Other held own o p q = q

-- ---- in what was read

abbrev Was : List Reading → ℕ → Type 0
Was h n = WasNamed n h

later : (x : Reading) (h : List Reading) (n : ℕ) → Was h n → Was (x ∷ h) n
later x h n w = record { later = x ∷ w.later; frame = w.frame; earlier = w.earlier; split = ap (λ (v : List Reading). x ∷ v) w.split; names = w.names }

later_of : (x : Reading) (h : List Reading) (o : Option Joining) → IsOf (Was h) o → IsOf (Was (x ∷ h)) o
later_of x h o p j e = later x h j.tag.owner (p j e)

owner_named : (a : ℕ) (h : List Reading) → Owns (Was h) (owner_heard a h)
owner_named a h n e =
    let own = owner_back a n h e in
    record { later = own.since; frame = own.claim; earlier = own.before; split = own.split; names = subst (IsNaming n) (sym own.claims) refl }

broadcast_named : (a : ℕ) (h : List Reading) → IsOf (Was h) (broadcast_heard a h)
broadcast_named a [] = none_of (Was [])
broadcast_named a (Gap n ∷ h) = none_of (Was (Gap n ∷ h))
broadcast_named a (Empty ∷ h) = later_of Empty h (broadcast_heard a h) (broadcast_named a h)
broadcast_named a (Frame f ∷ h) =
    later_of (Frame f) h (broadcast_after a (group_of f) (owner_heard a h) (broadcast_heard a h))
    (broadcast_of (Was h) a (group_of f) (owner_heard a h) (broadcast_heard a h) (owner_named a h) (broadcast_named a h))

session_named : (r : StationSettings) (a : ℕ) (h : List Reading) → IsOf (Was h) (session_heard r a h)
session_named r a [] = none_of (Was [])
session_named r a (Gap n ∷ h) = none_of (Was (Gap n ∷ h))
session_named r a (Empty ∷ h) = later_of Empty h (session_heard r a h) (session_named r a h)
session_named r a (Frame f ∷ h) =
    later_of (Frame f) h (session_after r.name a (group_of f) (address_heard r h) (owner_heard a h) (session_heard r a h))
    (session_of (Was h) r.name a (group_of f) (address_heard r h) (owner_heard a h) (session_heard r a h) (owner_named a h) (session_named r a h))

-- a message that ended is of a NAME of which this holds
abbrev Ends : (ℕ → Type 0) → Option Entry → Type 0
Ends P o = (e : Entry) → o ≡ Some e → P e.name

no_end : (P : ℕ → Type 0) → Ends P None
no_end P e f = absurd cc

either_ends : (P : ℕ → Type 0) (b : Bool) (x y : Option Entry) → Ends P x → Ends P y → Ends P (if b then x else y)
either_ends P true x y p q = p
either_ends P false x y p q = q

same_name : (P : ℕ → Type 0) (e : Entry) → P e.name → Ends P (Some e)
same_name P e p d f = subst P (ap (λ (x : Entry). x.name) (some_is e d f)) p

finished_of : (P : ℕ → Type 0) (o : Option Joining) → IsOf P o → Ends P (finished o)
finished_of P None p = no_end P
finished_of P (Some j) p = either_ends P (is_whole j) (Some _) None (same_name P _ (p j refl)) (no_end P)

single_of : (P : ℕ → Type 0) (own : Option ℕ) (k : Kind) (bytes : List ℕ) → Owns P own → Ends P (entry_under own k bytes)
single_of P None k bytes p = no_end P
single_of P (Some n) k bytes p = same_name P _ (p n refl)

group_of_named : (r : StationSettings) (g : Group) (h : List Reading) → Ends (Was h) (ended_by r g h)
group_of_named r (Diagnostic k s bytes) h = single_of (Was h) (owner_heard s h) k bytes (owner_named s h)
group_of_named r (DataTransfer s d bytes) h =
    either_ends (Was h) (d == GLOBAL_ADDRESS) (finished (with_packet bytes (broadcast_heard s h))) _
    (finished_of (Was h) (with_packet bytes (broadcast_heard s h)) (with_packet_of (Was h) bytes (broadcast_heard s h) (broadcast_named s h)))
    (either_ends (Was h) (is_held (address_heard r h) d) (finished (with_packet bytes (session_heard r s h))) None
    (finished_of (Was h) (with_packet bytes (session_heard r s h)) (with_packet_of (Was h) bytes (session_heard r s h) (session_named r s h))) (no_end (Was h)))
group_of_named r (AddressClaimed s n) h = no_end (Was h)
group_of_named r (CannotClaim n) h = no_end (Was h)
group_of_named r (Request x d s) h = no_end (Was h)
group_of_named r (Acknowledgment c x y d s) h = no_end (Was h)
group_of_named r (ConnectionManagement s d c) h = no_end (Was h)
group_of_named r Other h = no_end (Was h)

ended_named : (r : StationSettings) (x : Reading) (h : List Reading) → Ends (Was h) (ended r x h)
ended_named r (Gap n) h = no_end (Was h)
ended_named r Empty h = no_end (Was h)
ended_named r (Frame f) h = group_of_named r (group_of f) h

put_none : (P : ℕ → Type 0) (n : ℕ) (k : Kind) (o : Option Entry) (entries : List Shown) → Ends P o → (P n → ⊥) → entries ≡ [] → put n k o entries ≡ []
put_none P n k None entries ends nay none = none
put_none P n k (Some e) entries ends nay none = go (e.name == n) refl
  where
    go : (b : Bool) → (e.name == n) ≡ b → (if b && same_kind e.kind k then put_read (decoding e.bytes) entries else entries) ≡ []
    go true same = let is : e.name ≡ n = grind arith in absurd (nay (subst P is (ends e refl)))
    go false same = none

no_entries : (r : StationSettings) (n : ℕ) (k : Kind) (h : List Reading) → (WasNamed n h → ⊥) → entries_heard r n k h ≡ []
no_entries r n k [] nay = refl
no_entries r n k (x ∷ h) nay =
    put_none (Was h) n k (ended r x h) (entries_heard r n k h) (ended_named r x h) (λ w. nay (later x h n w)) (no_entries r n k h (λ w. nay (later x h n w)))

pub nothing_listed : (r : StationSettings) (n : ℕ) (k : Kind) (h : List Reading) → row_heard r n h ≡ None → lists_heard r h n k ≡ []
nothing_listed r n k h none = ap (λ (entries : List Shown). reverse entries) (no_entries r n k h (λ w. unrowed (named_row r n h w)))
  where
    unrowed : is_some (row_heard r n h) ≡ true → ⊥
    unrowed e = (let f : is_some {T = RowHeard} None ≡ true = subst (λ (o : Option RowHeard). is_some o ≡ true) none e in cc)
