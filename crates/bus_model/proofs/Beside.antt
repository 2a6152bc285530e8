-- Beside a station that takes part, one who takes none hears of each message to all or to the station what the station hears.
use Rattle.std.proofs.Common.{◌≡◌, ◌≢◌, ◌⊎◌, ℕ, ◌≤◌, Bool, true, false, not, ◌&&◌, ◌||◌, ◌==◌, List, [], ◌∷◌, ◌++◌, length, drop, Option, Some, None, if◌then◌else◌, sym, refl, ap, ◌∙◌, subst, inl, inr, arith}
use Rattle.can_frame.specs.FrameValue.{FrameValue}
use Rattle.can_frame.specs.declared.reading.Reading.{Reading}
use Rattle.can_frame.specs.declared.reading.Reading.TheVariants.{Frame}
use Rattle.dm_messages.specs.View.{decoding, same_kind}
use Rattle.dm_messages.specs.declared.kind.Kind.{Kind}
use Rattle.dm_messages.specs.declared.shown.Shown.{Shown}
use Rattle.parameter_group.specs.Calm.{is_contest}
use Rattle.parameter_group.specs.Group.{Acknowledgment, AddressClaimed, CannotClaim, ConnectionManagement, DataTransfer, Diagnostic, Group, Other, Request, group_of}
use Rattle.transport.specs.Assembling.{is_next}
use Rattle.transport.specs.Pieces.{joined}
use Rattle.transport.specs.declared.control.Control.TheVariants.{Abort, Bam, Cts, EndAck, Rts}
use Rattle.reassembly.specs.Partials.{after_packet, is_whole, unfinished, with_packet}
use Rattle.bus_model.specs.Beside.{AbortsNone, IsOrderly, TakesPart, readings_beside}
use Rattle.bus_model.specs.Expected.{Missed, Own, Received, Reception, readings}
use Rattle.bus_model.specs.Heard.{Entry, Joining, StationSettings, address_heard, broadcast_after, broadcast_heard, ended_by, entries_heard, entry_under, finished, kept_by_owner, kind_of, or_else, owner_heard, put, put_read, session_after, session_heard, started, without_kind}
use Rattle.bus_model.specs.Machine.{IsFit, MaySend}
use Rattle.bus_model.specs.Overheard.{EntrySent, HalfSent, newly_sent, between_after, between_heard, entries_overheard, gaps_heard, is_named, is_pair, kept_by_name, put_sent, put_shown, sent_by, sent_whole, shown_to, who_at, who_heard}
use Rattle.bus_model.specs.Traffic.{owner_after}
use Rattle.bus_model.specs.declared.who.Who.{Who}
use Rattle.bus_model.specs.declared.who.Who.TheVariants.{Named, Unclaimed}
use Rattle.bus_model.proofs.Bridge.{address_first, address_gap, address_read}
use Rattle.bus_model.proofs.Lookback.{and_parts, ne_test, same_kind_self, same_test, true_test}
use Rattle.bus_model.proofs.Seats.{swap_test}
use Rattle.bus_model.proofs.Sessions.{session_owned}

-- what is half sent under a NAME, as a station has it half joined
abbrev pub joining_of : Who → Kind → ℕ → List (List ℕ) → Option Joining
joining_of (Named n) k size pieces = Some (record { tag = record { owner = n; kind = k }; size = size; pieces = pieces })
joining_of (Unclaimed a g) k size pieces = None

abbrev pub as_joined : Option HalfSent → Option Joining
as_joined None = None
as_joined (Some j) = joining_of j.tag.who j.tag.kind j.size j.pieces

and_true : (b : Bool) → (b && true) ≡ b
and_true true = refl
and_true false = refl

or_true : (b : Bool) → (b || true) ≡ true
or_true true = refl
or_true false = refl

and_none : (b : Bool) → (b && false) ≡ false
and_none true = refl
and_none false = refl

-- ---- each step of what is half sent is the station's step

if_some : (b : Bool) (j : HalfSent) → as_joined (if b then Some j else None) ≡ (if b then as_joined (Some j) else None)
if_some true j = refl
if_some false j = refl

if_none : (b : Bool) (j : HalfSent) → as_joined (if b then None else Some j) ≡ (if b then None else as_joined (Some j))
if_none true j = refl
if_none false j = refl

starts_alike : (k : Option Kind) (size a gaps : ℕ) (own : Option ℕ) → as_joined (newly_sent k size (who_at own a gaps)) ≡ started k size own
starts_alike None size a gaps own = refl
starts_alike (Some k) size a gaps None = refl
starts_alike (Some k) size a gaps (Some n) = refl

kept_alike : (n : ℕ) (o : Option HalfSent) → as_joined (kept_by_name n o) ≡ kept_by_owner n (as_joined o)
kept_alike n None = refl
kept_alike n (Some j) = if_some (is_named n j.tag.who) j ∙ go j.tag.who
  where
    go : (w : Who) → (if is_named n w then joining_of w j.tag.kind j.size j.pieces else None) ≡ kept_by_owner n (joining_of w j.tag.kind j.size j.pieces)
    go (Named m) = refl
    go (Unclaimed a g) = refl

next_alike : (q : List ℕ) (o : Option HalfSent) → as_joined (with_packet q o) ≡ with_packet q (as_joined o)
next_alike q None = refl
next_alike q (Some j) = if_some (is_next j.size j.pieces q) (record j { pieces = j.pieces ++ drop 1 q ∷ [] }) ∙ go j.tag.who
  where
    none : (b : Bool) → ◌≡◌ {A = Option Joining} (if b then None else None) None
    none true = refl
    none false = refl

    go : (w : Who) → (if is_next j.size j.pieces q then joining_of w j.tag.kind j.size (j.pieces ++ drop 1 q ∷ []) else None) ≡ with_packet q (joining_of w j.tag.kind j.size j.pieces)
    go (Named m) = refl
    go (Unclaimed a g) = none (is_next j.size j.pieces q)

open_alike : (o : Option HalfSent) → as_joined (unfinished o) ≡ unfinished (as_joined o)
open_alike None = refl
open_alike (Some j) = if_none (is_whole j) j ∙ go j.tag.who
  where
    none : (b : Bool) → ◌≡◌ {A = Option Joining} (if b then None else None) None
    none true = refl
    none false = refl

    go : (w : Who) → (if is_whole j then None else joining_of w j.tag.kind j.size j.pieces) ≡ unfinished (joining_of w j.tag.kind j.size j.pieces)
    go (Named m) = refl
    go (Unclaimed a g) = none (is_whole j)

packet_alike : (q : List ℕ) (o : Option HalfSent) → as_joined (after_packet q o) ≡ after_packet q (as_joined o)
packet_alike q o = open_alike (with_packet q o) ∙ ap unfinished (next_alike q o)

-- broadcasts
cast_alike : (a : ℕ) (g : Group) (own : Option ℕ) (gaps : ℕ) (o : Option HalfSent) → broadcast_after a g own (as_joined o) ≡ as_joined (between_after a 255 g (who_at own a gaps) o)
cast_alike a (ConnectionManagement s e (Bam x y p)) own gaps o = go (s == a && e == 255)
  where
    go : (b : Bool) → (if b then started (kind_of p) x own else as_joined o) ≡ as_joined (if b && true then newly_sent (kind_of p) x (who_at own a gaps) else o)
    go true = sym (starts_alike (kind_of p) x a gaps own)
    go false = refl
cast_alike a (ConnectionManagement s e (Rts x y z p)) own gaps o = rw (and_none (s == a && e == 255)) refl
cast_alike a (ConnectionManagement s e (Abort x p)) own gaps o = rw (and_none (is_pair a 255 s e || is_pair 255 a s e)) refl
cast_alike a (DataTransfer s e q) own gaps o = go (s == a && e == 255)
  where
    go : (b : Bool) → (if b then after_packet q (as_joined o) else as_joined o) ≡ as_joined (if b then after_packet q o else o)
    go true = sym (packet_alike q o)
    go false = refl
cast_alike a (AddressClaimed s n) own gaps o = go (s == a)
  where
    go : (b : Bool) → (if b then kept_by_owner n (as_joined o) else as_joined o) ≡ as_joined (if b then kept_by_name n o else o)
    go true = sym (kept_alike n o)
    go false = refl
cast_alike a (ConnectionManagement s e (Cts x y p)) own gaps o = refl
cast_alike a (ConnectionManagement s e (EndAck x y p)) own gaps o = refl
cast_alike a (CannotClaim n) own gaps o = refl
cast_alike a (Request p e s) own gaps o = refl
cast_alike a (Acknowledgment c q p e s) own gaps o = refl
cast_alike a (Diagnostic k s q) own gaps o = refl
cast_alike a Other own gaps o = refl

kind_dropped : (k : Option Kind) (o : Option Joining) → ((j : Joining) → o ≡ Some j → k ≡ Some j.tag.kind) → without_kind k o ≡ None
kind_dropped k None h = refl
kind_dropped k (Some j) h = (let e = h j refl in rw (e, same_kind_self j.tag.kind) refl)

-- sessions with the station, which is at me
session_alike : (name me a : ℕ) (g : Group) (own : Option ℕ) (gaps : ℕ) (before : Option Joining) (o : Option HalfSent) → me ≢ 255 → before ≡ as_joined o
    → (own ≡ None → before ≡ None)
    → ((s e x y z p : ℕ) → g ≡ ConnectionManagement s e (Rts x y z p) → s ≡ a → e ≡ me → kind_of p ≡ None → before ≡ None)
    → ((s e x p : ℕ) → g ≡ ConnectionManagement s e (Abort x p) → (s ≢ me) × (s ≡ a → e ≡ me → (j : Joining) → before ≡ Some j → kind_of p ≡ Some j.tag.kind))
    → ((s n : ℕ) → g ≡ AddressClaimed s n → s ≢ me)
    → session_after name a g (Some me) own before ≡ as_joined (between_after a me g (who_at own a gaps) o)
session_alike name me a (ConnectionManagement s e (Rts x y z p)) own gaps before o one same unowned rts aborts claims =
    rw (ne_test me 255 one, and_true (s == a && e == me), swap_test me e) (go (s == a && e == me) refl)
  where
    start : (k : Option Kind) (n : Option ℕ) → kind_of p ≡ k → own ≡ n → s ≡ a → e ≡ me → or_else (started k x n) before ≡ as_joined (newly_sent k x (who_at n a gaps))
    start None n i m u v = rts s e x y z p refl u v i
    start (Some k) None i m u v = unowned m
    start (Some k) (Some n) i m u v = refl

    go : (b : Bool) → (s == a && e == me) ≡ b → (if b then or_else (started (kind_of p) x own) before else before) ≡ as_joined (if b then newly_sent (kind_of p) x (who_at own a gaps) else o)
    go true i = (let t = and_parts (s == a) (e == me) i in start (kind_of p) own refl refl (true_test s a t.0) (true_test e me t.1))
    go false i = same
session_alike name me a (ConnectionManagement s e (Abort x p)) own gaps before o one same unowned rts aborts claims =
    rw (ne_test me 255 one, ne_test s me (aborts s e x p refl).0, swap_test me e) (go (s == a && e == me) refl)
  where
    go : (b : Bool) → (s == a && e == me) ≡ b → (if b then without_kind (kind_of p) before else before) ≡ as_joined (if (b || false) && true then None else o)
    go true i = (let t = and_parts (s == a) (e == me) i in kind_dropped (kind_of p) before ((aborts s e x p refl).1 (true_test s a t.0) (true_test e me t.1)))
    go false i = same
session_alike name me a (DataTransfer s e q) own gaps before o one same unowned rts aborts claims = rw (swap_test me e, same) (go (s == a && e == me))
  where
    go : (b : Bool) → (if b then after_packet q (as_joined o) else as_joined o) ≡ as_joined (if b then after_packet q o else o)
    go true = sym (packet_alike q o)
    go false = refl
session_alike name me a (AddressClaimed s n) own gaps before o one same unowned rts aborts claims =
    let apart : (me == s) ≡ false = ne_test me s (λ u. claims s n refl (sym u)) in
    rw (apart, same) (go (s == a))
  where
    go : (b : Bool) → (if b then kept_by_owner n (as_joined o) else as_joined o) ≡ as_joined (if b then kept_by_name n o else o)
    go true = sym (kept_alike n o)
    go false = refl
session_alike name me a (ConnectionManagement s e (Bam x y p)) own gaps before o one same unowned rts aborts claims = rw (ne_test me 255 one, and_none (s == a && e == me)) same
session_alike name me a (ConnectionManagement s e (Cts x y p)) own gaps before o one same unowned rts aborts claims = same
session_alike name me a (ConnectionManagement s e (EndAck x y p)) own gaps before o one same unowned rts aborts claims = same
session_alike name me a (CannotClaim n) own gaps before o one same unowned rts aborts claims = same
session_alike name me a (Request p e s) own gaps before o one same unowned rts aborts claims = same
session_alike name me a (Acknowledgment c q p e s) own gaps before o one same unowned rts aborts claims = same
session_alike name me a (Diagnostic k s q) own gaps before o one same unowned rts aborts claims = same
session_alike name me a Other own gaps before o one same unowned rts aborts claims = same

-- ---- a message that ends

abbrev as_entry : Who → Kind → List ℕ → Option Entry
as_entry (Named n) k bytes = Some (record { name = n; kind = k; bytes = bytes })
as_entry (Unclaimed a g) k bytes = None

-- to all or to the station
listed_alike : (me n : ℕ) (k : Kind) (w : Who) (l : Kind) (d : ℕ) (bytes : List ℕ) (es : List EntrySent) → (d == 255 || d == me) ≡ true
    → put n k (as_entry w l bytes) (shown_to me es) ≡ shown_to me (put_sent (Named n) k (Some (record { who = w; kind = l; to = d; bytes = bytes })) es)
listed_alike me n k (Unclaimed a g) l d bytes es to = refl
listed_alike me n k (Named m) l d bytes es to = go (m == n && same_kind l k)
  where
    read : (v : Option Shown) → put_read v (shown_to me es) ≡ shown_to me (put_shown d v es)
    read None = refl
    read (Some v) = rw to refl

    go : (b : Bool) → (if b then put_read (decoding bytes) (shown_to me es) else shown_to me es) ≡ shown_to me (if b then put_shown d (decoding bytes) es else es)
    go true = read (decoding bytes)
    go false = refl

-- to another address
listed_elsewhere : (me n : ℕ) (k : Kind) (w : Who) (l : Kind) (d : ℕ) (bytes : List ℕ) (es : List EntrySent) → (d == 255 || d == me) ≡ false
    → shown_to me es ≡ shown_to me (put_sent (Named n) k (Some (record { who = w; kind = l; to = d; bytes = bytes })) es)
listed_elsewhere me n k (Unclaimed a g) l d bytes es to = refl
listed_elsewhere me n k (Named m) l d bytes es to = go (m == n && same_kind l k)
  where
    read : (v : Option Shown) → shown_to me es ≡ shown_to me (put_shown d v es)
    read None = refl
    read (Some v) = rw to refl

    go : (b : Bool) → shown_to me es ≡ shown_to me (if b then put_shown d (decoding bytes) es else es)
    go true = read (decoding bytes)
    go false = refl

whole_alike : (me n : ℕ) (k : Kind) (d : ℕ) (o : Option HalfSent) (es : List EntrySent) → (d == 255 || d == me) ≡ true
    → put n k (finished (as_joined o)) (shown_to me es) ≡ shown_to me (put_sent (Named n) k (sent_whole d o) es)
whole_alike me n k d None es to = refl
whole_alike me n k d (Some j) es to = go j.tag.who
  where
    bytes : List ℕ
    bytes = joined j.size j.pieces

    go : (w : Who) → put n k (finished (joining_of w j.tag.kind j.size j.pieces)) (shown_to me es)
        ≡ shown_to me (put_sent (Named n) k (if is_whole j then Some (record { who = w; kind = j.tag.kind; to = d; bytes = bytes }) else None) es)
    go (Named m) = pick (is_whole j)
      where
        pick : (b : Bool) → put n k (if b then Some (record { name = m; kind = j.tag.kind; bytes = bytes }) else None) (shown_to me es)
            ≡ shown_to me (put_sent (Named n) k (if b then Some (record { who = Named m; kind = j.tag.kind; to = d; bytes = bytes }) else None) es)
        pick true = listed_alike me n k (Named m) j.tag.kind d bytes es to
        pick false = refl
    go (Unclaimed a g) = pick (is_whole j)
      where
        pick : (b : Bool) → shown_to me es ≡ shown_to me (put_sent (Named n) k (if b then Some (record { who = Unclaimed a g; kind = j.tag.kind; to = d; bytes = bytes }) else None) es)
        pick true = refl
        pick false = refl

whole_elsewhere : (me n : ℕ) (k : Kind) (d : ℕ) (o : Option HalfSent) (es : List EntrySent) → (d == 255 || d == me) ≡ false
    → shown_to me es ≡ shown_to me (put_sent (Named n) k (sent_whole d o) es)
whole_elsewhere me n k d None es to = refl
whole_elsewhere me n k d (Some j) es to = pick (is_whole j)
  where
    pick : (b : Bool) → shown_to me es ≡ shown_to me (put_sent (Named n) k (if b then Some (record { who = j.tag.who; kind = j.tag.kind; to = d; bytes = joined j.size j.pieces }) else None) es)
    pick true = listed_elsewhere me n k j.tag.who j.tag.kind d (joined j.size j.pieces) es to
    pick false = refl

-- ---- side by side

-- of each address but the station's the same is heard, and nothing is half sent from the station's
record AreAlike (r : StationSettings) (hs ws : List Reading) : Type 0 where
  held : address_heard r hs ≡ Some r.address
  owners : (a : ℕ) → a ≢ r.address → owner_heard a hs ≡ owner_heard a ws
  casts : (a : ℕ) → a ≢ r.address → broadcast_heard a hs ≡ as_joined (between_heard a 255 ws)
  sessions : (a : ℕ) → a ≢ r.address → session_heard r a hs ≡ as_joined (between_heard a r.address ws)
  own : (d : ℕ) → between_heard r.address d ws ≡ None

-- nothing comes of nothing
none_begun : (me d : ℕ) (g : Group) (who : Who) → ((s e x y p : ℕ) → g ≡ ConnectionManagement s e (Bam x y p) → (s ≢ me) ⊎ (kind_of p ≡ None)) → ((s e x y z p : ℕ) → g ≡ ConnectionManagement s e (Rts x y z p) → s ≢ me)
    → between_after me d g who None ≡ None
none_begun me d (ConnectionManagement s e (Bam x y p)) who bam rts = elim (bam s e x y p refl) [
  | inl ne ↦ rw (ne_test s me ne) refl
  | inr none ↦ rw none (go (is_pair me d s e && d == 255))
]
  where
    go : (b : Bool) → ◌≡◌ {A = Option HalfSent} (if b then None else None) None
    go true = refl
    go false = refl
none_begun me d (ConnectionManagement s e (Rts x y z p)) who bam rts = rw (ne_test s me (rts s e x y z p refl)) refl
none_begun me d (ConnectionManagement s e (Abort x p)) who bam rts = go ((is_pair me d s e || is_pair d me s e) && not (d == 255))
  where
    go : (b : Bool) → ◌≡◌ {A = Option HalfSent} (if b then None else None) None
    go true = refl
    go false = refl
none_begun me d (DataTransfer s e q) who bam rts = go (is_pair me d s e)
  where
    go : (b : Bool) → ◌≡◌ {A = Option HalfSent} (if b then after_packet q None else None) None
    go true = refl
    go false = refl
none_begun me d (AddressClaimed s n) who bam rts = go (s == me)
  where
    go : (b : Bool) → ◌≡◌ {A = Option HalfSent} (if b then kept_by_name n None else None) None
    go true = refl
    go false = refl
none_begun me d (ConnectionManagement s e (Cts x y p)) who bam rts = refl
none_begun me d (ConnectionManagement s e (EndAck x y p)) who bam rts = refl
none_begun me d (CannotClaim n) who bam rts = refl
none_begun me d (Request p e s) who bam rts = refl
none_begun me d (Acknowledgment c q p e s) who bam rts = refl
none_begun me d (Diagnostic k s q) who bam rts = refl
none_begun me d Other who bam rts = refl

some_is : (a b : ℕ) → ◌≡◌ {A = Option ℕ} (Some a) (Some b) → a ≡ b
some_is a b h = cc

-- ---- a frame that the station sends

own_apart : (me s a : ℕ) → ◌≡◌ {A = Option ℕ} (Some me) (Some s) → a ≢ me → (s == a) ≡ false
own_apart me s a from ne = ne_test s a (λ u. ne (sym u ∙ sym (some_is me s from)))

own_owner : (me name a : ℕ) (g : Group) → MaySend name (Some me) g → a ≢ me → (o : Option ℕ) → owner_after a g o ≡ o
own_owner me name a (AddressClaimed s n) send ne o = rw (own_apart me s a send.0 ne) refl
own_owner me name a _ send ne o = refl

own_cast : (me name a : ℕ) (g : Group) → MaySend name (Some me) g → a ≢ me → (who : Who) (o : Option HalfSent) → between_after a 255 g who o ≡ o
own_cast me name a (ConnectionManagement s e (Bam x y p)) send ne who o = rw (own_apart me s a send.0 ne) refl
own_cast me name a (ConnectionManagement s e (Rts x y z p)) send ne who o = absurd send
own_cast me name a (ConnectionManagement s e (Abort x p)) send ne who o = rw (and_none (is_pair a 255 s e || is_pair 255 a s e)) refl
own_cast me name a (DataTransfer s e q) send ne who o = rw (own_apart me s a send.0 ne) refl
own_cast me name a (AddressClaimed s n) send ne who o = rw (own_apart me s a send.0 ne) refl
own_cast me name a (ConnectionManagement s e (Cts x y p)) send ne who o = refl
own_cast me name a (ConnectionManagement s e (EndAck x y p)) send ne who o = refl
own_cast me name a (CannotClaim n) send ne who o = refl
own_cast me name a (Request p e s) send ne who o = refl
own_cast me name a (Acknowledgment c q p e s) send ne who o = refl
own_cast me name a (Diagnostic k s q) send ne who o = refl
own_cast me name a Other send ne who o = refl

own_session : (r : StationSettings) (hs : List Reading) (a : ℕ) (g : Group) → r.address ≢ 255 → MaySend r.name (Some r.address) g → AbortsNone r g hs → a ≢ r.address → (who : Who) (o : Option HalfSent)
    → session_heard r a hs ≡ as_joined o → as_joined (between_after a r.address g who o) ≡ as_joined o
own_session r hs a (ConnectionManagement s e (Bam x y p)) one send aborts ne who o same = rw (own_apart r.address s a send.0 ne) refl
own_session r hs a (ConnectionManagement s e (Rts x y z p)) one send aborts ne who o same = absurd send
own_session r hs a (ConnectionManagement s e (Abort x p)) one send aborts ne who o same =
    rw (own_apart r.address s a send ne, ne_test r.address 255 one, and_true (is_pair r.address a s e)) (go (is_pair r.address a s e) refl)
  where
    go : (b : Bool) → is_pair r.address a s e ≡ b → as_joined (if b then None else o) ≡ as_joined o
    go true i =
        (let t = and_parts (s == r.address) (e == a) i in
        let none : session_heard r a hs ≡ None = subst (λ (v : ℕ). session_heard r v hs ≡ None) (true_test e a t.1) aborts in
        sym none ∙ same)
    go false i = refl
own_session r hs a (DataTransfer s e q) one send aborts ne who o same = rw (own_apart r.address s a send.0 ne) refl
own_session r hs a (AddressClaimed s n) one send aborts ne who o same = rw (own_apart r.address s a send.0 ne) refl
own_session r hs a (ConnectionManagement s e (Cts x y p)) one send aborts ne who o same = refl
own_session r hs a (ConnectionManagement s e (EndAck x y p)) one send aborts ne who o same = refl
own_session r hs a (CannotClaim n) one send aborts ne who o same = refl
own_session r hs a (Request p e s) one send aborts ne who o same = refl
own_session r hs a (Acknowledgment c q p e s) one send aborts ne who o same = refl
own_session r hs a (Diagnostic k s q) one send aborts ne who o same = refl
own_session r hs a Other one send aborts ne who o same = refl

own_step : (r : StationSettings) (hs ws : List Reading) (f : FrameValue) → r.address ≢ 255 → AreAlike r hs ws → MaySend r.name (Some r.address) (group_of f) → AbortsNone r (group_of f) hs
    → AreAlike r hs (Frame f ∷ ws)
own_step r hs ws f one ih send aborts = record {
  held = ih.held;
  owners = λ a ne. ih.owners a ne ∙ sym (own_owner r.address r.name a (group_of f) send ne (owner_heard a ws));
  casts = λ a ne. ih.casts a ne ∙ ap as_joined (sym (own_cast r.address r.name a (group_of f) send ne (who_heard a ws) (between_heard a 255 ws)));
  sessions = λ a ne. ih.sessions a ne ∙ sym (own_session r hs a (group_of f) one send aborts ne (who_heard a ws) (between_heard a r.address ws) (ih.sessions a ne));
  own = λ d. rw (ih.own d) (none_begun r.address d (group_of f) (who_heard r.address ws)
      (λ s e x y p i. inr ((subst (λ (g : Group). MaySend r.name (Some r.address) g) i send).1))
      (λ s e x y z p i. absurd (subst (λ (g : Group). MaySend r.name (Some r.address) g) i send)));
}

-- it ends no message
own_ends_none : (r : StationSettings) (hs ws : List Reading) (g : Group) → AreAlike r hs ws → MaySend r.name (Some r.address) g → sent_by g ws ≡ None
own_ends_none r hs ws (Diagnostic k s q) ih send = absurd send
own_ends_none r hs ws (DataTransfer s e q) ih send =
    let none : between_heard s e ws ≡ None = subst (λ (v : ℕ). between_heard v e ws ≡ None) (some_is r.address s send.0) (ih.own e) in
    rw none refl
own_ends_none r hs ws (AddressClaimed s n) ih send = refl
own_ends_none r hs ws (CannotClaim n) ih send = refl
own_ends_none r hs ws (Request p e s) ih send = refl
own_ends_none r hs ws (Acknowledgment c q p e s) ih send = refl
own_ends_none r hs ws (ConnectionManagement s e c) ih send = refl
own_ends_none r hs ws Other ih send = refl

-- ---- a frame that others send

uncontested : (name me : ℕ) (g : Group) → ((s n : ℕ) → g ≡ AddressClaimed s n → s ≢ me) → is_contest name (Some me) g ≡ false
uncontested name me (AddressClaimed s n) claims = (let apart : (me == s) ≡ false = ne_test me s (λ u. claims s n refl (sym u)) in rw apart refl)
uncontested name me _ claims = refl

unowned_session : (r : StationSettings) (hs ws : List Reading) (a : ℕ) → owner_heard a hs ≡ owner_heard a ws → owner_heard a ws ≡ None → session_heard r a hs ≡ None
unowned_session r hs ws a same none = go (session_heard r a hs) refl
  where
    go : (o : Option Joining) → session_heard r a hs ≡ o → session_heard r a hs ≡ None
    go None i = i
    go (Some j) i = (let owned = session_owned r a hs j i in let y : ◌≡◌ {A = Option ℕ} None (Some j.tag.owner) = sym none ∙ (sym same ∙ owned) in absurd cc)

other_step : (r : StationSettings) (hs ws : List Reading) (f : FrameValue) → r.address ≢ 255 → AreAlike r hs ws → IsOrderly r (group_of f) hs → AreAlike r (Frame f ∷ hs) (Frame f ∷ ws)
other_step r hs ws f one ih orderly = record {
  held = address_read r f hs (rw ih.held (uncontested r.name r.address (group_of f) claims)) ∙ ih.held;
  owners = λ a ne. ap (owner_after a (group_of f)) (ih.owners a ne);
  casts = λ a ne. rw (ih.owners a ne, ih.casts a ne) (cast_alike a (group_of f) (owner_heard a ws) (gaps_heard ws) (between_heard a 255 ws));
  sessions = λ a ne. rw (ih.held, ih.owners a ne)
      (session_alike r.name r.address a (group_of f) (owner_heard a ws) (gaps_heard ws) (session_heard r a hs) (between_heard a r.address ws) one (ih.sessions a ne)
      (unowned_session r hs ws a (ih.owners a ne))
      (λ s e x y z p i u v k. subst (λ (w : ℕ). session_heard r w hs ≡ None) u ((orderly_as (ConnectionManagement s e (Rts x y z p)) i).1 v k))
      (λ s e x p i. (
        (orderly_as (ConnectionManagement s e (Abort x p)) i).0,
        λ u v. subst (λ (w : ℕ). (j : Joining) → session_heard r w hs ≡ Some j → kind_of p ≡ Some j.tag.kind) u ((orderly_as (ConnectionManagement s e (Abort x p)) i).1 v),
      ))
      claims);
  own = λ d. rw (ih.own d) (none_begun r.address d (group_of f) (who_heard r.address ws)
      (λ s e x y p i. inl (orderly_as (ConnectionManagement s e (Bam x y p)) i))
      (λ s e x y z p i. (orderly_as (ConnectionManagement s e (Rts x y z p)) i).0));
}
  where
    orderly_as : (g : Group) → group_of f ≡ g → IsOrderly r g hs
    orderly_as g i = subst (λ (v : Group). IsOrderly r v hs) i orderly

    claims : (s n : ℕ) → group_of f ≡ AddressClaimed s n → s ≢ r.address
    claims s n i = orderly_as (AddressClaimed s n) i

-- the message that it ends
other_ends : (r : StationSettings) (hs ws : List Reading) (n : ℕ) (k : Kind) (es : List EntrySent) (g : Group) → AreAlike r hs ws → IsOrderly r g hs
    → put n k (ended_by r g hs) (shown_to r.address es) ≡ shown_to r.address (put_sent (Named n) k (sent_by g ws) es)
other_ends r hs ws n k es (Diagnostic l s bytes) ih orderly = rw (ih.owners s orderly) (go (owner_heard s ws))
  where
    go : (own : Option ℕ) → put n k (entry_under own l bytes) (shown_to r.address es)
        ≡ shown_to r.address (put_sent (Named n) k (Some (record { who = who_at own s (gaps_heard ws); kind = l; to = 255; bytes = bytes })) es)
    go None = listed_alike r.address n k (Unclaimed s (gaps_heard ws)) l 255 bytes es refl
    go (Some w) = listed_alike r.address n k (Named w) l 255 bytes es refl
other_ends r hs ws n k es (DataTransfer s d q) ih orderly = rw (ih.held) (go (d == 255) (r.address == d) refl refl)
  where
    Ends : ℕ → Option Entry → Type 0
    Ends v e = put n k e (shown_to r.address es) ≡ shown_to r.address (put_sent (Named n) k (sent_whole v (with_packet q (between_heard s v ws))) es)

    cast : Ends 255 (finished (with_packet q (broadcast_heard s hs)))
    cast = rw (ih.casts s orderly, ← next_alike q (between_heard s 255 ws)) (whole_alike r.address n k 255 (with_packet q (between_heard s 255 ws)) es refl)

    session : Ends r.address (finished (with_packet q (session_heard r s hs)))
    session = rw (ih.sessions s orderly, ← next_alike q (between_heard s r.address ws))
        (whole_alike r.address n k r.address (with_packet q (between_heard s r.address ws)) es (rw (same_test r.address) (or_true (r.address == 255))))

    go : (b c : Bool) → (d == 255) ≡ b → (r.address == d) ≡ c
        → Ends d (if b then finished (with_packet q (broadcast_heard s hs)) else (if c then finished (with_packet q (session_heard r s hs)) else None))
    go true c i j = subst (λ (v : ℕ). Ends v (finished (with_packet q (broadcast_heard s hs)))) (sym (true_test d 255 i)) cast
    go false true i j = subst (λ (v : ℕ). Ends v (finished (with_packet q (session_heard r s hs)))) (true_test r.address d j) session
    go false false i j = whole_elsewhere r.address n k d (with_packet q (between_heard s d ws)) es (rw (i, swap_test d r.address, j) refl)
other_ends r hs ws n k es (AddressClaimed s m) ih orderly = refl
other_ends r hs ws n k es (CannotClaim m) ih orderly = refl
other_ends r hs ws n k es (Request p e s) ih orderly = refl
other_ends r hs ws n k es (Acknowledgment c q p e s) ih orderly = refl
other_ends r hs ws n k es (ConnectionManagement s e c) ih orderly = refl
other_ends r hs ws n k es Other ih orderly = refl

-- ---- over all that happened

are_alike : (r : StationSettings) → r.address ≢ 255 → (path : List Reception) → TakesPart r path → AreAlike r (readings path) (readings_beside path)
are_alike r one [] takes = record { held = address_first r; owners = λ a ne. refl; casts = λ a ne. refl; sessions = λ a ne. refl; own = λ d. refl }
are_alike r one (Own e ∷ older) takes = own_step r (readings older) (readings_beside older) e.frame one (are_alike r one older takes.1) takes.0.0 takes.0.1
are_alike r one (Received e ∷ older) takes = other_step r (readings older) (readings_beside older) e.frame one (are_alike r one older takes.1) takes.0
are_alike r one (Missed es ∷ older) takes = record {
  held = address_gap r (length es) (readings older) ∙ (are_alike r one older takes).held;
  owners = λ a ne. refl;
  casts = λ a ne. refl;
  sessions = λ a ne. refl;
  own = λ d. refl;
}

listed : (r : StationSettings) → r.address ≢ 255 → (path : List Reception) → TakesPart r path → (n : ℕ) (k : Kind)
    → entries_heard r n k (readings path) ≡ shown_to r.address (entries_overheard (Named n) k (readings_beside path))
listed r one [] takes n k = refl
listed r one (Own e ∷ older) takes n k =
    listed r one older takes.1 n k
    ∙ (rw (own_ends_none r (readings older) (readings_beside older) (group_of e.frame) (are_alike r one older takes.1) takes.0.0) refl)
listed r one (Received e ∷ older) takes n k =
    ap (put n k (ended_by r (group_of e.frame) (readings older))) (listed r one older takes.1 n k)
    ∙ other_ends r (readings older) (readings_beside older) n k (entries_overheard (Named n) k (readings_beside older)) (group_of e.frame) (are_alike r one older takes.1) takes.0
listed r one (Missed es ∷ older) takes n k = listed r one older takes n k

-- what a station lists is what is overheard as sent to all or to it
pub listed_beside : (r : StationSettings) → IsFit r → (path : List Reception) → TakesPart r path → (n : ℕ) (k : Kind)
    → entries_heard r n k (readings path) ≡ shown_to r.address (entries_overheard (Named n) k (readings_beside path))
listed_beside r fit path takes n k = listed r (λ e. let l = fit.address in let f : r.address ≤ 253 = l in omega (arith, e)) path takes n k
