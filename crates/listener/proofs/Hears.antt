-- After each thing that a frame can say, the tables have of each address and pair what was then overheard.
use Rattle.std.proofs.Common.{◌≡◌, ℕ, ◌+◌, ◌<◌, Bool, true, false, not, ◌&&◌, ◌||◌, ◌==◌, List, ◌∷◌, Option, Some, None, is_some, if◌then◌else◌, unwrap_or, map, refl, sym, ap, ◌∙◌, subst}
use Rattle.std.specs.Prelude.{slice_set}
use Rattle.std.specs.Option.{option_map}
use Rattle.std.proofs.lemmas.Bool.{eqb-true}
use Rattle.address_claim.specs.Claiming.{is_held}
use Rattle.can_frame.specs.FrameValue.{FrameValue}
use Rattle.can_frame.specs.declared.reading.Reading.{Reading}
use Rattle.can_frame.specs.declared.reading.Reading.TheVariants.{Frame}
use Rattle.dm_messages.specs.View.{decoding}
use Rattle.dm_messages.specs.declared.kind.Kind.{Kind}
use Rattle.dm_messages.specs.declared.shown.Shown.{Shown}
use Rattle.parameter_group.specs.Group.{Acknowledgment, AddressClaimed, CannotClaim, ConnectionManagement, DataTransfer, Diagnostic, Group, group_of}
use Rattle.transport.specs.declared.control.Control.TheVariants.{Abort, Bam, Rts}
use Rattle.reassembly.specs.Pairs.{pair_at, with_pair}
use Rattle.reassembly.specs.Partials.{after_packet, with_packet}
use Rattle.reassembly.specs.Tables.{at, empty_table}
use Rattle.bus_model.specs.Heard.{ack_in_row, counted, kind_of, missed_count, names_after, names_heard, owner_heard, row_with_ack, with_name, without_address}
use Rattle.bus_model.specs.Overheard.{HalfSent, MessageSent, newly_sent, between_after, between_heard, gaps_heard, is_lost_on, is_pair, kept_by_name, row_overheard, row_with_group, sent_by, sent_whole, unread_overheard, who_heard}
use Rattle.bus_model.specs.Traffic.{owner_after}
use Rattle.bus_model.specs.declared.who.Who.{Who}
use Rattle.entry_lists.specs.KeptValue.{kept_under, nothing_kept, with_ack, with_claimed}
use Rattle.entry_lists.specs.KnownRows.{row_known}
use Rattle.entry_lists.proofs.RowClaims.{kept_once_claimed, names_once_claimed, no_address, row_acknowledged, row_of_claimant, row_of_other}
use Rattle.reassembly.specs.TableLaws.{written_place}
use Rattle.entry_lists.proofs.RowLemmas.{kept_under-changed, named, names-changed}
use Rattle.listener.specs.ListenerSteps.{after_acknowledging, after_announcing, after_claiming, after_message, after_packet_between, after_showing, group_taken, in_one_frame, whole_with, without_session_between}
use Rattle.listener.specs.ListenerValue.{AreFor256, HasOverheard, ListenerValue, who_in}
use Rattle.listener.proofs.Places.{dropped_places, owner_places, pair_places, pair_written, source_dropped}
use Rattle.listener.proofs.Underway.{kept_none, kept_whole}

-- the tables after one frame that says this, but for the count of messages that cannot be read
pub record HearsBut (g : Group) (l : ListenerValue) (h : List Reading) : Type 0 where
  pub places : AreFor256 l.owners l.pairs
  pub owners : (a : ℕ) → a < 256 → at l.owners a ≡ owner_after a g (owner_heard a h)
  pub pairs : (a d : ℕ) → a < 256 → d < 256 → pair_at l.pairs a d ≡ between_after a d g (who_heard a h) (between_heard a d h)
  pub rows : (n : ℕ) → row_known l.owners n (kept_under l.rows n) ≡ row_with_group n g h (row_overheard n h)
  pub names : map named l.rows ≡ names_after g (names_heard h)
  pub gaps : l.gaps ≡ gaps_heard h
  pub missed : l.missed ≡ missed_count h

-- and with it
pub record Hears (g : Group) (l : ListenerValue) (h : List Reading) : Type 0 where
  pub but : HearsBut g l h
  pub unread : l.unread ≡ (if is_lost_on (sent_by g h) then counted (unread_overheard h + 1) else unread_overheard h)

pub heard_so : (f : FrameValue) (l : ListenerValue) (h : List Reading) → Hears (group_of f) l h → HasOverheard l (Frame f ∷ h)
heard_so f l h s = record {
  places = s.but.places;
  owners = s.but.owners;
  pairs = s.but.pairs;
  rows = s.but.rows;
  names = s.but.names;
  gaps = s.but.gaps;
  missed = s.but.missed;
  unread = s.unread;
}

-- a frame that ends no message
pub ends_none : (g : Group) (l : ListenerValue) (h : List Reading) → sent_by g h ≡ None → HearsBut g l h → l.unread ≡ unread_overheard h → Hears g l h
ends_none g l h none but unread = record { but = but; unread = rw none unread }

-- a message that ends is read
pub ending : (g : Group) (l : ListenerValue) (h : List Reading) (o : Option MessageSent) → o ≡ sent_by g h → HearsBut g l h → l.unread ≡ unread_overheard h → Hears g (after_message l o) h
ending g l h None e but unread = ends_none g l h (sym e) but unread
ending g l h (Some m) e but unread = go (decoding m.bytes) refl
  where
    counts : (v : Option Shown) → decoding m.bytes ≡ v
        → (if is_lost_on (sent_by g h) then counted (unread_overheard h + 1) else unread_overheard h) ≡ (if not (is_some v) then counted (unread_overheard h + 1) else unread_overheard h)
    counts v i = rw (← e, i) refl

    go : (v : Option Shown) → decoding m.bytes ≡ v → Hears g (after_showing l v) h
    go None i = record {
      but = record { places = but.places; owners = but.owners; pairs = but.pairs; rows = but.rows; names = but.names; gaps = but.gaps; missed = but.missed };
      unread = ap (λ (x : ℕ). counted (x + 1)) unread ∙ sym (counts None i);
    }
    go (Some v) i = record { but = but; unread = unread ∙ sym (counts (Some v) i) }

pub whose : (l : ListenerValue) (h : List Reading) (s : ℕ) → s < 256 → HasOverheard l h → who_in l s ≡ who_heard s h
whose l h s lt st = rw (st.owners s lt, st.gaps) refl

-- ---- a frame that leaves the tables

pub left_so : (g : Group) (l : ListenerValue) (h : List Reading) → ((a : ℕ) (o : Option ℕ) → owner_after a g o ≡ o) → ((a d : ℕ) → a < 256 → d < 256 → between_after a d g (who_heard a h) (between_heard a d h) ≡ between_heard a d h)
    → ((n : ℕ) → row_with_group n g h (row_overheard n h) ≡ row_overheard n h) → names_after g (names_heard h) ≡ names_heard h → HasOverheard l h → HearsBut g l h
left_so g l h own pair row names st = record {
  places = st.places;
  owners = λ a below. st.owners a below ∙ sym (own a (owner_heard a h));
  pairs = λ a d u v. st.pairs a d u v ∙ sym (pair a d u v);
  rows = λ n. st.rows n ∙ sym (row n);
  names = st.names ∙ sym names;
  gaps = st.gaps;
  missed = st.missed;
}

-- ---- claims

pub claims : (l : ListenerValue) (h : List Reading) (src m : ℕ) → src < 256 → HasOverheard l h → Hears (AddressClaimed src m) (after_claiming l src m) h
claims l h src m lt st = ends_none (AddressClaimed src m) (after_claiming l src m) h refl (record {
  places = places_now (is_held (at l.owners src) m);
  owners = λ a below. written_place l.owners (λ v. owner_heard v h) (λ v. Some m) src (Some m) st.places.owners lt refl st.owners a below;
  pairs = λ a d u v. pairs_now a d u v (is_held (at l.owners src) m) refl;
  rows = λ n. ap (row_known (slice_set l.owners src (Some m)) n) (kept_once_claimed (Some src) l.rows m n) ∙ rw (← st.rows n) (rows_now n (m == n) refl);
  names = names_once_claimed (Some src) l.rows m ∙ ap (with_name m) st.names;
  gaps = st.gaps;
  missed = st.missed;
}) st.unread
  where
    places_now : (b : Bool) → AreFor256 (slice_set l.owners src (Some m)) (if b then l.pairs else slice_set l.pairs src empty_table)
    places_now true = owner_places l.owners l.pairs src (Some m) st.places
    places_now false = owner_places l.owners (slice_set l.pairs src empty_table) src (Some m) (dropped_places l.owners l.pairs src st.places lt)

    owned : (b : Bool) → is_held (at l.owners src) m ≡ b → is_held (owner_heard src h) m ≡ b
    owned b i = ap (λ (o : Option ℕ). is_held o m) (sym (st.owners src lt)) ∙ i

    pairs_now : (a d : ℕ) → a < 256 → d < 256 → (b : Bool) → is_held (at l.owners src) m ≡ b
        → pair_at (if b then l.pairs else slice_set l.pairs src empty_table) a d ≡ (if src == a then kept_by_name m (between_heard a d h) else between_heard a d h)
    pairs_now a d u v true i = st.pairs a d u v ∙ go (src == a) refl
      where
        go : (c : Bool) → (src == a) ≡ c → between_heard a d h ≡ (if c then kept_by_name m (between_heard a d h) else between_heard a d h)
        go true j = sym (kept_whole m a d h (subst (λ (x : ℕ). is_held (owner_heard x h) m ≡ true) (eqb-true src a j) (owned true i)))
        go false j = refl
    pairs_now a d u v false i = source_dropped l.owners l.pairs src a d st.places lt ∙ go (src == a) refl
      where
        go : (c : Bool) → (src == a) ≡ c → (if c then None else pair_at l.pairs a d) ≡ (if c then kept_by_name m (between_heard a d h) else between_heard a d h)
        go true j = sym (kept_none m a d h (subst (λ (x : ℕ). is_held (owner_heard x h) m ≡ false) (eqb-true src a j) (owned false i)))
        go false j = st.pairs a d u v

    rows_now : (n : ℕ) (b : Bool) → (m == n) ≡ b
        → row_known (slice_set l.owners src (Some m)) n (if b then Some (with_claimed (Some src) (unwrap_or (kept_under l.rows n) nothing_kept)) else kept_under l.rows n)
        ≡ (if b then Some (record { address = Some src; ack = ack_in_row (row_known l.owners n (kept_under l.rows n)) })
        else without_address src (row_known l.owners n (kept_under l.rows n)))
    rows_now n true e = row_of_claimant l.owners src m n (kept_under l.rows n) st.places.owners lt e
    rows_now n false e = row_of_other l.owners src m n (kept_under l.rows n) st.places.owners lt e

pub cannot_claims : (l : ListenerValue) (h : List Reading) (m : ℕ) → HasOverheard l h → Hears (CannotClaim m) (group_taken l (CannotClaim m)) h
cannot_claims l h m st = ends_none (CannotClaim m) (group_taken l (CannotClaim m)) h refl (record {
  places = st.places;
  owners = st.owners;
  pairs = st.pairs;
  rows = λ n. ap (row_known l.owners n) (kept_once_claimed None l.rows m n) ∙ rw (← st.rows n) (go n (m == n));
  names = names_once_claimed None l.rows m ∙ ap (with_name m) st.names;
  gaps = st.gaps;
  missed = st.missed;
}) st.unread
  where
    go : (n : ℕ) (b : Bool)
        → row_known l.owners n (if b then Some (with_claimed None (unwrap_or (kept_under l.rows n) nothing_kept)) else kept_under l.rows n)
        ≡ (if b then Some (record { address = None; ack = ack_in_row (row_known l.owners n (kept_under l.rows n)) }) else row_known l.owners n (kept_under l.rows n))
    go n true = no_address l.owners n (kept_under l.rows n)
    go n false = refl

pub acknowledges : (l : ListenerValue) (h : List Reading) (control requester pgn d src : ℕ) → src < 256 → HasOverheard l h
    → Hears (Acknowledgment control requester pgn d src) (group_taken l (Acknowledgment control requester pgn d src)) h
acknowledges l h control requester pgn d src lt st = ends_none (Acknowledgment control requester pgn d src) _ h refl (go (at l.owners src) refl) (unread_now (at l.owners src))
  where
    unread_now : (own : Option ℕ) → (after_acknowledging l own (record { control = control; pgn = pgn })).unread ≡ unread_overheard h
    unread_now None = st.unread
    unread_now (Some m) = st.unread

    go : (own : Option ℕ) → at l.owners src ≡ own → HearsBut (Acknowledgment control requester pgn d src) (after_acknowledging l own (record { control = control; pgn = pgn })) h
    go None i = left_so (Acknowledgment control requester pgn d src) l h (λ a o. refl) (λ a d2 u v. refl)
        (λ n. let none : owner_heard src h ≡ None = sym (st.owners src lt) ∙ i in rw none refl) refl st
    go (Some m) i = record {
      places = st.places;
      owners = st.owners;
      pairs = st.pairs;
      rows = λ n.
          ap (row_known l.owners n) (kept_under-changed (with_ack (record { control = control; pgn = pgn })) l.rows m n)
          ∙ (if_row n (m == n) ∙ (let own : owner_heard src h ≡ Some m = sym (st.owners src lt) ∙ i in rw (own, ← st.rows n) refl));
      names = names-changed (with_ack (record { control = control; pgn = pgn })) l.rows m ∙ st.names;
      gaps = st.gaps;
      missed = st.missed;
    }
      where
        if_row : (n : ℕ) (b : Bool)
            → row_known l.owners n (if b then option_map (with_ack (record { control = control; pgn = pgn })) (kept_under l.rows n) else kept_under l.rows n)
            ≡ (if b then row_with_ack control pgn (row_known l.owners n (kept_under l.rows n)) else row_known l.owners n (kept_under l.rows n))
        if_row n true = row_acknowledged l.owners n control pgn (kept_under l.rows n)
        if_row n false = refl

-- ---- messages

pub single : (l : ListenerValue) (h : List Reading) (k : Kind) (src : ℕ) (bytes : List ℕ) → src < 256 → HasOverheard l h
    → Hears (Diagnostic k src bytes) (group_taken l (Diagnostic k src bytes)) h
single l h k src bytes lt st =
    ending (Diagnostic k src bytes) l h (in_one_frame l (Diagnostic k src bytes)) (rw (whose l h src lt st) refl)
    (left_so (Diagnostic k src bytes) l h (λ a o. refl) (λ a d u v. refl) (λ n. refl) refl st) st.unread

-- what is written of a pair is what a frame of it leaves there
pub announces : (g : Group) (l : ListenerValue) (h : List Reading) (src e size pgn : ℕ) → src < 256 → e < 256 → HasOverheard l h
    → ((a : ℕ) (o : Option ℕ) → owner_after a g o ≡ o) → ((n : ℕ) → row_with_group n g h (row_overheard n h) ≡ row_overheard n h) → names_after g (names_heard h) ≡ names_heard h → sent_by g h ≡ None
    → ((a d : ℕ) (who : Who) (o : Option HalfSent) → between_after a d g who o ≡ (if src == a && e == d then newly_sent (kind_of pgn) size who else o))
    → Hears g (after_announcing l src e size pgn) h
announces g l h src e size pgn lt lu st own row names none pair = ends_none g (after_announcing l src e size pgn) h none (record {
  places = pair_places l.owners l.pairs src e (newly_sent (kind_of pgn) size (who_in l src)) st.places lt;
  owners = λ a below. st.owners a below ∙ sym (own a (owner_heard a h));
  pairs = λ a d u v.
      pair_written l.owners l.pairs src e a d (newly_sent (kind_of pgn) size (who_in l src)) st.places lt lu
      ∙ (go a d (src == a && e == d) refl ∙ (ap (λ (o : Option HalfSent). if src == a && e == d then newly_sent (kind_of pgn) size (who_heard a h) else o) (st.pairs a d u v)
      ∙ sym (pair a d (who_heard a h) (between_heard a d h))));
  rows = λ n. st.rows n ∙ sym (row n);
  names = st.names ∙ sym names;
  gaps = st.gaps;
  missed = st.missed;
}) st.unread
  where
    source_is : (b c : Bool) (a : ℕ) → (src == a) ≡ b → (b && c) ≡ true → src ≡ a
    source_is true c a i j = eqb-true src a i
    source_is false c a i j = absurd cc

    go : (a d : ℕ) (b : Bool) → (src == a && e == d) ≡ b
        → (if b then newly_sent (kind_of pgn) size (who_in l src) else pair_at l.pairs a d) ≡ (if b then newly_sent (kind_of pgn) size (who_heard a h) else pair_at l.pairs a d)
    go a d true i = ap (newly_sent (kind_of pgn) size) (whose l h src lt st ∙ ap (λ (x : ℕ). who_heard x h) (source_is (src == a) (e == d) a refl i))
    go a d false i = refl

-- to all
to_all : (a d s e : ℕ) → (e == 255) ≡ true → (is_pair a d s e && d == 255) ≡ (s == a && e == d)
to_all a d s e all = go (s == a) (e == d) refl
  where
    at : (e == d) ≡ true → (d == 255) ≡ true
    at i = subst (λ (x : ℕ). (x == 255) ≡ true) (eqb-true e d i) all

    go : (b c : Bool) → (e == d) ≡ c → ((b && c) && d == 255) ≡ (b && c)
    go false c i = refl
    go true false i = refl
    go true true i = rw (at i) refl

not_to_all : (a d s e : ℕ) → (e == 255) ≡ false → (is_pair a d s e && not (d == 255)) ≡ (s == a && e == d)
not_to_all a d s e one = go (s == a) (e == d) refl
  where
    at : (e == d) ≡ true → (d == 255) ≡ false
    at i = subst (λ (x : ℕ). (x == 255) ≡ false) (eqb-true e d i) one

    go : (b c : Bool) → (e == d) ≡ c → ((b && c) && not (d == 255)) ≡ (b && c)
    go false c i = refl
    go true false i = refl
    go true true i = rw (at i) refl

never_all : (a d s e : ℕ) → (e == 255) ≡ false → (is_pair a d s e && d == 255) ≡ false
never_all a d s e one = go (s == a) (e == d) refl
  where
    at : (e == d) ≡ true → (d == 255) ≡ false
    at i = subst (λ (x : ℕ). (x == 255) ≡ false) (eqb-true e d i) one

    go : (b c : Bool) → (e == d) ≡ c → ((b && c) && d == 255) ≡ false
    go false c i = refl
    go true false i = refl
    go true true i = at i

never_one : (a d s e : ℕ) → (e == 255) ≡ true → (is_pair a d s e && not (d == 255)) ≡ false
never_one a d s e all = go (s == a) (e == d) refl
  where
    at : (e == d) ≡ true → (d == 255) ≡ true
    at i = subst (λ (x : ℕ). (x == 255) ≡ true) (eqb-true e d i) all

    go : (b c : Bool) → (e == d) ≡ c → ((b && c) && not (d == 255)) ≡ false
    go false c i = refl
    go true false i = refl
    go true true i = rw (at i) refl

pub bam : (l : ListenerValue) (h : List Reading) (s e size packets pgn : ℕ) → s < 256 → e < 256 → HasOverheard l h
    → Hears (ConnectionManagement s e (Bam size packets pgn)) (group_taken l (ConnectionManagement s e (Bam size packets pgn))) h
bam l h s e size packets pgn lt lu st = go (e == 255) refl
  where
    g : Group
    g = ConnectionManagement s e (Bam size packets pgn)

    go : (b : Bool) → (e == 255) ≡ b → Hears g (if b then after_announcing l s e size pgn else l) h
    go true i = announces g l h s e size pgn lt lu st (λ a o. refl) (λ n. refl) refl refl (λ a d who o. rw (to_all a d s e i) refl)
    go false i = ends_none g l h refl (left_so g l h (λ a o. refl) (λ a d u v. rw (never_all a d s e i) refl) (λ n. refl) refl st) st.unread

pub rts : (l : ListenerValue) (h : List Reading) (s e size packets most pgn : ℕ) → s < 256 → e < 256 → HasOverheard l h
    → Hears (ConnectionManagement s e (Rts size packets most pgn)) (group_taken l (ConnectionManagement s e (Rts size packets most pgn))) h
rts l h s e size packets most pgn lt lu st = go (e == 255) refl
  where
    g : Group
    g = ConnectionManagement s e (Rts size packets most pgn)

    go : (b : Bool) → (e == 255) ≡ b → Hears g (if b then l else after_announcing l s e size pgn) h
    go false i = announces g l h s e size pgn lt lu st (λ a o. refl) (λ n. refl) refl refl (λ a d who o. rw (not_to_all a d s e i) refl)
    go true i = ends_none g l h refl (left_so g l h (λ a o. refl) (λ a d u v. rw (never_one a d s e i) refl) (λ n. refl) refl st) st.unread

-- ---- aborts

without_places : (owned : List (Option ℕ)) (t : List (List (Option HalfSent))) (s e : ℕ) → AreFor256 owned t → s < 256 → AreFor256 owned (without_session_between s e t)
without_places owned t s e places lt = go (e == 255)
  where
    go : (b : Bool) → AreFor256 owned (if b then t else with_pair t s e None)
    go true = places
    go false = pair_places owned t s e None places lt

without_at : (owned : List (Option ℕ)) (t : List (List (Option HalfSent))) (s e a d : ℕ) → AreFor256 owned t → s < 256 → e < 256
    → pair_at (without_session_between s e t) a d ≡ (if is_pair a d s e && not (d == 255) then None else pair_at t a d)
without_at owned t s e a d places lt lu = go (e == 255) refl
  where
    go : (b : Bool) → (e == 255) ≡ b → pair_at (if b then t else with_pair t s e None) a d ≡ (if is_pair a d s e && not (d == 255) then None else pair_at t a d)
    go true i = rw (never_one a d s e i) refl
    go false i = rw (not_to_all a d s e i) (pair_written owned t s e a d None places lt lu)

either : {X : Type 0} (p q r u : Bool) (x : Option X) → (if (p && q) && u then None else (if r && u then None else x)) ≡ (if (r || (q && p)) && u then None else x)
either true true true true x = refl
either true true true false x = refl
either true true false true x = refl
either true true false false x = refl
either true false true true x = refl
either true false true false x = refl
either true false false true x = refl
either true false false false x = refl
either false true true true x = refl
either false true true false x = refl
either false true false true x = refl
either false true false false x = refl
either false false true true x = refl
either false false true false x = refl
either false false false true x = refl
either false false false false x = refl

pub aborts : (l : ListenerValue) (h : List Reading) (s e reason pgn : ℕ) → s < 256 → e < 256 → HasOverheard l h
    → Hears (ConnectionManagement s e (Abort reason pgn)) (group_taken l (ConnectionManagement s e (Abort reason pgn))) h
aborts l h s e reason pgn lt lu st = ends_none (ConnectionManagement s e (Abort reason pgn)) _ h refl (record {
  places = without_places l.owners (without_session_between s e l.pairs) e s first lu;
  owners = st.owners;
  pairs = λ a d u v.
      without_at l.owners (without_session_between s e l.pairs) e s a d first lu lt
      ∙ (ap (λ (o : Option HalfSent). if is_pair a d e s && not (d == 255) then None else o) (without_at l.owners l.pairs s e a d st.places lt lu)
      ∙ (either (e == a) (s == d) (is_pair a d s e) (not (d == 255)) (pair_at l.pairs a d)
      ∙ ap (λ (o : Option HalfSent). if (is_pair a d s e || is_pair d a s e) && not (d == 255) then None else o) (st.pairs a d u v)));
  rows = st.rows;
  names = st.names;
  gaps = st.gaps;
  missed = st.missed;
}) st.unread
  where
    first : AreFor256 l.owners (without_session_between s e l.pairs)
    first = without_places l.owners l.pairs s e st.places lt

-- ---- packets

message_with_pairs : (l : ListenerValue) (o : Option MessageSent) (t : List (List (Option HalfSent))) → after_message (record l { pairs = t }) o ≡ (let ended = after_message l o in record ended { pairs = t })
message_with_pairs l None t = refl
message_with_pairs l (Some m) t = go (decoding m.bytes)
  where
    go : (v : Option Shown) → after_showing (record l { pairs = t }) v ≡ (let ended = after_showing l v in record ended { pairs = t })
    go None = refl
    go (Some v) = refl

pub packet : (l : ListenerValue) (h : List Reading) (s e : ℕ) (q : List ℕ) → s < 256 → e < 256 → HasOverheard l h → Hears (DataTransfer s e q) (after_packet_between l s e q) h
packet l h s e q lt lu st =
    subst (λ (x : ListenerValue). Hears (DataTransfer s e q) x h) (message_with_pairs l (whole_with l s e q) grown)
    (ending (DataTransfer s e q) (record l { pairs = grown }) h (whole_with l s e q) (ap (λ (o : Option HalfSent). sent_whole e (with_packet q o)) (st.pairs s e lt lu)) (record {
      places = pair_places l.owners l.pairs s e (after_packet q (pair_at l.pairs s e)) st.places lt;
      owners = st.owners;
      pairs = λ a d u v. pair_written l.owners l.pairs s e a d (after_packet q (pair_at l.pairs s e)) st.places lt lu ∙ go a d u v (s == a) (e == d) refl refl;
      rows = st.rows;
      names = st.names;
      gaps = st.gaps;
      missed = st.missed;
    }) st.unread)
  where
    grown : List (List (Option HalfSent))
    grown = with_pair l.pairs s e (after_packet q (pair_at l.pairs s e))

    go : (a d : ℕ) → a < 256 → d < 256 → (b c : Bool) → (s == a) ≡ b → (e == d) ≡ c
        → (if b && c then after_packet q (pair_at l.pairs s e) else pair_at l.pairs a d) ≡ (if b && c then after_packet q (between_heard a d h) else between_heard a d h)
    go a d u v true true i j =
        ap (after_packet q) (ap (λ (x : ℕ). pair_at l.pairs x e) (eqb-true s a i) ∙ (ap (λ (x : ℕ). pair_at l.pairs a x) (eqb-true e d j) ∙ st.pairs a d u v))
    go a d u v true false i j = st.pairs a d u v
    go a d u v false c i j = st.pairs a d u v
