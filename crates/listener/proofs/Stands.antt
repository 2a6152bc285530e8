-- The tables have what was overheard: at first of no readings, and after each reading of that one in front of the others.
use Rattle.std.proofs.Common.{◌≡◌, ℕ, zero, suc, ◌+◌, ◌^◌, ◌<◌, Bool, true, false, ◌==◌, ◌&&◌, List, [], ◌∷◌, Option, Some, None, if◌then◌else◌, length, refl, sym, ap, ◌∙◌, subst, arith}
use Rattle.std.specs.Prelude.{◌-◌, ◌≤◌, nat_lt, nat_le}
use Rattle.std.proofs.Math.Nat.{min-eq_left}
use Rattle.can_frame.specs.Fields.{pgn_of, pdu_specific_of, source_of}
use Rattle.can_frame.specs.FrameValue.{FrameValue}
use Rattle.can_frame.specs.declared.reading.Reading.{Reading}
use Rattle.can_frame.specs.declared.reading.Reading.TheVariants.{Frame, Gap, Empty}
use Rattle.parameter_group.specs.Group.{Acknowledgment, AddressClaimed, CannotClaim, ConnectionManagement, DataTransfer, Diagnostic, Group, Other, Request, control_group, group_by, group_of}
use Rattle.transport.specs.ControlMessage.{control_of}
use Rattle.transport.specs.declared.control.Control.{Control}
use Rattle.transport.specs.declared.control.Control.TheVariants.{Abort, Bam, Cts, EndAck, Rts}
use Rattle.reassembly.specs.Pairs.{no_pairs}
use Rattle.reassembly.specs.TableLaws.{at-empty}
use Rattle.reassembly.specs.Tables.{empty_table}
use Rattle.bus_model.specs.Overheard.{HalfSent, gaps_heard}
use Rattle.bus_model.specs.Heard.{addressless, counted}
use Rattle.entry_lists.specs.KeptValue.{KeptValue, kept_under}
use Rattle.entry_lists.proofs.RowClaims.{addressless_row}
use Rattle.parameter_group.specs.Laws.{sender, sender_below}
use Rattle.listener.specs.ListenerSteps.{group_taken, new_listener, after_listening}
use Rattle.listener.specs.ListenerValue.{HasOverheard, ListenerValue, gaps_alone}
use Rattle.listener.proofs.Hears.{Hears, aborts, acknowledges, bam, cannot_claims, claims, ends_none, heard_so, left_so, packet, rts, single}
use Rattle.listener.proofs.Places.{none_at, none_places}

-- where a frame goes, one byte too
abbrev pub receiver : Group → ℕ
receiver (ConnectionManagement source destination control) = destination
receiver (DataTransfer source destination bytes) = destination
receiver _ = 0

below_if : (b : Bool) (x y : Group) → receiver x < 256 → receiver y < 256 → receiver (if b then x else y) < 256
below_if true x y p q = p
below_if false x y p q = q

below_control : (d src : ℕ) (o : Option Control) → d < 256 → receiver (control_group d src o) < 256
below_control d src None lt = omega arith
below_control d src (Some c) lt = lt

below_group : (pgn d src : ℕ) (bytes : List ℕ) → d < 256 → receiver (group_by pgn d src bytes) < 256
below_group pgn d src bytes lt =
    let zero_below : 0 < 256 = omega arith in
    below_if (pgn == 60928) _ _
    (below_if ((d == 255) && (length bytes == 8)) _ _ (below_if (nat_lt src 254) _ _ zero_below (below_if (src == 254) _ _ zero_below zero_below)) zero_below)
    (below_if (pgn == 59904) _ _
    (below_if (nat_le 3 (length bytes)) _ _ zero_below zero_below)
    (below_if (pgn == 59392) _ _
    (below_if (length bytes == 8) _ _ zero_below zero_below)
    (below_if (pgn == 65226) _ _ zero_below (below_if (pgn == 65227) _ _ zero_below (below_if (pgn == 65231) _ _ zero_below
    (below_if (pgn == 60416) _ _ (below_control d src (control_of bytes) lt) (below_if (pgn == 60160) _ _ lt zero_below)))))))

pub receiver_below : (f : FrameValue) → receiver (group_of f) < 256
unfolding group_of
receiver_below f = below_group (pgn_of f.id) (pdu_specific_of f.id) (source_of f.id) f.bytes (omega arith)

-- whatever a frame says
pub group_heard : (l : ListenerValue) (h : List Reading) (g : Group) → sender g < 256 → receiver g < 256 → HasOverheard l h → Hears g (group_taken l g) h
group_heard l h (AddressClaimed src n) lt lu st = claims l h src n lt st
group_heard l h (CannotClaim n) lt lu st = cannot_claims l h n st
group_heard l h (Acknowledgment c q p d src) lt lu st = acknowledges l h c q p d src lt st
group_heard l h (Diagnostic k src bytes) lt lu st = single l h k src bytes lt st
group_heard l h (ConnectionManagement src d (Bam size packets pgn)) lt lu st = bam l h src d size packets pgn lt lu st
group_heard l h (ConnectionManagement src d (Rts size packets most pgn)) lt lu st = rts l h src d size packets most pgn lt lu st
group_heard l h (ConnectionManagement src d (Abort reason pgn)) lt lu st = aborts l h src d reason pgn lt lu st
group_heard l h (DataTransfer src d bytes) lt lu st = packet l h src d bytes lt lu st
group_heard l h (Request p d src) lt lu st = ends_none (Request p d src) l h refl (left_so (Request p d src) l h (λ a o. refl) (λ a e u v. refl) (λ n. refl) refl st) st.unread
group_heard l h (ConnectionManagement src d (Cts granted next pgn)) lt lu st =
    ends_none (ConnectionManagement src d (Cts granted next pgn)) l h refl (left_so (ConnectionManagement src d (Cts granted next pgn)) l h (λ a o. refl) (λ a e u v. refl) (λ n. refl) refl st) st.unread
group_heard l h (ConnectionManagement src d (EndAck size packets pgn)) lt lu st =
    ends_none (ConnectionManagement src d (EndAck size packets pgn)) l h refl (left_so (ConnectionManagement src d (EndAck size packets pgn)) l h (λ a o. refl) (λ a e u v. refl) (λ n. refl) refl st) st.unread
group_heard l h Other lt lu st = ends_none Other l h refl (left_so Other l h (λ a o. refl) (λ a e u v. refl) (λ n. refl) refl st) st.unread

gap_heard : (l : ListenerValue) (h : List Reading) (n : ℕ) → HasOverheard l h → HasOverheard (after_listening l (Gap n)) (Gap n ∷ h)
gap_heard l h n st = record {
  places = none_places;
  owners = λ a below. at-empty a;
  pairs = λ a d u v. none_at a d u;
  rows = λ m. addressless_row m l.owners (kept_under l.rows m) ∙ ap addressless (st.rows m);
  names = st.names;
  gaps = ap (λ v. counted (v + 1)) st.gaps;
  missed = ap (λ v. counted (v + n)) st.missed;
  unread = st.unread;
}

empty_heard : (l : ListenerValue) (h : List Reading) → HasOverheard l h → HasOverheard l (Empty ∷ h)
empty_heard l h st = record { places = st.places; owners = st.owners; pairs = st.pairs; rows = st.rows; names = st.names; gaps = st.gaps; missed = st.missed; unread = st.unread }

pub overheard_after : (l : ListenerValue) (h : List Reading) (x : Reading) → HasOverheard l h → HasOverheard (after_listening l x) (x ∷ h)
overheard_after l h Empty st = empty_heard l h st
overheard_after l h (Gap n) st = gap_heard l h n st
overheard_after l h (Frame f) st = heard_so f (group_taken l (group_of f)) h (group_heard l h (group_of f) (sender_below f) (receiver_below f) st)

-- a new listener, which has read nothing
pub overheard_nothing : (l : ListenerValue) → l ≡ new_listener → HasOverheard l []
overheard_nothing l e = subst (λ (v : ListenerValue). HasOverheard v []) (sym e) (record {
  places = none_places;
  owners = λ a below. at-empty a;
  pairs = λ a d u v. none_at a d u;
  rows = λ n. refl;
  names = refl;
  gaps = refl;
  missed = refl;
  unread = refl;
})

-- one that has read gaps alone
gaps_heard_alone : (n : ℕ) → n < 2 ^ 64 → gaps_heard (gaps_alone n) ≡ n
gaps_heard_alone zero below = refl
gaps_heard_alone (suc n) below =
    let next : n + 1 ≤ 2 ^ 64 - 1 = omega (arith, below) in
    ap (λ (k : ℕ). counted (k + 1)) (gaps_heard_alone n (omega (arith, below))) ∙ (min-eq_left next ∙ omega arith)

overheard_gaps : (n : ℕ) → HasOverheard (record new_listener { gaps = gaps_heard (gaps_alone n) }) (gaps_alone n)
overheard_gaps zero = overheard_nothing new_listener refl
overheard_gaps (suc n) = gap_heard (record new_listener { gaps = gaps_heard (gaps_alone n) }) (gaps_alone n) 0 (overheard_gaps n)

-- the parts of a new listener
pub overheard_by_parts : (owners : List (Option ℕ)) (rows : List (ℕ × KeptValue)) (pairs : List (List (Option HalfSent))) (gaps : ℕ) → gaps < 2 ^ 64 → owners ≡ empty_table → rows ≡ [] → pairs ≡ no_pairs
    → HasOverheard (record { owners = owners; rows = rows; pairs = pairs; gaps = gaps; missed = 0; unread = 0 }) (gaps_alone gaps)
overheard_by_parts owners rows pairs gaps below o r p =
    subst (λ (v : ListenerValue). HasOverheard v (gaps_alone gaps)) (rw (o, r, p, gaps_heard_alone gaps below) refl) (overheard_gaps gaps)

-- at a call's answer
pub stands_by_reading : (l m : ListenerValue) (h : List Reading) (x : Reading) → m ≡ after_listening l x → HasOverheard l h → HasOverheard m (x ∷ h)
stands_by_reading l m h x e st = subst (λ (v : ListenerValue). HasOverheard v (x ∷ h)) (sym e) (overheard_after l h x st)

pub stands_by_group : (l m : ListenerValue) (h : List Reading) (f : FrameValue) (g : Group) → group_of f ≡ g → m ≡ group_taken l g → HasOverheard l h → HasOverheard m (Frame f ∷ h)
stands_by_group l m h f g is e st = stands_by_reading l m h (Frame f) (e ∙ ap (group_taken l) (sym is)) st
